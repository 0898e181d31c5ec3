-- An entry of a list that is the table of scalefactors.
use Rattle.std.specs.Prelude.{◌≡◌, List, ℕ, ◌<◌, get_or, Float}
use Rattle.floats.specs.Decimal.{decimal}
use Rattle.floats.proofs.Table.{made}
use Rattle.tables.specs.Scalefactor.{numerators, scalefactors, scalefactor_of}

pub scalefactors-at : (l : List Float) (default : Float) (index : ℕ) → l ≡ scalefactors → index < 63 → get_or l index default ≡ scalefactor_of index
unfolding scalefactors scalefactor_of
scalefactors-at l default index e h = made (decimal 14) numerators 0 l default e index h
