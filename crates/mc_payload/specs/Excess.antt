-- The number of group codes with an excess: of twelve granules of 90 places at the most.
use Rattle.std.specs.Prelude.{◌≡◌, List, ℕ, ◌≤◌}
use Rattle.bits.specs.Syntax.{accepted}
use Rattle.mc_payload.specs.Payload.{Codes}
use Rattle.mc_payload.specs.Record.{excesses_of, excess_codes}
use Rattle.mc_payload.specs.Unpack.{Loan, settings_of, unpack_of}

abbrev pub most : ℕ
most = 1080

abbrev pub NoneMore : Type 0
NoneMore = (l : Loan) (b : List ℕ) (n : ℕ) (c : Codes) (u : ℕ) → unpack_of l b n ≡ accepted c u → excess_codes (excesses_of (settings_of l) c) ≤ most
