-- `tables::scalefactor` meets its contract: one test computes that the constant is the table.
use mathlib.Core.Path.{refl}
use lib.Ieee.{of_bits}
use borrow.Author.Rules.{rules}
use Rattle.tables.specs.Scalefactor.{scalefactors}
use Rattle.tables.proofs.Lookup.{scalefactors-at}
use Rattle.tables.proofs.scalefactor.Goals as goal

pub returns : goal.returns
unfolding scalefactors of_bits
returns c = scalefactors-at _ _ c.args.index refl (search rules)
