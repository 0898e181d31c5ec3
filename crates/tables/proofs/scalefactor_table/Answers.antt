-- `tables::scalefactor_table` meets its contract: one test computes that the constant is the table.
use mathlib.Core.Path.{refl}
use lib.Ieee.{of_bits}
use Rattle.tables.specs.Scalefactor.{scalefactors}
use Rattle.tables.proofs.scalefactor_table.Goals as goal

pub returns : goal.returns
unfolding scalefactors of_bits
returns c = refl
