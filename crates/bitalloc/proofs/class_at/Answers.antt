-- `bitalloc::class_at` meets its contract: the rows of the Rust are those of the definition.
use mathlib.Core.Bool.{false}
use lib.Ieee.{of_bits}
use Rattle.std.proofs.lemmas.List.{get_or_default}
use Rattle.bitalloc.specs.Classes.{row, classes, class_at}
use Rattle.bitalloc.proofs.class_at.Goals as goal

pub returns : goal.returns
unfolding classes class_at of_bits
returns c = get_or_default classes c.args.index _ (row 0 0 0 false 0 0) c.requires
