-- `bitalloc::class_index` meets its contract: the first row with the number of steps is the one that `position` finds.
use mathlib.Core.Path.{◌∙◌}
use lib.Ieee.{of_bits}
use Rattle.std.proofs.Common.{rules, tests, nat_eq}
use Rattle.std.proofs.lemmas.Iterator.{YieldsList-from_slice}
use Rattle.std.proofs.lemmas.Iterator.Search.{position_from_yields_List}
use Rattle.bitalloc.specs.declared.QuantClass.{QuantClass}
use Rattle.bitalloc.specs.Classes.{classes}
use Rattle.bitalloc.proofs.Places.{index-position}
use Rattle.bitalloc.proofs.class_index.Goals as goal

pub returns : goal.returns
unfolding classes of_bits
returns c =
    position_from_yields_List (λ (class : QuantClass). nat_eq class.nb_steps c.args.nb_steps) _ _ _ c.position.ensures.ran (YieldsList-from_slice classes c.iter.ensures.rest) (λ x b q k. search (rules, tests))
    ∙ index-position c.args.nb_steps
