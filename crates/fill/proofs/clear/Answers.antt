-- `fill::clear` meets its contract.
use mathlib.Core.Path.{sym, ◌∙◌}
use lib.Ieee.{of_bits}
use lib.ListN.{length}
use Rattle.floats.specs.Binary64.{zero64}
use Rattle.fill.proofs.TabLaws.{tab-constant}
use Rattle.fill.proofs.clear.Goals as goal

pub returns : goal.returns
unfolding of_bits
returns c = c.fill.ensures.after (λ y e. e) ∙ sym (tab-constant zero64 (length c.args.values.now))
