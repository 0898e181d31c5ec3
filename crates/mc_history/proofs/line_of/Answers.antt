-- `mc_history::line_of` meets its contract.
use Rattle.std.proofs.Common.{rules}
use Rattle.std.specs.Float.{nan}
use Rattle.mc_history.specs.HistoryBy.{line_by}
use Rattle.fill.proofs.FromFn.{tab-made}
use Rattle.mc_history.proofs.line_of.Goals as goal

pub returns : goal.returns
returns c = tab-made nan (line_by c.args.base.now c.args.sb) c.from_fn.ensures.items (λ i low x after called. (search rules, search rules))
