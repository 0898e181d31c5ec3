-- `mc_predict::line_of` meets its contract.
use Rattle.std.proofs.Common.{rules}
use Rattle.std.specs.Float.{nan}
use Rattle.mc_predict.specs.Code.PredictByLine.{line_at, line_of}
use Rattle.fill.proofs.FromFn.{tab-made}
use Rattle.mc_predict.proofs.line_of.Goals as goal

pub returns : goal.returns
unfolding line_of
returns c = let a = c.args in tab-made nan (line_at a.history.now a.base.now a.ch a.sb) c.from_fn.ensures.items (λ i low x after called. (search rules, search rules))
