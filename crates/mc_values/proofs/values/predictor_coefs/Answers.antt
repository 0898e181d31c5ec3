-- `mc_values::values::predictor_coefs` meets its contract.
use Rattle.std.proofs.Common.{rules}
use Rattle.std.specs.Float.{nan}
use Rattle.fill.proofs.FromFn.{tab-made}
use Rattle.mc_values.specs.Values.{coef_by}
use Rattle.mc_values.proofs.values.predictor_coefs.Goals as goal

pub returns : goal.returns
returns c = tab-made nan (coef_by c.args.codes.now c.args.n c.args.q) c.from_fn.ensures.items (λ i low x after called. (search rules, search rules))
