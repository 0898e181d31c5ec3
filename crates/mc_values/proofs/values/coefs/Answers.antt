-- `mc_values::values::coefs` meets its contract.
use Rattle.std.proofs.Common.{rules, []}
use Rattle.fill.proofs.FromFn.{tab-made}
use Rattle.mc_values.specs.Values.{coefs_in, coefs_from}
use Rattle.mc_values.proofs.values.coefs.Goals as goal

pub returns : goal.returns
unfolding coefs_from
returns c = tab-made [] (coefs_in c.args.predsi.now c.args.codes.now) c.from_fn.ensures.items (λ i low x after called. (search rules, search rules))
