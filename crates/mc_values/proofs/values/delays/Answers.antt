-- `mc_values::values::delays` meets its contract.
use Rattle.std.proofs.Common.{rules, []}
use Rattle.fill.proofs.FromFn.{tab-made}
use Rattle.mc_values.specs.Values.{delays_in, delays_from}
use Rattle.mc_values.proofs.values.delays.Goals as goal

pub returns : goal.returns
unfolding delays_from
returns c = tab-made [] (delays_in c.args.codes.now) c.from_fn.ensures.items (λ i low x after called. (search rules, search rules))
