-- `mc_values::values::group_delays` meets its contract.
use Rattle.std.proofs.Common.{rules, get_or, ◌+◌, ◌*◌}
use Rattle.fill.proofs.FromFn.{tab-made}
use Rattle.mc_values.specs.Values.{delays_in}
use Rattle.mc_values.proofs.values.group_delays.Goals as goal

pub returns : goal.returns
unfolding delays_in
returns c = tab-made 0 (λ px. get_or c.args.codes.now (4 * (6 * c.args.g + px)) 0) c.from_fn.ensures.items (λ i low x after called. (search rules, search rules))
