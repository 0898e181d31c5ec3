-- `mc_values::values::group_coefs` meets its contract.
use Rattle.std.proofs.Common.{rules, [], ◌+◌, ◌*◌}
use Rattle.fill.specs.Tab.{tab}
use Rattle.fill.proofs.FromFn.{tab-made}
use Rattle.mc_fields.specs.Head.{count_at}
use Rattle.mc_values.specs.Values.{coef_by, coefs_in}
use Rattle.mc_values.proofs.values.group_coefs.Goals as goal

pub returns : goal.returns
unfolding coefs_in
returns c = let a = c.args in tab-made [] (λ px. tab (coef_by a.codes.now (count_at a.predsi.now a.g px) (6 * a.g + px)) 3) c.from_fn.ensures.items (λ i low x after called. (search rules, search rules))
