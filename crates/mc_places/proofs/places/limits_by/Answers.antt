-- `mc_places::places::limits_by` meets its contract.
use Rattle.std.proofs.Common.{rules}
use Rattle.fill.proofs.FromFn.{tab-made}
use Rattle.mc_places.specs.PlacesBy.{limit_by, limits_by}
use Rattle.mc_places.proofs.places.limits_by.Goals as goal

pub returns : goal.returns
unfolding limits_by
returns c = let a = c.args in tab-made 0 (limit_by a.nmch a.phantom a.limit) c.from_fn.ensures.items (λ i low x after called. (search rules, search rules))
