-- `mc_places::places::group_bases` meets its contract.
use Rattle.std.proofs.Common.{rules, get_or, ◌/◌, ◌%◌}
use Rattle.fill.proofs.FromFn.{tab-made}
use Rattle.mc_roles.specs.Roles.{base_of}
use Rattle.mc_places.specs.PlacesBy.{group_bases}
use Rattle.mc_places.proofs.places.group_bases.Goals as goal

pub returns : goal.returns
unfolding group_bases
returns c =
    let a = c.args in
    tab-made 0 (λ k. base_of a.pair (get_or a.tc.now (k / 3) 0) (k % 3) a.lr a.base_channels) c.from_fn.ensures.items (λ i low x after called. (search rules, search rules))
