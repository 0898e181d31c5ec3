-- `mc_places::places::group_sources` meets its contract.
use Rattle.std.proofs.Common.{rules, ◌/◌, ◌%◌}
use Rattle.fill.proofs.FromFn.{tab-made}
use Rattle.mc_fields.specs.Head.{mode_at, second_at}
use Rattle.mc_places.specs.PlacesBy.{source_by, group_sources}
use Rattle.mc_places.proofs.places.group_sources.Goals as goal

pub returns : goal.returns
unfolding group_sources
returns c =
    let a = c.args in
    tab-made 0 (λ k. source_by a.pair (mode_at a.cross.now (k / 3)) (second_at a.cross.now (k / 3)) (k % 3)) c.from_fn.ensures.items (λ i low x after called. (search rules, search rules))
