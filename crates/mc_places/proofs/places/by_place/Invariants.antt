-- `mc_places::places::by_place` meets its contract.
use Rattle.fill.proofs.InOrder.{Filling}
use Rattle.mc_payload.specs.Places.{place}
use Rattle.mc_places.specs.PlacesBy.{carried_by, group_at, steps_by, own_by}
use Rattle.mc_places.proofs.places.by_place.Given as goal

abbrev pub invariant-loop-i : goal.invariant-loop-i
invariant-loop-i l = Filling (place (λ m sb. steps_by l.nb_steps l.base_nb_steps (carried_by l.limits m sb) (group_at l.sources m sb) (group_at l.bases m sb) m sb)) 96 l.initial.steps l.steps l.i
    × (Filling (place (λ m sb. own_by l.nb_steps (carried_by l.limits m sb) (group_at l.sources m sb) m sb)) 96 l.initial.own l.own l.i
    × (Filling (place (group_at l.sources)) 96 l.initial.source l.source l.i × Filling (place (group_at l.bases)) 96 l.initial.base l.base l.i))
