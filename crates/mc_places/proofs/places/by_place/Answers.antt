-- `mc_places::places::by_place` meets its contract.
use mathlib.Core.Path.{refl}
use native.Mathlib.Omega.{arith}
use Rattle.fill.proofs.InOrder.{starts, more, ends-all}
use Rattle.mc_places.specs.PlacesBy.{places_by}
use Rattle.mc_places.proofs.PlacesBuilt.{group-place, steps-place, own-place}
use Rattle.mc_places.proofs.places.by_place.Goals as goal

pub loop-i-init : goal.loop-i-init
loop-i-init c = (starts (omega arith), (starts (omega arith), (starts (omega arith), starts (omega arith))))

pub steps_by-requires : goal.steps_by-requires
steps_by-requires c = (c.requires.0 _ (omega arith), c.requires.1 _ (omega arith), omega arith, omega arith)

pub loop-i-preserved : goal.loop-i-preserved
loop-i-preserved c =
    let a = c.args in
    let e = c.sbgr_of_subband.ensures.value in
    let h = c.carried-there.ensures in (
      more c.loop-i.invariant.0 (omega arith) (steps-place _ _ e _ _ h a.sources.now a.bases.now a.nb_steps.now a.base_nb_steps.now _ c.steps_by.ensures),
      (
        more c.loop-i.invariant.1.0 (omega arith) (own-place _ _ e _ _ h a.sources.now a.bases.now a.nb_steps.now a.base_nb_steps.now _ c.own_by.ensures),
        (more c.loop-i.invariant.1.1.0 (omega arith) (group-place _ _ e a.sources.now), more c.loop-i.invariant.1.1.1 (omega arith) (group-place _ _ e a.bases.now)),
      ),
    )

pub returns : goal.returns
unfolding places_by
returns c =
    let steps = ends-all c.loop-i.invariant.0 (omega arith) refl in
    let own = ends-all c.loop-i.invariant.1.0 (omega arith) refl in
    let source = ends-all c.loop-i.invariant.1.1.0 (omega arith) refl in
    let base = ends-all c.loop-i.invariant.1.1.1 (omega arith) refl in
    cc
