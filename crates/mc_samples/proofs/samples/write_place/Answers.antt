-- `mc_samples::samples::write_place` meets its contract.
use mathlib.Core.Path.{◌≡◌, ◌∙◌}
use Prim.Native.Nat.{◌*◌}
use native.Mathlib.Omega.{arith}
use Rattle.mc_values.proofs.ValuesLaws.{values-fit}
use Rattle.fill.proofs.StridedLaws.{strided_none}
use Rattle.mc_samples.proofs.Counted.{counted-none, count-most, count_one, count_none, excess-here}
use Rattle.mc_samples.proofs.SamplesWritten.{place-next}
use Rattle.mc_samples.proofs.samples.write_place.Goals as goal
use Rattle.mc_samples.proofs.samples.write_place.Goals.{then-three-ne0, else-three-ne0}

pub loop-gr-init : goal.loop-gr-init
loop-gr-init c = (omega arith, strided_none _ _ _ _, counted-none _)

pub three_values-three-requires : goal.three_values-three-requires
three_values-three-requires c =
    let p = c.requires in
    let a = c.args in
    values-fit a.n a.granules.now a.i c.loop-gr.gr p.place.0 p.place_fits (omega arith) _ c.class_or_zero-class.ensures

pub overflow_add-excess_codes : goal.overflow_add-excess_codes
overflow_add-excess_codes c = omega (arith, count-most _ _ _ c.loop-gr.invariant.2)

pub loop-gr-preserved : goal.loop-gr-preserved
loop-gr-preserved c =
    let found = c.class_or_zero-class.ensures in
    let p = c.loop-gr.invariant in
    let values = c.three_values-three.ensures in
    let excess = excess-here _ c.requires.place.0 _ found c.args.granules.now c.args.i c.loop-gr.gr _ values.1 in (
      omega arith,
      place-next _ _ _ _ _ found _ values.0 _ _ _ p.1,
      elim c.if-three-ne0.branch [ then-three-ne0 w ↦ w.excess_codes-is ∙ count_one _ _ _ p.2 _ excess w.if-three-ne0.true | else-three-ne0 w ↦ w.excess_codes-is ∙ count_none _ _ _ p.2 _ excess w.if-three-ne0.false ],
    )

pub returns : goal.returns
returns c =
    let e : 3 * c.loop-gr.gr ≡ 36 = omega arith in
    let end : c.loop-gr.gr ≡ 12 = omega arith in
    (rw e at c.loop-gr.invariant.1, rw end at c.loop-gr.invariant.2)
