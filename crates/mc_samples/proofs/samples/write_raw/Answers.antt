-- `mc_samples::samples::write_raw` meets its contract.
use mathlib.Core.Path.{◌≡◌, ◌∙◌}
use Prim.Native.Nat.{◌*◌}
use native.Mathlib.Omega.{arith}
use Rattle.mc_samples.proofs.Counted.{counted-none, count-most, place-counted, place-skipped, all-counted}
use Rattle.mc_samples.proofs.SamplesWritten.{own-fits, written_none, written-skip, written-place, written_all}
use Rattle.mc_samples.proofs.samples.write_raw.Goals as goal
use Rattle.mc_samples.proofs.samples.write_raw.Goals.{then-n-ne0, else-n-ne0}

pub loop-i-init : goal.loop-i-init
loop-i-init c = (omega arith, search written_none, let z : 12 * 0 ≡ 0 = omega arith in rw z (counted-none _))

pub write_place-excess_codes-requires : goal.write_place-excess_codes-requires
write_place-excess_codes-requires c =
    let p = c.requires in record { place = (own-fits _ (p.0 _ (omega arith)) c.if-n-ne0.true, omega arith); place_fits = p.1.place _ (omega arith) c.if-n-ne0.true }

pub overflow_add-excess_codes : goal.overflow_add-excess_codes
overflow_add-excess_codes c =
    omega (arith, count-most _ _ _ c.loop-i.invariant.2, count-most _ _ _ c.write_place-excess_codes.ensures.1)

pub loop-i-preserved : goal.loop-i-preserved
loop-i-preserved c =
    let counted = c.loop-i.invariant.2 in (
      omega arith,
      elim c.if-n-ne0.branch [ then-n-ne0 w ↦ search written-place | else-n-ne0 w ↦ search written-skip ],
      elim c.if-n-ne0.branch [ then-n-ne0 w ↦ w.excess_codes-is ∙ place-counted _ _ _ _ counted _ w.write_place-excess_codes.ensures.1 | else-n-ne0 w ↦ w.excess_codes-is ∙ place-skipped _ _ _ _ counted w.if-n-ne0.false ],
    )

pub returns : goal.returns
returns c = (search written_all, all-counted _ _ _ _ c.loop-i.invariant.2 c.loop-i.invariant.0 (omega arith))
