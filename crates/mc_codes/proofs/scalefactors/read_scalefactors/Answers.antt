-- `mc_codes::scalefactors::read_scalefactors` meets its contract.
use Rattle.std.specs.Prelude.{◌≡◌, ◌+◌, ◌-◌, ◌*◌, length}
use Rattle.std.proofs.Common.{rules, ne_eqb, eq-eqb, arith}
use Rattle.bits.specs.Table.{set3}
use Rattle.bit_reader.proofs.ReadLaws.{returned, stays}
use Rattle.mc_payload.specs.Payload.{factors_at, scalefactors}
use Rattle.mc_codes.proofs.PartLaws.{next-turn, last-turn, no-turn}
use Rattle.mc_codes.proofs.PutLaws.{three-put}
use Rattle.mc_codes.proofs.scalefactors.read_scalefactors.Goals as goal
use Rattle.mc_codes.proofs.scalefactors.read_scalefactors.Goals.{then-n-ne0+in_ok-read_factors, else-n-ne0}

pub loop-i-init : goal.loop-i-init
unfolding scalefactors
loop-i-init c = stays

pub returns-in_err-read_factors : goal.returns-in_err-read_factors
unfolding factors_at
returns-in_err-read_factors c =
    returned _ _ c.from_residual.ensures.1
    (last-turn _ 96 _ c.loop-i.invariant (omega arith) (rw (ne_eqb _ 0 c.if-n-ne0.true) (c.in_err-read_factors.ensures _ c.loop-i.codes)))

pub loop-i-preserved : goal.loop-i-preserved
unfolding factors_at set3
loop-i-preserved c =
    elim c.if-n-ne0.branch [
      | then-n-ne0+in_ok-read_factors w ↦
          let at = 3 * c.loop-i.i in
          let n : at + 3 - at ≡ 3 = omega arith in
          let long : length w.in_ok-read_factors.field-0 ≡ 3 = search rules in
          let put = three-put at (at + 3 - at) c.loop-i.codes w.in_ok-read_factors.field-0 (rw (n, long)) (omega (arith, w.if-n-ne0.array_long)) n in
          rw (w.reader-is, w.codes-is)
          (next-turn _ 96 _ c.loop-i.invariant (omega arith)
          (rw (ne_eqb _ 0 w.if-n-ne0.true, w.copy_from_slice.ensures.after, put) (w.in_ok-read_factors.ensures _ c.loop-i.codes)))
      | else-n-ne0 w ↦ rw (w.reader-is, w.codes-is) (next-turn _ 96 _ c.loop-i.invariant (omega arith) (rw (eq-eqb _ 0 w.if-n-ne0.false) stays))
    ]

pub returns : goal.returns
returns c = no-turn _ 96 _ c.loop-i.invariant (omega arith)
