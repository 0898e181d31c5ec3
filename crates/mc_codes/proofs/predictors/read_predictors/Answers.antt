-- `mc_codes::predictors::read_predictors` meets its contract.
use Rattle.std.specs.Prelude.{length}
use Rattle.std.proofs.Common.{◌≡◌, ◌+◌, ◌-◌, ◌*◌, rules, ne_eqb, eq-eqb, arith}
use Rattle.bits.specs.Table.{set3}
use Rattle.bit_reader.proofs.ReadLaws.{returned, stays}
use Rattle.mc_payload.specs.Payload.{predictor_at, predictors}
use Rattle.mc_codes.specs.Parts.{predictor_by}
use Rattle.mc_codes.proofs.PartLaws.{next-turn, last-turn, no-turn}
use Rattle.mc_codes.proofs.PutLaws.{four-put}
use Rattle.mc_codes.proofs.predictors.read_predictors.Goals as goal
use Rattle.mc_codes.proofs.predictors.read_predictors.Goals.{then-n-ne0+in_ok-read_predictor, else-n-ne0}

pub loop-q-init : goal.loop-q-init
unfolding predictors
loop-q-init c = stays

pub returns-in_err-read_predictor : goal.returns-in_err-read_predictor
unfolding predictor_at predictor_by
returns-in_err-read_predictor c =
    returned _ _ c.from_residual.ensures.1
    (last-turn _ 48 _ c.loop-q.invariant (omega arith) (rw (ne_eqb _ 0 c.if-n-ne0.true) (c.in_err-read_predictor.ensures _ c.loop-q.codes)))

pub loop-q-preserved : goal.loop-q-preserved
unfolding predictor_at predictor_by set3
loop-q-preserved c =
    let at = 4 * c.loop-q.q in
    let e₁ : at + 1 + 1 ≡ at + 2 = omega arith in
    let e₂ : at + 1 + 2 ≡ at + 3 = omega arith in
    elim c.if-n-ne0.branch [
      | then-n-ne0+in_ok-read_predictor w ↦
          let n : at + 4 - at ≡ 4 = omega arith in
          let long : length w.in_ok-read_predictor.field-0 ≡ 4 = search rules in
          let put = four-put at (at + 4 - at) c.loop-q.codes w.in_ok-read_predictor.field-0 (rw (n, long)) (omega (arith, w.if-n-ne0.array_long)) n in
          rw (w.reader-is, w.codes-is)
          (next-turn _ 48 _ c.loop-q.invariant (omega arith)
          (rw (ne_eqb _ 0 w.if-n-ne0.true, w.copy_from_slice.ensures.after, put, ← e₁, ← e₂) (w.in_ok-read_predictor.ensures c.loop-q.q c.loop-q.codes)))
      | else-n-ne0 w ↦ rw (w.reader-is, w.codes-is) (next-turn _ 48 _ c.loop-q.invariant (omega arith) (rw (eq-eqb _ 0 w.if-n-ne0.false) stays))
    ]

pub returns : goal.returns
returns c = no-turn _ 48 _ c.loop-q.invariant (omega arith)
