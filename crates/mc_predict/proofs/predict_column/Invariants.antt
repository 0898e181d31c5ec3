-- `mc_predict::predict_column` meets its contract. The loop writes the slots of one column, and a slot that it has not come to is as it was.
use Rattle.std.proofs.Common.{ℕ, ◌+◌, ◌*◌, get_or}
use Rattle.std.specs.Float.{nan}
use Rattle.floats.specs.Binary64.{◌⊕◌}
use Rattle.mc_predict.specs.Code.PredictByLine.{pair_sum}
use Rattle.fill.proofs.StridedLaws.{Striding}
use Rattle.mc_predict.proofs.predict_column.Given as goal

abbrev pub invariant-loop-slot : goal.invariant-loop-slot
invariant-loop-slot l =
    let a = l.by.left in
    let b = l.by.right in
    Striding 32 36 (λ (j : ℕ). get_or l.initial.work (l.at + 32 * j) nan ⊕ pair_sum a.delay a.coefs a.line.now b.delay b.coefs b.line.now j) l.at l.initial.work l.work l.slot
