-- `mc_predict::predict_of_both` meets its contract. The loop takes one group a turn.
use Rattle.std.proofs.Common.{rules, arith}
use Rattle.mc_predict.proofs.Laws.Group.{group-predicted, group-passed, groups-end}
use Rattle.mc_predict.proofs.predict_of_both.Goals as goal
use Rattle.mc_predict.proofs.predict_of_both.Goals.{then-s-sb-eq1, else-s-sb-eq1}

pub loop-sb-preserved : goal.loop-sb-preserved
loop-sb-preserved c =
    let a = c.args in
    let f = a.s.now.status in
    let l = c.loop-sb in (
      omega arith,
      elim c.if-s-sb-eq1.branch [
        | then-s-sb-eq1 w ↦ rw (w.work-is, w.predict_subband.ensures, w.line_of.ensures, w.line_of-then-s-sb-eq1.ensures)
            (group-predicted c.pair-pair.result f.mc_prediction f.dyn_cross a.delays.now a.coefs.now a.base.left.now a.base.right.now a.history.now a.work.now l.invariant.1 (omega arith) (search rules) w.if-s-sb-eq1.true)
        | else-s-sb-eq1 w ↦ rw w.work-is (group-passed c.pair-pair.result f.mc_prediction f.dyn_cross a.delays.now a.coefs.now a.base.left.now a.base.right.now a.history.now a.work.now l.invariant.1 w.if-s-sb-eq1.false)
      ],
    )

pub returns : goal.returns
returns c =
    let a = c.args in
    let f = a.s.now.status in
    rw (rw c.from_header.ensures at c.pair-pair.ensures) at
    (groups-end c.pair-pair.result f.mc_prediction f.dyn_cross a.delays.now a.coefs.now a.base.left.now a.base.right.now a.history.now a.work.now c.loop-sb.invariant.1 (omega arith) (search rules))
