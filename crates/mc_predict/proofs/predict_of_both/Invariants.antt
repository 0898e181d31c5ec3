-- `mc_predict::predict_of_both` meets its contract. The loop takes one group a turn.
use Rattle.std.proofs.Common.{◌≤◌}
use Rattle.mc_predict.proofs.Laws.Group.{Groups}
use Rattle.mc_predict.proofs.predict_of_both.Given as goal

abbrev pub invariant-loop-sb : goal.invariant-loop-sb
invariant-loop-sb l =
    (l.sb ≤ 8) × Groups l.pair l.s.status.mc_prediction l.s.status.dyn_cross l.delays l.coefs l.base.left.now l.base.right.now l.history l.initial.work l.work l.sb
