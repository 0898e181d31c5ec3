-- `mc_predict::predict_subband` meets its contract. The loop takes one predicted channel a turn.
use Rattle.std.proofs.Common.{◌≤◌, length}
use Rattle.std.specs.Float.{nan}
use Rattle.fill.proofs.ByTurn.{ByTurn}
use Rattle.mc_crosstalk.specs.Crosstalk.{predicted_of}
use Rattle.mc_predict.specs.Code.PredictByLine.{subband_at}
use Rattle.mc_predict.proofs.Laws.Subband.{turn_in}
use Rattle.mc_predict.proofs.predict_subband.Given as goal

abbrev pub invariant-loop-k : goal.invariant-loop-k
invariant-loop-k l =
    let channels = predicted_of l.pair l.mode in
    (l.k ≤ length channels)
    × ByTurn nan (turn_in l.sb channels) (subband_at l.sb channels l.delays l.coefs l.lines.left l.lines.right l.initial.work) 3456 l.initial.work l.work l.k
