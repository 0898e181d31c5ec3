-- `mc_scale::scale` meets its contract. The loop writes one column a turn: those whose turn has been hold the scaled values.
use Prim.Native.Nat.{◌≤◌}
use Rattle.mc_scale.proofs.Laws.ByChannel.{Scaling}
use Rattle.mc_scale.proofs.scale.Given as goal

abbrev pub invariant-loop-i : goal.invariant-loop-i
invariant-loop-i l = (l.i ≤ 96) × Scaling l.places.steps l.places.source l.places.base l.factors l.raw l.base.left.now l.base.right.now l.initial.work l.work l.i
