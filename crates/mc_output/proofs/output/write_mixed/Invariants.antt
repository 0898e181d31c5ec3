-- `mc_output::output::write_mixed` meets its contract. The loop writes all channels of one slot and subband a turn.
use Rattle.std.proofs.Common.{ℕ, ◌%◌, ◌≤◌}
use Rattle.std.specs.Float.{nan}
use Rattle.fill.proofs.ByTurn.{ByTurn}
use Rattle.mc_output.specs.Code.OutputByMix.{mixed_of_at}
use Rattle.mc_output.proofs.output.write_mixed.Given as goal

abbrev pub invariant-loop-j : goal.invariant-loop-j
invariant-loop-j l =
    (l.j ≤ 1152) × ByTurn nan (λ (k : ℕ). k % 1152) (mixed_of_at l.x l.tcs l.base.left.now l.base.right.now l.work) 5760 l.initial.output l.output l.j
