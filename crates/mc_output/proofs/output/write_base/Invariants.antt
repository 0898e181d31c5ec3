-- `mc_output::output::write_base` meets its contract. The loop writes one place of both channels a turn.
use Rattle.std.proofs.Common.{ℕ, ◌%◌, ◌≤◌}
use Rattle.std.specs.Float.{nan}
use Rattle.fill.proofs.ByTurn.{ByTurn}
use Rattle.mc_output.proofs.Laws.BaseAlone.{of_both}
use Rattle.mc_output.proofs.output.write_base.Given as goal

abbrev pub invariant-loop-j : goal.invariant-loop-j
invariant-loop-j l = (l.j ≤ 1152) × ByTurn nan (λ (k : ℕ). k % 1152) (of_both l.base.left.now l.base.right.now) 2304 l.initial.output l.output l.j
