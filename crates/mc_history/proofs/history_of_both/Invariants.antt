-- `mc_history::history_of_both` meets its contract. The loop writes a line of nine a turn.
use Rattle.std.proofs.Common.{ℕ, ◌/◌, ◌≤◌}
use Rattle.std.specs.Float.{nan}
use Rattle.fill.proofs.ByTurn.{ByTurn}
use Rattle.mc_history.specs.HistoryBy.{history_by}
use Rattle.mc_history.proofs.history_of_both.Given as goal

abbrev pub invariant-loop-line : goal.invariant-loop-line
invariant-loop-line l = (l.line ≤ 64) × ByTurn nan (λ (k : ℕ). k / 9) (history_by l.base.left.now l.base.right.now) 576 l.initial.values l.values l.line
