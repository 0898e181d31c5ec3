-- `mc_output::output::write_second` meets its contract. The loop writes the last two channels, place by place.
use Rattle.std.proofs.Common.{ℕ}
use Rattle.std.specs.Float.{nan}
use Rattle.fill.proofs.ByTurn.{ByTurn}
use Rattle.mc_output.proofs.Laws.LayOut.{below_limit}
use Rattle.mc_output.proofs.output.write_second.Given as goal

abbrev pub invariant-loop-i : goal.invariant-loop-i
invariant-loop-i l =
    let part = l.initial.value-items in ByTurn nan (λ (k : ℕ). k) (below_limit l.x.main l.x.limit l.work part) 2304 part l.value-items l.i
