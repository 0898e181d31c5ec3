-- `mc_output::output::store_five` meets its contract. The loop writes one place of each channel.
use Rattle.std.proofs.Common.{ℕ, get_or}
use Rattle.std.specs.Float.{nan}
use Rattle.fill.proofs.StridedLaws.{Striding}
use Rattle.mc_output.proofs.output.store_five.Given as goal

abbrev pub invariant-loop-ch : goal.invariant-loop-ch
invariant-loop-ch l = Striding 1152 5 (λ (i : ℕ). get_or l.value-items i nan) l.j l.initial.output l.output l.ch
