-- `mc_samples::excess::excesses` meets its contract.
use Rattle.std.proofs.Common.{ℕ, ◌+◌, ◌*◌}
use Rattle.fill.proofs.InOrder.{Filling}
use Rattle.mc_values.specs.Values.{excess_in}
use Rattle.mc_samples.proofs.Counted.{zeros}
use Rattle.mc_samples.proofs.excess.excesses.Given as goal

abbrev pub invariant-loop-i : goal.invariant-loop-i
invariant-loop-i l = Filling (excess_in l.own l.granules) 1152 zeros l.table (12 * l.i)

abbrev pub invariant-loop-gr : goal.invariant-loop-gr
invariant-loop-gr l = Filling (λ (gr : ℕ). excess_in l.own l.granules (12 * l.i + gr)) 12 l.initial.excess-items l.excess-items l.gr
