-- `mc_checks::checks::all_fit` meets its contract: at k the flag is the test of the first k values.
use mathlib.Core.Path.{◌≡◌}
use Prim.Native.Nat.{ℕ}
use lib.Ieee.{nan}
use lib.ListN.{get_or}
use Rattle.fill.specs.Each.{each}
use Rattle.mc_state.specs.Frame.{value_fits}
use Rattle.mc_checks.proofs.checks.all_fit.Given as goal

abbrev pub invariant-loop-x : goal.invariant-loop-x
invariant-loop-x l = l.fit ≡ each (λ (j : ℕ). value_fits (get_or l.xs j nan)) l.x-index
