-- `fill::fill_by` meets its contract. The loop writes each place by its index.
use Rattle.fill.specs.By.{FilledBy}
use Rattle.fill.proofs.fill_by.Given as goal

abbrev pub invariant-loop-k : goal.invariant-loop-k
invariant-loop-k g l = FilledBy (goal.F-post g l.value) l.out l.k
