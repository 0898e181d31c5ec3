-- `boundary::print::same_counts` meets its contract.
use Rattle.std.proofs.Common.{◌∙◌, rules}
use Rattle.boundary_run.proofs.RunLaws.{tallies-same}
use Rattle.boundary.proofs.print.same_counts.Goals as goal

pub returns-then-eq : goal.returns-then-eq
returns-then-eq c = let a = c.args in c.eq-then-eq.ensures ∙ tallies-same a.before a.after (search rules) (search rules) (search rules) (search rules)
