-- `boundary_run::loan::ramp` meets its contract.
use Rattle.std.proofs.Common.{rules}
use borrow.Author.Tests.{tests}
use Rattle.boundary_run.specs.Loan.{ramp_at}
use Rattle.boundary_run.proofs.LoanLaws.{made-tab}
use Rattle.boundary_run.proofs.loan.ramp.Goals as goal

pub returns : goal.returns
returns c = let a = c.args in made-tab _ _ (ramp_at a.start) (λ k y q m. search (rules, tests)) _ _ c.from_fn.ensures.items
