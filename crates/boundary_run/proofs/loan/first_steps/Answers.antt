-- `boundary_run::loan::first_steps` meets its contract.
use Rattle.std.proofs.Common.{rules}
use borrow.Author.Tests.{tests}
use Rattle.boundary_run.specs.Loan.{step_at}
use Rattle.boundary_run.proofs.LoanLaws.{made-tab}
use Rattle.boundary_run.proofs.loan.first_steps.Goals as goal

pub returns : goal.returns
returns c = let a = c.args in made-tab _ _ (step_at a.channels a.subbands a.count) (λ k y q m. search (rules, tests)) _ _ c.from_fn.ensures.items
