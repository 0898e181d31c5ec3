-- `boundary_run::loan::payload_of_ones` meets its contract.
use Rattle.std.proofs.Common.{rules}
use borrow.Author.Tests.{tests}
use Rattle.boundary_run.specs.Loan.{ones_at}
use Rattle.boundary_run.proofs.LoanLaws.{made-tab}
use Rattle.boundary_run.proofs.loan.payload_of_ones.Goals as goal

pub returns : goal.returns
returns c = let a = c.args in made-tab _ _ (ones_at a.first a.end) (λ k y q m. search (rules, tests)) _ _ c.from_fn.ensures.items
