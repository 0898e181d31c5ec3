-- `boundary_run::loan::payload_from` meets its contract.
use Rattle.std.proofs.Common.{rules}
use borrow.Author.Tests.{tests}
use Rattle.boundary_run.specs.Loan.{byte_from}
use Rattle.boundary_run.proofs.LoanLaws.{made-tab}
use Rattle.boundary_run.proofs.loan.payload_from.Goals as goal

pub returns : goal.returns
returns c = let a = c.args in made-tab _ _ (byte_from a.start.now) (λ k y q m. search (rules, tests)) _ _ c.from_fn.ensures.items
