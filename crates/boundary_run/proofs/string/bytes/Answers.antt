-- `boundary_run::string::bytes` meets its contract.
use Rattle.std.proofs.Common.{rules, ◌*◌}
use borrow.Author.Tests.{tests}
use Rattle.boundary_run.specs.String.{byte_of}
use Rattle.boundary_run.proofs.LoanLaws.{made-tab}
use Rattle.boundary_run.proofs.string.bytes.Goals as goal

pub returns : goal.returns
returns c = made-tab _ _ (λ k. byte_of c.args.bits.now (8 * k) 8) (λ k y q m. search (rules, tests)) _ _ c.from_fn.ensures.items
