-- `boundary_run::loan::Loan::new` meets its contract.
use lib.Ieee.{round, of_bits}
use Rattle.boundary_run.proofs.loan.Loan.new.Goals as goal

pub returns : goal.returns
unfolding of_bits round
returns c = rw c.bytes.ensures
