-- `boundary::print::stored` meets its contract, for one base channel and for two.
use Rattle.boundary_run.proofs.RunLaws.{stored-mono, stored-stereo}
use Rattle.boundary.proofs.print.stored.Goals as goal

pub returns-then-loan-eq1 : goal.returns-then-loan-eq1
returns-then-loan-eq1 c = stored-mono c.args.loan _ _ _ c.if-loan-eq1.true c.ramp-left.ensures c.is_stored.ensures

pub returns : goal.returns
returns c = stored-stereo c.args.loan _ _ _ _ c.if-loan-eq1.false c.ramp-left.ensures c.ramp-right.ensures c.is_stored-2.ensures
