-- `boundary::frames::barred` meets its contract.
use Rattle.boundary.proofs.frames.barred.Goals as goal

pub returns : goal.returns
returns c = rw (c.new.ensures, c.plain_head.ensures, c.first_steps.ensures)
