-- `boundary::frames::centre_code` meets its contract.
use Rattle.boundary.proofs.frames.centre_code.Goals as goal

pub returns : goal.returns
returns c = rw (c.new.ensures, c.plain_head.ensures)
