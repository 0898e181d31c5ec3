-- `boundary::frames::forbidden` meets its contract.
use Rattle.boundary.proofs.frames.forbidden.Goals as goal

pub returns : goal.returns
returns c = rw (c.new.ensures, c.crossed_head.ensures)
