-- `boundary::frames::layer_three` meets its contract.
use Rattle.boundary.proofs.frames.layer_three.Goals as goal

pub returns : goal.returns
returns c = rw (c.new.ensures, c.plain_head.ensures)
