-- `boundary::frames::longest` meets its contract.
use Rattle.boundary.proofs.frames.longest.Goals as goal

pub returns : goal.returns
returns c = rw (c.new.ensures, c.longest_head.ensures, c.first_steps.ensures)
