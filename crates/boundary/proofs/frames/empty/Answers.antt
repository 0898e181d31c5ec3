-- `boundary::frames::empty` meets its contract.
use Rattle.boundary.proofs.frames.empty.Goals as goal

pub returns : goal.returns
returns c = rw c.new.ensures
