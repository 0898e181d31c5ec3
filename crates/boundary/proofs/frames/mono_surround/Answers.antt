-- `boundary::frames::mono_surround` meets its contract.
use Rattle.boundary.proofs.frames.mono_surround.Goals as goal

pub returns : goal.returns
returns c = rw (c.new.ensures, c.plain_head.ensures)
