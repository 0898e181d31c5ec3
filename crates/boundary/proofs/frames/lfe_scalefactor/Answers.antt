-- `boundary::frames::lfe_scalefactor` meets its contract.
use Rattle.boundary.proofs.frames.lfe_scalefactor.Goals as goal
use Rattle.boundary.specs.Heads.{written}

pub returns : goal.returns
unfolding written
returns c = rw (c.new-2.ensures, c.plain_head.ensures, c.payload_from.ensures, c.bytes.ensures, c.field-start.ensures, c.new.ensures)
