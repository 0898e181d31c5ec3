-- `boundary::frames::scalefactor` meets its contract.
use Rattle.boundary.specs.Heads.{written}
use Rattle.boundary.proofs.frames.scalefactor.Goals as goal

pub returns : goal.returns
unfolding written
returns c = rw (c.one_place.ensures, c.field-start.ensures, c.field-3.ensures, c.field-2.ensures, c.field.ensures, c.new.ensures)
