-- `requant::degroup` meets its contract.
use mathlib.Core.Path.{refl}
use Rattle.requant.specs.Requant.{degrouped, excess_of}
use Rattle.requant.proofs.degroup.Goals as goal

pub returns : goal.returns
unfolding degrouped excess_of
returns c = (refl, refl)
