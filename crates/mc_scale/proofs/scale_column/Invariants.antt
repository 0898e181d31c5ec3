-- `mc_scale::scale_column` meets its contract. The loop writes the slots of one column.
use Rattle.mc_scale.specs.Code.ScaleByPlace.{times_factor}
use Rattle.fill.proofs.StridedLaws.{Striding}
use Rattle.mc_scale.proofs.scale_column.Given as goal

abbrev pub invariant-loop-slot : goal.invariant-loop-slot
invariant-loop-slot l = Striding 32 36 (times_factor l.src l.from l.factors l.place) l.at l.initial.work l.work l.slot
