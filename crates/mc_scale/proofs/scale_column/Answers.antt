-- `mc_scale::scale_column` meets its contract. The loop writes the slots of one column.
use mathlib.Core.Path.{refl}
use Rattle.fill.proofs.StridedLaws.{stride-starts, stride-more, stride-ends}
use native.Mathlib.Omega.{arith}
use Rattle.mc_scale.proofs.scale_column.Goals as goal

pub loop-slot-init : goal.loop-slot-init
loop-slot-init c = stride-starts

pub loop-slot-preserved : goal.loop-slot-preserved
loop-slot-preserved c = stride-more c.loop-slot.invariant (omega arith) refl

pub returns : goal.returns
returns c = stride-ends c.loop-slot.invariant (omega arith)
