-- `mc_predict::predict_column` meets its contract. The loop writes the slots of one column, and a slot that it has not come to is as it was.
use Rattle.std.proofs.Common.{rules, arith}
use Rattle.std.specs.Float.{nan}
use Rattle.fill.proofs.StridedLaws.{stride-starts, stride-more, stride-ends, stride-left}
use Rattle.mc_predict.proofs.predict_column.Goals as goal

pub loop-slot-init : goal.loop-slot-init
loop-slot-init c = stride-starts

pub loop-slot-preserved : goal.loop-slot-preserved
loop-slot-preserved c =
    let l = c.loop-slot in
    let as_it_was = stride-left nan (omega arith) l.invariant in stride-more l.invariant (omega arith) (search rules)

pub returns : goal.returns
returns c = stride-ends c.loop-slot.invariant (omega arith)
