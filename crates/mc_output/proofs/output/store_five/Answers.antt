-- `mc_output::output::store_five` meets its contract. The loop writes one place of each channel.
use Rattle.std.proofs.Common.{refl, arith}
use Rattle.fill.proofs.StridedLaws.{stride-starts, stride-more, stride-ends}
use Rattle.mc_output.proofs.output.store_five.Goals as goal

pub loop-ch-init : goal.loop-ch-init
loop-ch-init c = stride-starts

pub loop-ch-preserved : goal.loop-ch-preserved
loop-ch-preserved c = stride-more c.loop-ch.invariant (omega arith) refl

pub returns : goal.returns
returns c = stride-ends c.loop-ch.invariant (omega arith)
