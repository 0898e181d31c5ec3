-- `fill::fill_by` meets its contract. The loop writes each place by its index.
use Rattle.std.proofs.Common.{arith}
use Rattle.fill.proofs.ByIndex.{by-none, by-more, by-all}
use Rattle.fill.proofs.fill_by.Goals as goal

pub loop-k-init : goal.loop-k-init
loop-k-init g c = by-none _

pub loop-k-preserved : goal.loop-k-preserved
loop-k-preserved g c = by-more c.loop-k.invariant (omega arith) c.value.ensures

pub returns-clause-each : goal.returns-clause-each
returns-clause-each g c = by-all c.loop-k.invariant (omega arith) (omega arith)
