-- `replay_list::values::fill_values` meets its contract. The loop draws in order.
use Rattle.std.proofs.Common.{arith}
use Rattle.replay_list.proofs.ValuesLaws.{draw-starts, draws, drawn-all}
use Rattle.replay_list.proofs.values.fill_values.Goals as goal

pub loop-value-init : goal.loop-value-init
loop-value-init c = let a = c.args in draw-starts a.seed a.before a.dst.now _ c.draw_on-x.ensures

pub loop-value-preserved : goal.loop-value-preserved
loop-value-preserved c = draws _ _ c.loop-value.invariant (omega (arith, c.loop-value.invariant.filling.long)) c.draw-x.ensures c.value_of.ensures

pub returns : goal.returns
returns c = drawn-all c.loop-value.invariant (omega (arith, c.loop-value.invariant.filling.long))
