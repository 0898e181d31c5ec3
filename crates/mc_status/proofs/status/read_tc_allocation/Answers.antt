-- `mc_status::status::read_tc_allocation` meets its contract.
use Rattle.std.proofs.Common.{arith}
use Rattle.bit_reader.proofs.ReadLaws.{returned, then, field-on, field-stops, stays, turn-on, turn-stops, turns-over}
use Rattle.mc_fields.specs.Head.{tc_at, tc_allocation}
use Rattle.mc_status.proofs.status.read_tc_allocation.Goals as goal

pub returns-in_err-read : goal.returns-in_err-read
unfolding tc_allocation
returns-in_err-read c = rw c.if-once.true (returned _ _ c.from_residual.ensures.1 (field-stops c.in_err-read.ensures.reads))

pub returns-then-once : goal.returns-then-once
unfolding tc_allocation
returns-then-once c = rw c.if-once.true (field-on c.in_ok-read.ensures.reads stays)

pub returns-in_err-allocation : goal.returns-in_err-allocation
unfolding tc_allocation tc_at
returns-in_err-allocation c =
    let turn = turn-stops (tc_at c.args.bits) 12 _ (omega arith) (field-stops c.in_err-allocation.ensures.reads) in
    rw c.if-once.false (returned _ _ c.from_residual-in_err-allocation.ensures.1 (then c.loop-allocation.invariant turn))

pub loop-allocation-preserved : goal.loop-allocation-preserved
unfolding tc_at
loop-allocation-preserved c =
    then c.loop-allocation.invariant (turn-on (tc_at c.args.bits) 12 _ (omega arith) (field-on c.in_ok-allocation.ensures.reads stays) stays)

pub returns : goal.returns
unfolding tc_allocation
returns c = rw c.if-once.false (then c.loop-allocation.invariant (turns-over (tc_at c.args.bits) 12 _ (omega arith)))
