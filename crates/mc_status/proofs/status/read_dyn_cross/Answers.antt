-- `mc_status::status::read_dyn_cross` meets its contract.
use Rattle.std.proofs.Common.{arith}
use Rattle.bit_reader.proofs.ReadLaws.{returned, then, field-on, field-stops, stays, turn-on, turn-stops, turns-over}
use Rattle.mc_fields.specs.Head.{dyn_cross_at, dyn_cross}
use Rattle.mc_status.proofs.status.read_dyn_cross.Goals as goal

pub loop-g-init : goal.loop-g-init
unfolding dyn_cross
loop-g-init c = stays

pub returns-in_err-table : goal.returns-in_err-table
unfolding dyn_cross_at
returns-in_err-table c =
    let turn = turn-stops (dyn_cross_at c.args.mode_bits c.args.second_bits) 12 _ (omega arith) (field-stops c.in_err-table.ensures.reads) in
    returned _ _ c.from_residual.ensures.1 (then c.loop-g.invariant turn)

pub returns-in_err-table-2 : goal.returns-in_err-table-2
unfolding dyn_cross_at
returns-in_err-table-2 c =
    let turn = turn-stops (dyn_cross_at c.args.mode_bits c.args.second_bits) 12 _ (omega arith) (field-on c.in_ok-table.ensures.reads (field-stops c.in_err-table-2.ensures.reads)) in
    returned _ _ c.from_residual-in_err-table-2.ensures.1 (then c.loop-g.invariant turn)

pub loop-g-preserved : goal.loop-g-preserved
unfolding dyn_cross_at
loop-g-preserved c =
    then c.loop-g.invariant
    (turn-on (dyn_cross_at c.args.mode_bits c.args.second_bits) 12 _ (omega arith) (field-on c.in_ok-table.ensures.reads (field-on c.in_ok-table-2.ensures.reads stays)) stays)

pub returns : goal.returns
returns c = then c.loop-g.invariant (turns-over (dyn_cross_at c.args.mode_bits c.args.second_bits) 12 _ (omega arith))
