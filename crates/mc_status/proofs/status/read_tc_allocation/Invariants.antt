-- `mc_status::status::read_tc_allocation` meets its contract.
use Rattle.std.proofs.Common.{◌-◌, replicate}
use Rattle.bits.specs.Syntax.{times}
use Rattle.bit_reader.specs.Reads.{Goes}
use Rattle.mc_fields.specs.Head.{tc_at}
use Rattle.mc_status.proofs.status.read_tc_allocation.Given as goal

abbrev pub invariant-loop-allocation : goal.invariant-loop-allocation
invariant-loop-allocation l =
    Goes l.fn.reader (times 12 0 (tc_at l.bits) (replicate 12 0)) l.reader (times (12 - l.allocation-index) l.allocation-index (tc_at l.bits) l.allocation-items)
