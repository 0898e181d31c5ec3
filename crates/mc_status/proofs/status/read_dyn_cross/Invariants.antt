-- `mc_status::status::read_dyn_cross` meets its contract.
use Rattle.std.proofs.Common.{◌-◌}
use Rattle.bits.specs.Syntax.{times}
use Rattle.bit_reader.specs.Reads.{Goes}
use Rattle.mc_fields.specs.Head.{dyn_cross_at, dyn_cross}
use Rattle.mc_status.proofs.status.read_dyn_cross.Given as goal

abbrev pub invariant-loop-g : goal.invariant-loop-g
invariant-loop-g l =
    Goes l.fn.reader (dyn_cross l.mode_bits l.second_bits) l.reader (times (12 - l.g) l.g (dyn_cross_at l.mode_bits l.second_bits) l.table)
