-- `mc_codes::payload::read_scfsi` meets its contract.
use Rattle.std.specs.Prelude.{◌-◌}
use Rattle.bits.specs.Syntax.{times}
use Rattle.bit_reader.specs.Reads.{Goes}
use Rattle.mc_payload.specs.Payload.{scfsi_at, scfsi}
use Rattle.mc_codes.proofs.payload.read_scfsi.Given as goal

abbrev pub invariant-loop-i : goal.invariant-loop-i
invariant-loop-i l = Goes l.fn.reader (scfsi l.steps) l.reader (times (96 - l.i) l.i (scfsi_at l.steps) l.codes)
