-- `mc_codes::scalefactors::read_scalefactors` meets its contract.
use Rattle.std.specs.Prelude.{◌-◌}
use Rattle.bits.specs.Syntax.{times}
use Rattle.bit_reader.specs.Reads.{Goes}
use Rattle.mc_payload.specs.Payload.{factors_at, scalefactors}
use Rattle.mc_codes.proofs.scalefactors.read_scalefactors.Given as goal

abbrev pub invariant-loop-i : goal.invariant-loop-i
invariant-loop-i l = Goes l.fn.reader (scalefactors l.steps l.scfsi) l.reader (times (96 - l.i) l.i (factors_at l.steps l.scfsi) l.codes)
