-- `mc_codes::granules::read_granule` meets its contract.
use Rattle.std.specs.Prelude.{◌-◌}
use Rattle.bits.specs.Syntax.{times}
use Rattle.bit_reader.specs.Reads.{Goes}
use Rattle.mc_payload.specs.Payload.{samples_at}
use Rattle.mc_codes.proofs.granules.read_granule.Given as goal

abbrev pub invariant-loop-i : goal.invariant-loop-i
invariant-loop-i l = Goes l.initial.reader (times 96 0 (samples_at l.own l.gr) l.initial.codes) l.reader (times (96 - l.i) l.i (samples_at l.own l.gr) l.codes)
