-- `mc_codes::granules::read_granules` meets its contract.
use Rattle.std.specs.Prelude.{◌-◌}
use Rattle.bits.specs.Syntax.{times}
use Rattle.bit_reader.specs.Reads.{Goes}
use Rattle.mc_payload.specs.Payload.{granule_at, granules}
use Rattle.mc_codes.proofs.granules.read_granules.Given as goal

abbrev pub invariant-loop-gr : goal.invariant-loop-gr
invariant-loop-gr l = Goes l.fn.reader (granules l.lfe.value l.fn.own) l.reader (times (12 - l.gr) l.gr (granule_at l.lfe.value l.fn.own) l.codes)
