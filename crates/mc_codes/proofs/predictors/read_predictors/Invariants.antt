-- `mc_codes::predictors::read_predictors` meets its contract.
use Rattle.std.specs.Prelude.{◌-◌}
use Rattle.bits.specs.Syntax.{times}
use Rattle.bit_reader.specs.Reads.{Goes}
use Rattle.mc_payload.specs.Payload.{predictor_at, predictors}
use Rattle.mc_codes.proofs.predictors.read_predictors.Given as goal

abbrev pub invariant-loop-q : goal.invariant-loop-q
invariant-loop-q l = Goes l.fn.reader (predictors l.predsi) l.reader (times (48 - l.q) l.q (predictor_at l.predsi) l.codes)
