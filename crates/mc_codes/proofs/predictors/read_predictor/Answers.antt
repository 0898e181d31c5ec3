-- `mc_codes::predictors::read_predictor` meets its contract.
use Rattle.bit_reader.proofs.ReadLaws.{field-on, field-stops, stays}
use Rattle.mc_codes.specs.Parts.{predictor_by}
use Rattle.mc_codes.proofs.PartLaws.{returned-stored}
use Rattle.mc_codes.proofs.predictors.read_predictor.Goals as goal

pub returns-in_err-delay : goal.returns-in_err-delay
unfolding predictor_by
returns-in_err-delay c q a = returned-stored _ _ _ c.from_residual.ensures.1 (field-stops c.in_err-delay.ensures.reads)

pub returns-in_err-first : goal.returns-in_err-first
unfolding predictor_by
returns-in_err-first c q a = returned-stored _ _ _ c.from_residual-in_err-first.ensures.1 (field-on c.in_ok-delay.ensures.reads (field-stops c.in_err-first.ensures.reads))

pub returns-in_err-second : goal.returns-in_err-second
unfolding predictor_by
returns-in_err-second c q a = returned-stored _ _ _ c.from_residual-in_err-second.ensures.1 (field-on c.in_ok-delay.ensures.reads (field-on c.in_ok-first.ensures.reads (field-stops (rw c.bits_if.ensures at c.in_err-second.ensures.reads))))

pub returns-in_err-third : goal.returns-in_err-third
unfolding predictor_by
returns-in_err-third c q a = returned-stored _ _ _ c.from_residual-in_err-third.ensures.1 (field-on c.in_ok-delay.ensures.reads (field-on c.in_ok-first.ensures.reads (field-on (rw c.bits_if.ensures at c.in_ok-second.ensures.reads) (field-stops (rw c.bits_if-2.ensures at c.in_err-third.ensures.reads)))))

pub returns : goal.returns
unfolding predictor_by
returns c q a = field-on c.in_ok-delay.ensures.reads (field-on c.in_ok-first.ensures.reads (field-on (rw c.bits_if.ensures at c.in_ok-second.ensures.reads) (field-on (rw c.bits_if-2.ensures at c.in_ok-third.ensures.reads) stays)))
