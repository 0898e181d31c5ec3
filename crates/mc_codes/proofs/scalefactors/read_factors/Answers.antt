-- `mc_codes::scalefactors::read_factors` meets its contract.
use Rattle.std.proofs.Common.{arith}
use Rattle.bit_reader.proofs.ReadLaws.{stays}
use Rattle.mc_payload.specs.Payload.{factors_by}
use Rattle.mc_codes.proofs.PartLaws.{returned-stored}
use Rattle.mc_codes.proofs.FactorLaws.{factor-on, factor-stops, last-shared}
use Rattle.mc_codes.proofs.scalefactors.read_factors.Goals as goal

pub returns-in_err-read_scalefactor-in-0 : goal.returns-in_err-read_scalefactor-in-0
unfolding factors_by
returns-in_err-read_scalefactor-in-0 c i a = returned-stored _ _ _ c.from_residual.ensures.1 (rw c.in-0.is (factor-stops _ c.in_err-read_scalefactor-in-0.ensures.reads))

pub returns-in_err-read_scalefactor-in-0-2 : goal.returns-in_err-read_scalefactor-in-0-2
unfolding factors_by
returns-in_err-read_scalefactor-in-0-2 c i a = returned-stored _ _ _ c.from_residual-in_err-read_scalefactor-in-0-2.ensures.1 (rw c.in-0.is (factor-on _ c.in_ok-read_scalefactor-in-0.ensures.reads (factor-stops _ c.in_err-read_scalefactor-in-0-2.ensures.reads)))

pub returns-in_err-read_scalefactor-in-0-3 : goal.returns-in_err-read_scalefactor-in-0-3
unfolding factors_by
returns-in_err-read_scalefactor-in-0-3 c i a = returned-stored _ _ _ c.from_residual-in_err-read_scalefactor-in-0-3.ensures.1 (rw c.in-0.is (factor-on _ c.in_ok-read_scalefactor-in-0.ensures.reads (factor-on _ c.in_ok-read_scalefactor-in-0-2.ensures.reads (factor-stops _ c.in_err-read_scalefactor-in-0-3.ensures.reads))))

pub returns-in_ok-read_scalefactor-in-0-3 : goal.returns-in_ok-read_scalefactor-in-0-3
unfolding factors_by
returns-in_ok-read_scalefactor-in-0-3 c i a = rw c.in-0.is (factor-on _ c.in_ok-read_scalefactor-in-0.ensures.reads (factor-on _ c.in_ok-read_scalefactor-in-0-2.ensures.reads (factor-on _ c.in_ok-read_scalefactor-in-0-3.ensures.reads stays)))

pub returns-in_err-first-in-1 : goal.returns-in_err-first-in-1
unfolding factors_by
returns-in_err-first-in-1 c i a = returned-stored _ _ _ c.from_residual-in_err-first-in-1.ensures.1 (rw c.in-1.is (factor-stops _ c.in_err-first-in-1.ensures.reads))

pub returns-in_err-read_scalefactor-in-1 : goal.returns-in_err-read_scalefactor-in-1
unfolding factors_by
returns-in_err-read_scalefactor-in-1 c i a = returned-stored _ _ _ c.from_residual-in_err-read_scalefactor-in-1.ensures.1 (rw c.in-1.is (factor-on _ c.in_ok-first-in-1.ensures.reads (factor-stops _ c.in_err-read_scalefactor-in-1.ensures.reads)))

pub returns-in_ok-read_scalefactor-in-1 : goal.returns-in_ok-read_scalefactor-in-1
unfolding factors_by
returns-in_ok-read_scalefactor-in-1 c i a = rw c.in-1.is (factor-on _ c.in_ok-first-in-1.ensures.reads (factor-on _ c.in_ok-read_scalefactor-in-1.ensures.reads stays))

pub returns-in_err-read_scalefactor-in-2 : goal.returns-in_err-read_scalefactor-in-2
unfolding factors_by
returns-in_err-read_scalefactor-in-2 c i a = returned-stored _ _ _ c.from_residual-in_err-read_scalefactor-in-2.ensures.1 (rw c.in-2.is (factor-stops _ c.in_err-read_scalefactor-in-2.ensures.reads))

pub returns-in_ok-read_scalefactor-in-2 : goal.returns-in_ok-read_scalefactor-in-2
unfolding factors_by
returns-in_ok-read_scalefactor-in-2 c i a = rw c.in-2.is (factor-on _ c.in_ok-read_scalefactor-in-2.ensures.reads stays)

pub returns-in_err-first-in_default : goal.returns-in_err-first-in_default
returns-in_err-first-in_default c i a = returned-stored _ _ _ c.from_residual-in_err-first-in_default.ensures.1 (rw (last-shared c.args.code i a (omega arith)) (factor-stops _ c.in_err-first-in_default.ensures.reads))

pub returns-in_err-second-in_default : goal.returns-in_err-second-in_default
returns-in_err-second-in_default c i a = returned-stored _ _ _ c.from_residual-in_err-second-in_default.ensures.1 (rw (last-shared c.args.code i a (omega arith)) (factor-on _ c.in_ok-first-in_default.ensures.reads (factor-stops _ c.in_err-second-in_default.ensures.reads)))

pub returns-in_ok-second-in_default : goal.returns-in_ok-second-in_default
returns-in_ok-second-in_default c i a = rw (last-shared c.args.code i a (omega arith)) (factor-on _ c.in_ok-first-in_default.ensures.reads (factor-on _ c.in_ok-second-in_default.ensures.reads stays))
