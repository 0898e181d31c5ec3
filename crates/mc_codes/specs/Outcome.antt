-- What reading a payload answers: its codes and the used bits, or its refusal.
use Rattle.std.specs.Prelude.{Result, Ok, Err}
use Rattle.bits.specs.Syntax.{Outcome, accepted, refused}
use Rattle.mc_error.specs.declared.McError.{McError}
use Rattle.mc_error.specs.Error.{refusal_of}
use Rattle.mc_payload.specs.Payload.{Codes}
use Rattle.mc_codes.specs.declared.payload.PayloadCodes.{PayloadCodes}

abbrev pub codes_of : PayloadCodes → Codes
codes_of r = (r.scfsi, (r.predictors, (r.lf_scalefactor, (r.scalefactors, r.granules))))

-- where there is a refusal, the codes do not count
abbrev pub outcome_of : Result (Unit {0}) McError → PayloadCodes → Outcome Codes
outcome_of (Ok x) c = accepted (codes_of c) c.bits
outcome_of (Err e) c = refused (refusal_of e)
