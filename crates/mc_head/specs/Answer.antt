-- What the answer of `read_head` says.
use Rattle.std.specs.Prelude.{ℕ, Result, Ok, Err}
use Rattle.bits.specs.Syntax.{Outcome, accepted, refused}
use Rattle.mc_config.specs.declared.McHeader.{McHeader}
use Rattle.mc_error.specs.Error.{refusal_of}
use Rattle.mc_error.specs.declared.McError.{McError}
use Rattle.mc_head.specs.declared.McHead.{McHead}
use Rattle.mc_fields.specs.declared.McStatus.{McStatus}

abbrev pub values_of : McHead → McHeader × (ℕ × McStatus)
values_of h = (h.header, (h.check_word, h.status))

-- accepted, with the values and the used bits; or refused, with the refusal's number, group and code
abbrev pub outcome_of : Result McHead McError → Outcome (McHeader × (ℕ × McStatus))
outcome_of (Ok h) = accepted (values_of h) h.used
outcome_of (Err e) = refused (refusal_of e)
