-- What a caller learns from each case of an answer.
use Rattle.std.specs.Prelude.{◌≡◌, ℕ, Result, Ok, Err}
use Rattle.bits.specs.Syntax.{Outcome, accepted, refused}
use Rattle.mc_config.specs.declared.McHeader.{McHeader}
use Rattle.mc_error.specs.Error.{refusal_of}
use Rattle.mc_error.specs.declared.McError.{McError}
use Rattle.mc_fields.specs.declared.McStatus.{McStatus}
use Rattle.mc_head.specs.Answer.{values_of, outcome_of}
use Rattle.mc_head.specs.declared.McHead.{McHead}

module _ (r : Result McHead McError) (o : Outcome (McHeader × (ℕ × McStatus))) (e : outcome_of r ≡ o) where
  pub answer-accepted : (h : McHead) → r ≡ Ok h → o ≡ accepted (values_of h) h.used
  answer-accepted h a = rw (← e, a)

  pub answer-refused : (x : McError) → r ≡ Err x → o ≡ refused (refusal_of x)
  answer-refused x a = rw (← e, a)
