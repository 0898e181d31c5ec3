-- `mcread::input::decode_frame` meets its contract: the step goes by what the frame call says.
use Rattle.std.specs.Prelude.{◌≡◌, Result, Ok, Err}
use Rattle.std.specs.Result.{is_ok}
use Rattle.std.proofs.Common.{refl, ap, ◌∙◌}
use Rattle.mc_error.specs.declared.McError.{McError}
use Rattle.mc_state.specs.declared.Accepted.{Accepted}
use Rattle.mc_state.specs.Answer.{outcome_of}
use Rattle.mc_state.specs.Frame.{After}
use Rattle.mcread.specs.Step.{is_accepted, step_of}
use Rattle.mcread.proofs.input.decode_frame.Goals as goal

accepted_by : (r : Result Accepted McError) → is_ok r ≡ is_accepted (outcome_of r)
accepted_by (Ok used) = refl
accepted_by (Err e) = refl

pub returns-clause-next : goal.returns-clause-next
returns-clause-next g c = ap (λ (a : After). a.state) (c.decode-decoded.ensures.frame) ∙ rw c.before_frame.ensures

pub returns-clause-step : goal.returns-clause-step
returns-clause-step g c =
    rw (c.is_ok.ensures.value, accepted_by c.decode-decoded.result) (ap (step_of c.args.body.frame.numbers) c.decode-decoded.ensures.frame ∙ rw c.before_frame.ensures)
