-- A step of either kind, and the state before it, are the definition's.
use Rattle.std.specs.Prelude.{◌≡◌, ℕ, true, false, Result, Ok, Err}
use Rattle.std.proofs.Common.{ap, ◌∙◌, eq-eqb, ne_eqb}
use Rattle.mc_error.specs.declared.McError.{McError}
use Rattle.frame_file.specs.declared.numbers.Numbers.{Numbers}
use Rattle.mc_state.specs.Answer.{after_of, carry_number, carrying_by}
use Rattle.mc_state.specs.Carry.{Carrying, carried_over}
use Rattle.mc_state.specs.Frame.{Lent, Buffers, After, frame_of}
use Rattle.mc_state.specs.declared.Framed.{Framed}
use Rattle.mc_state.specs.declared.McDecodeState.{McDecodeState}
use Rattle.mcread.specs.declared.input.Step.{Step}
use Rattle.mcread.specs.Step.{before_frame, step_of}

-- with the state that the next frame follows on
module _ (n : Numbers) (f : Framed) (w : Buffers) (a : After) (e : after_of f w ≡ a) where
  pub step-refused : (x : McError) → f.answer ≡ Err x → (f.state ≡ a.state) × (◌≡◌ {A = Step} (record { accepted = false; desk = n.desk }) (step_of n a))
  step-refused x q = (ap (λ (x : After). x.state) e, rw (← e, q))

  pub step-accepted : (h p c : ℕ) → f.answer ≡ Ok (record { head_bits = h; payload_bits = p; excess_codes = c }) → (f.state ≡ a.state) × (◌≡◌ {A = Step} (record { accepted = true; desk = n.desk }) (step_of n a))
  step-accepted h p c q = (ap (λ (x : After). x.state) e, rw (← e, q))

-- ---- the state before a frame

module _ (n : Numbers) (state : McDecodeState) where
  pub before-kept : (n.carried ≡ 1 → ⊥) → state ≡ before_frame n state
  before-kept h = rw (ne_eqb n.carried 1 h)

  pub before-carried : {A : Type 0} → n.carried ≡ 1 → (answer : Result A McError) (next : McDecodeState) → carrying_by (carry_number answer) next ≡ carried_over state → next ≡ before_frame n state
  before-carried h answer next e = rw (eq-eqb n.carried 1 h) (ap (λ (c : Carrying). c.state) e)

-- the frame call on that state
pub on-before : (l : Lent) (w : Buffers) (before state : McDecodeState) (n : Numbers) (a : After) → a ≡ frame_of l w before → before ≡ before_frame n state → a ≡ frame_of l w (before_frame n state)
on-before l w before state n a e q = e ∙ rw q
