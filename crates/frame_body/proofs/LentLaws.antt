-- Laws of what a frame lends: parts of the arrays that were filled, the frame call on them, and the layout.
use Rattle.std.specs.Prelude.{◌≡◌, List, [], ◌++◌, ℕ, ◌+◌, ◌*◌, ◌≤◌, Float, length, take, drop, Result, Ok, Err}
use Rattle.std.proofs.Common.{sym, ap, ◌∙◌, arith, length-append, length-take-le, take_at}
use Rattle.std.proofs.Math.Seq.{length_front}
use Rattle.fill.specs.Tab.{tab}
use Rattle.fill.proofs.TabLaws.{length-tab}
use Rattle.frame_file.specs.File.{step_at, value_at, values_at}
use Rattle.frame_file.specs.declared.numbers.Numbers.{Numbers}
use Rattle.mc_config.specs.Config.{config_of, layout_of}
use Rattle.mc_config.specs.declared.McConfig.{McConfig}
use Rattle.mc_error.specs.declared.McError.{McError}
use Rattle.mc_state.specs.Frame.{Lent, Buffers, After, frame_of}
use Rattle.mc_state.specs.declared.McDecodeState.{McDecodeState}
use Rattle.mc_head.specs.Answer.{outcome_of}
use Rattle.mc_fields.specs.Lent.{head_of}
use Rattle.mc_head.specs.declared.McHead.{McHead}
use Rattle.frame_body.specs.Lent.{head_in, payload_in, lent_from, lent_in, layout_for}

-- ---- the layout

module _ (r : Result McHead McError) (reading : ℕ) (bytes : List ℕ) (bits base : ℕ) (e : outcome_of r ≡ head_of reading bytes bits base) where
  pub layout-accepted : (h : McHead) → r ≡ Ok h → (config : McConfig) → config ≡ config_of h.header base → (l : List ℕ) → l ≡ layout_of config → l ≡ layout_for (head_of reading bytes bits base) base
  layout-accepted h q config ec l el = el ∙ (ap layout_of ec ∙ (rw (← e, q)))

  pub layout-refused : (x : McError) → r ≡ Err x → [] ≡ layout_for (head_of reading bytes bits base) base
  layout-refused x q = rw (← e, q)

-- ---- the frame call

-- a list whose first n elements were lent and filled
module _ {A : Type 0} (d last : List A) (n : ℕ) (fits : n ≤ length d) (f : ℕ → A) (e : last ≡ tab f (length (take n d))) where
  is : last ≡ tab f n
  is = e ∙ ap (tab f) (length-take-le n d fits)

  pub front-tab : take n (last ++ drop n d) ≡ tab f n
  front-tab = take_at last (drop n d) n (ap length is ∙ length-tab f n) ∙ is

  pub front-room : n ≤ length (last ++ drop n d)
  front-room = omega (arith, length-append last (drop n d), ap length is, length-tab f n)

  pub front-count : n ≡ length (take n (last ++ drop n d))
  front-count = sym (ap length front-tab ∙ length-tab f n)

-- a list whose first n elements were lent
module _ {A : Type 0} (d last : List A) (n : ℕ) (fits : n ≤ length d) (kept : length last ≡ length (take n d)) where
  pub kept-room : n ≤ length (last ++ drop n d)
  kept-room = omega (arith, length_front d last n kept)

  pub kept-count : n ≡ length (take n (last ++ drop n d))
  kept-count = sym (length-take-le n (last ++ drop n d) kept-room)

-- the step counts and values are those of the bytes
pub decoded : (a : After) (n : Numbers) (body steps : List ℕ) (values : List Float) (w : Buffers) (st : McDecodeState) → a ≡ frame_of (lent_from n (head_in n body) (payload_in n body) steps values) w st
    → steps ≡ tab (step_at body) (32 * n.base_channels + 96) → values ≡ tab (value_at body (values_at n)) (2304 * n.base_channels) → a ≡ frame_of (lent_in n body) w st
decoded a n body steps values w st e es ev =
    e ∙ ap (λ (l : Lent). frame_of l w st) (ap (λ (x : List ℕ). lent_from n (head_in n body) (payload_in n body) x values) es ∙ ap (lent_from n (head_in n body) (payload_in n body) (tab (step_at body) (32 * n.base_channels + 96))) ev)
