-- Each way through carrying and conversion leaves what the definition says.
use Rattle.std.specs.Prelude.{◌≡◌, Bool, true, false, ◌&&◌, not, List, ℕ, eqb, Float, length, get_or, Result, Ok, Err}
use Rattle.std.proofs.Common.{sym, ◌∙◌, ext_get_or}
use borrow.Author.Tests.{eqb-true, not-true, not-false}
use Rattle.std.specs.Float.{nan}
use Rattle.fill.specs.Tab.{tab}
use Rattle.fill.proofs.TabLaws.{length-tab, get_or-tab}
use Rattle.mc_payload.proofs.Demand3.Accepted.{both_true}
use Rattle.mc_error.specs.declared.McError.{McError}
use Rattle.mc_error.specs.declared.McError.TheVariants.{InvalidArgument}
use Rattle.mc_state.specs.declared.McDecodeState.{McDecodeState}
use Rattle.mc_state.specs.Held.{held_fits}
use Rattle.mc_state.specs.Carry.{Carrying, counted, carried_over, converted, converted_over}
use Rattle.mc_state.specs.Answer.{carry_number, carrying_by, carrying_of}

module _ (st : McDecodeState) (b : Bool) (e : b ≡ held_fits st.layout_len st.layout) where
  pub carry-refused : not b ≡ true → carrying_of (Err InvalidArgument) st ≡ carried_over st
  unfolding carried_over
  carry-refused t = rw (← e, not-true b t)

  pub carry-taken : not b ≡ false → carrying_of (Ok (counted st)) st ≡ carried_over st
  unfolding carried_over
  carry-taken t = rw (← e, not-false b t)

-- the same with the answer's number
pub carrying-number : (answer : Result Unit McError) (state : McDecodeState) (n : ℕ) (c : Carrying)
    → n ≡ carry_number answer → carrying_by (carry_number answer) state ≡ c → carrying_by n state ≡ c
carrying-number answer state n c en e = rw en e

-- ---- conversion

-- a list by its elements
pub tab-list : (xs : List Float) (n : ℕ) → length xs ≡ n → tab (λ (k : ℕ). get_or xs k nan) n ≡ xs
tab-list xs n e =
    let f : ℕ → Float = λ k. get_or xs k nan in
    ext_get_or nan (tab f n) xs (length-tab f n ∙ sym e) (λ i h. get_or-tab nan f n i (rw (length-tab f n) at h))

-- of a history that was not refused
pub history-long : (history : List Float) (b : Bool) → not (eqb (length history) 576 && b) ≡ false → length history ≡ 576
history-long history b t = eqb-true (length history) 576 (both_true (eqb (length history) 576) b (not-false (eqb (length history) 576 && b) t)).0

module _ (history : List Float) (count layout tally : ℕ) (st : McDecodeState) (b : Bool) (e : b ≡ held_fits count layout) where
  pub convert-refused : not (eqb (length history) 576 && b) ≡ true → carrying_of (Err InvalidArgument) st ≡ converted_over history count layout tally st
  unfolding converted_over
  convert-refused t = rw (← e, not-true (eqb (length history) 576 && b) t)

  pub convert-taken : not (eqb (length history) 576 && b) ≡ false → (xs : List Float) → xs ≡ history
      → carrying_of (Ok (converted xs count layout tally)) st ≡ converted_over history count layout tally st
  unfolding converted_over
  convert-taken t xs ex = rw (← e, not-false (eqb (length history) 576 && b) t, ex)
