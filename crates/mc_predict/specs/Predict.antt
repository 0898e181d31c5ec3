-- Multichannel prediction (ISO/IEC 13818-3, 2.5.3.2.1.3): from both base channels, in subbands 0 to 7.
use Rattle.std.specs.Prelude.{◌≡◌, ◌&&◌, cond, List, [], ◌∷◌, ℕ, zero, suc, ◌+◌, ◌-◌, ◌*◌, ◌/◌, ◌%◌, eqb, ltb, Float, get_or, length}
use Rattle.std.specs.Float.{nan}
use Rattle.std.specs.Float.Ieee.{ne}
use Rattle.floats.specs.Binary64.{◌⊕◌, ◌⊗◌, zero64}
use Rattle.mc_crosstalk.specs.Crosstalk.{predicted_of}
use Rattle.mc_fields.specs.Head.{mode_at, flag_at}
use Rattle.mc_payload.specs.declared.McSettings.{McSettings}
use Rattle.mc_payload.specs.Places.{pair}
use Rattle.mc_payload.specs.Record.{Record}
use Rattle.mc_base.specs.Base.{Base, chosen}
use Rattle.mc_scale.specs.Scale.{scaled_at}

-- the base channel that stands for channel ch: with one base channel always the first
abbrev pub base_for : McSettings → ℕ → ℕ
base_for s ch = cond (eqb s.base_channels 1) 0 ch

-- the channels that stand for both of a base
pub record Both (s : McSettings) (base : Base) (first second : List Float) : Type 0 where
  pub first_is : first ≡ base.scaled_left
  pub second_is : second ≡ chosen (base_for s 1) base.scaled_left base.scaled_right

-- base channel ch at a slot and subband
abbrev pub base_value : McSettings → Base → ℕ → ℕ → ℕ → Float
base_value s base ch slot sb = get_or (chosen (base_for s ch) base.scaled_left base.scaled_right) (32 * slot + sb) nan

-- base channel ch at time t, 9 values of the history before the frame's 36; the history has channel ch and subband sb at (32 ch + sb) 9
abbrev pub earlier : McSettings → Base → List Float → ℕ → ℕ → ℕ → Float
earlier s base history ch sb t =
    cond (ltb t 9) (get_or history ((32 * ch + sb) * 9 + t) nan)
    (get_or (chosen (base_for s ch) base.scaled_left base.scaled_right) (32 * (t - 9) + sb) nan)

-- the delay of predictor px of group g, and its coefficient k
abbrev pub delay_at : Record → ℕ → ℕ → ℕ
delay_at r g px = get_or (get_or r.delay g []) px 0

abbrev pub coef_at : Record → ℕ → ℕ → ℕ → Float
coef_at r g px k = get_or (get_or (get_or r.coef g []) px []) k nan

-- the term of coefficient k of the two predictors from px on, left 0 to 2 and right 3 to 5, added where the coefficient is not 0
unfoldable pub with_term : McSettings → Record → Base → List Float → ℕ → ℕ → ℕ → ℕ → Float → Float
with_term s r base history px sb slot k sum =
    let ch = k / 3 in
    let coef = coef_at r sb (px + ch) (k % 3) in
    cond (ne coef zero64) (sum ⊕ coef ⊗ earlier s base history ch sb (9 + slot - delay_at r sb (px + ch) - k % 3)) sum

-- the sum of the first n terms, from +0
unfoldable pub sum_of : McSettings → Record → Base → List Float → ℕ → ℕ → ℕ → ℕ → Float
sum_of s r base history px sb slot zero = zero64
sum_of s r base history px sb slot (suc n) = with_term s r base history px sb slot n (sum_of s r base history px sb slot n)

-- the place of m in a list; its length where m is not there
unfoldable pub place_in : List ℕ → ℕ → ℕ
place_in [] m = 0
place_in (x ∷ xs) m = cond (eqb x m) 0 (suc (place_in xs m))

-- the channels that are predicted in subband sb
abbrev pub predicted_in : McSettings → ℕ → List ℕ
predicted_in s sb =
    cond (ltb sb 8 && eqb (flag_at s.status.mc_prediction sb) 1) (predicted_of (pair s) (mode_at s.status.dyn_cross sb)) []

-- work: the scaled value, and with prediction the sum added to it, allocated or not
unfoldable pub work_at : McSettings → Record → Base → List Float → ℕ → ℕ → ℕ → Float
work_at s r base history m slot sb =
    let k = place_in (predicted_in s sb) m in
    cond (ltb k (length (predicted_in s sb)))
    (scaled_at s r base m slot sb ⊕ sum_of s r base history (2 * k) sb slot 6)
    (scaled_at s r base m slot sb)
