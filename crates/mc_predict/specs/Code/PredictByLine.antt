-- Prediction as the code does it: by one line of values for each base channel, and one predicted channel after the other.
use Rattle.std.specs.Prelude.{◌&&◌, cond, List, [], ℕ, ◌+◌, ◌-◌, ◌*◌, ◌/◌, ◌%◌, eqb, ltb, Float, get_or, length}
use Rattle.std.specs.Float.{nan}
use Rattle.std.specs.Float.Ieee.{ne}
use Rattle.fill.specs.Tab.{tab}
use Rattle.floats.specs.Binary64.{◌⊕◌, ◌⊗◌, zero64}
use Rattle.mc_crosstalk.specs.Crosstalk.{predicted_of}
use Rattle.mc_fields.specs.Head.{mode_at, flag_at}
use Rattle.mc_payload.specs.declared.McSettings.{McSettings}
use Rattle.mc_payload.specs.Places.{pair}
use Rattle.mc_base.specs.Base.{chosen}
use Rattle.mc_predict.specs.Predict.{base_for, place_in}
use Rattle.mc_scale.specs.Code.Column.{slot_of}

-- a base channel in one subband, 9 values of the history and then the frame's 36
abbrev pub line_at : List Float → List Float → ℕ → ℕ → ℕ → Float
line_at history base ch sb t = cond (ltb t 9) (get_or history ((32 * ch + sb) * 9 + t) nan) (get_or base (32 * (t - 9) + sb) nan)

unfoldable pub line_of : List Float → List Float → ℕ → ℕ → List Float
line_of history base ch sb = tab (line_at history base ch sb) 45

-- one more term, where the coefficient is not 0
abbrev pub term_of : Float → Float → Float → Float
term_of sum coef x = cond (ne coef zero64) (sum ⊕ coef ⊗ x) sum

-- the three terms of a predictor, from time t back
unfoldable pub terms_of : Float → List Float → List Float → ℕ → Float
terms_of sum coef line t =
    term_of (term_of (term_of sum (get_or coef 0 nan) (get_or line t nan)) (get_or coef 1 nan) (get_or line (t - 1) nan)) (get_or coef 2 nan) (get_or line (t - 2) nan)

-- the sum of two predictors: the left one's terms, then the right one's
abbrev pub pair_sum : ℕ → List Float → List Float → ℕ → List Float → List Float → ℕ → Float
pair_sum delay_left coef_left left delay_right coef_right right slot =
    terms_of (terms_of zero64 coef_left left (9 + slot - delay_left)) coef_right right (9 + slot - delay_right)

-- the sum of the predictors px and px + 1 of a group
abbrev pub sum_by : List ℕ → List (List Float) → List Float → List Float → ℕ → ℕ → Float
sum_by delay coef left right px slot = pair_sum (get_or delay px 0) (get_or coef px []) left (get_or delay (px + 1) 0) (get_or coef (px + 1) []) right slot

-- the value x of channel m with its prediction, where m is among the predicted channels
abbrev pub added_by : List ℕ → List ℕ → List (List Float) → List Float → List Float → ℕ → ℕ → Float → Float
added_by channels delay coef left right m slot x =
    let k = place_in channels m in
    cond (ltb k (length channels)) (x ⊕ sum_by delay coef left right (2 * k) slot) x

-- one subband of work predicted
abbrev pub subband_at : ℕ → List ℕ → List ℕ → List (List Float) → List Float → List Float → List Float → ℕ → Float
subband_at sb channels delay coef left right work k =
    cond (eqb (k % 32) sb) (added_by channels delay coef left right (k / 1152) (slot_of k) (get_or work k nan)) (get_or work k nan)

unfoldable pub subband_of : ℕ → List ℕ → List ℕ → List (List Float) → List Float → List Float → List Float → List Float
subband_of sb channels delay coef left right work = tab (subband_at sb channels delay coef left right work) 3456

-- the channels that are predicted in subband sb, by the tables of the status
abbrev pub channels_in : ℕ → List ℕ → List ℕ → ℕ → List ℕ
channels_in pair flags modes sb = cond (ltb sb 8 && eqb (flag_at flags sb) 1) (predicted_of pair (mode_at modes sb)) []

-- all of work predicted
abbrev pub groups_at : ℕ → List ℕ → List ℕ → List (List ℕ) → List (List (List Float)) → List Float → List Float → List Float → List Float → ℕ → Float
groups_at pair flags modes delay coef left right history work k =
    let sb = k % 32 in
    added_by (channels_in pair flags modes sb) (get_or delay sb []) (get_or coef sb []) (line_of history left 0 sb) (line_of history right 1 sb) (k / 1152) (slot_of k)
    (get_or work k nan)

unfoldable pub groups_of :
    ℕ → List ℕ → List ℕ → List (List ℕ) → List (List (List Float)) → List Float → List Float → List Float → List Float → List Float
groups_of pair flags modes delay coef left right history work = tab (groups_at pair flags modes delay coef left right history work) 3456

-- the same under settings, from the channels that stand for both
abbrev pub predicted_by : McSettings → List (List ℕ) → List (List (List Float)) → List Float → List Float → List Float → List Float → List Float
predicted_by s delay coef first second history work =
    groups_of (pair s) s.status.mc_prediction s.status.dyn_cross delay coef first second history work

-- the same from the base channels as they are lent
abbrev pub predicted_work : McSettings → List (List ℕ) → List (List (List Float)) → List Float → List Float → List Float → List Float → List Float
predicted_work s delay coef left right history work = predicted_by s delay coef left (chosen (base_for s 1) left right) history work
