-- What a frame's opening says, by the table of oracle/README.md. Definitions only.
use Rattle.std.specs.Prelude.{ℕ, ◌+◌, ◌*◌, cond, List, [], ◌∷◌, replicate, ◌==◌, slice_index_or, Float}
use Rattle.encoding.specs.Encoding.{number_at}
use Rattle.fill.specs.Tab.{tab}
use Rattle.mc_base.specs.Base.{base_from, Base}
use Rattle.mc_state.specs.declared.McDecodeState.{McDecodeState}
use Rattle.mc_state.specs.Answer.{lent_of}
use Rattle.mc_state.specs.Frame.{Lent}
use Rattle.replay_list.specs.Values.{values_after, with_wild}

-- of n elements of a second base channel all are lent, or none
abbrev pub second_lent : List ℕ → ℕ → ℕ
second_lent opening n = cond (number_at opening 17 1 == 1) n 0

abbrev pub step_counts : List ℕ
step_counts = 0 ∷ 3 ∷ 5 ∷ 7 ∷ 9 ∷ 15 ∷ 31 ∷ 63 ∷ 127 ∷ 255 ∷ 511 ∷ 1023 ∷ 2047 ∷ 4095 ∷ 8191 ∷ 16383 ∷ 32767 ∷ 65535 ∷ []

-- the step count of a class; past the classes 4, which none has
unfoldable pub steps_of : ℕ → ℕ
steps_of class = slice_index_or step_counts class 4

-- n step counts, by their classes from `first` on
unfoldable pub steps_from : List ℕ → ℕ → ℕ → List ℕ
steps_from opening first n = tab (λ k. steps_of (number_at opening (first + k) 1)) n

-- n values, drawn after the first `before`; the first has the place `first`
unfoldable pub lent_values : List ℕ → ℕ → ℕ → ℕ → List Float
lent_values opening before first n =
    with_wild first (number_at opening 21 1) (number_at opening 22 2) (values_after (number_at opening 32 8) before n)

-- a new state, its history drawn after the base values and each desk with the same tally, or the state before it
unfoldable pub start_of : List ℕ → McDecodeState → McDecodeState
start_of opening state =
    cond (number_at opening 19 1 == 1)
    record {
      pred_hist = lent_values opening (2304 + 2 * second_lent opening 1152) 4608 576;
      layout_len = number_at opening 20 1;
      layout = 0;
      accepted = replicate 8 (number_at opening 24 4);
    }
    state

-- what the frame call is lent, with the strings, the base and the step counts
abbrev pub lent_with : List ℕ → List ℕ → List ℕ → Base → List ℕ → List ℕ → Lent
lent_with opening head payload base base_steps steps =
    lent_of head (number_at opening 4 4) payload (number_at opening 8 4) (number_at opening 88 4) (number_at opening 92 4) (number_at opening 12 4) (number_at opening 16 1) base base_steps (number_at opening 18 1) steps

-- the same, with so many values and step counts in each slice: raw left, raw right, scaled left and scaled right are drawn in this order
abbrev pub lent_long : List ℕ → List ℕ → List ℕ → ℕ → ℕ → ℕ → ℕ → ℕ → ℕ → Lent
lent_long opening head payload raw_left raw_right scaled_left scaled_right base_steps steps =
    lent_with opening head payload
    (base_from (lent_values opening 0 0 raw_left) (lent_values opening 1152 1152 raw_right) (lent_values opening (1152 + second_lent opening 1152) 2304 scaled_left) (lent_values opening (2304 + second_lent opening 1152) 3456 scaled_right))
    (steps_from opening 96 base_steps)
    (steps_from opening 160 steps)

-- all that the frame call is lent
abbrev pub lent_in : List ℕ → List ℕ → List ℕ → Lent
lent_in opening head payload =
    let second = second_lent opening 1152 in
    lent_long opening head payload 1152 second 1152 second (32 + second_lent opening 32) 96
