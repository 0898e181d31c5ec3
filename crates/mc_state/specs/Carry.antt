-- A state carried over to another reading, and one of before there were desks converted.
use Rattle.std.specs.Prelude.{Bool, ◌&&◌, cond, List, ◌∷◌, ℕ, eqb, Float, length, replicate}
use Rattle.mc_state.specs.declared.McDecodeState.{McDecodeState}
use Rattle.mc_state.specs.Held.{held_fits}

pub record Carrying : Type 0 where
  -- 0, or the refusal's number
  pub answer : ℕ
  pub state : McDecodeState

-- a state in place of another, or refusal 6, which changes nothing
abbrev pub replacing : Bool → McDecodeState → McDecodeState → Carrying
replacing fits next st = cond fits (record { answer = 0; state = next }) (record { answer = 6; state = st })

-- of a layout only its count is kept, and all else as it was
abbrev pub counted : McDecodeState → McDecodeState
counted st = record { pred_hist = st.pred_hist; layout_len = st.layout_len; layout = 0; accepted = st.accepted }

-- refused only for a wrong count or layout
unfoldable pub carried_over : McDecodeState → Carrying
carried_over st = replacing (held_fits st.layout_len st.layout) (counted st) st

-- ---- a state with one tally, by its fields; before there were layouts, its layout is 0

-- desk 0 has the tally, the others none, and the rest is kept
abbrev pub converted : List Float → ℕ → ℕ → ℕ → McDecodeState
converted history count layout tally = record { pred_hist = history; layout_len = count; layout = layout; accepted = tally ∷ replicate 7 0 }

-- refused as carrying is, and for a history of another length
unfoldable pub converted_over : List Float → ℕ → ℕ → ℕ → McDecodeState → Carrying
converted_over history count layout tally st = replacing (eqb (length history) 576 && held_fits count layout) (converted history count layout tally) st
