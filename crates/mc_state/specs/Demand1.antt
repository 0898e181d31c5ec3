-- What is promised on all input: of a frame call that is refused, and of one that is accepted.
use Rattle.std.specs.Prelude.{◌≡◌, Bool, true, false, ◌||◌, List, [], ◌∷◌, ◌⊎◌, ℕ, ◌<◌, eqb}
use Rattle.bits.specs.Syntax.{Refusal, plain, accepted, refused}
use Rattle.mc_config.specs.declared.McHeader.{McHeader}
use Rattle.mc_fields.specs.declared.McStatus.{McStatus}
use Rattle.mc_fields.specs.Lent.{head_of}
use Rattle.mc_payload.specs.declared.McSettings.{McSettings}
use Rattle.mc_payload.specs.Payload.{Codes}
use Rattle.mc_payload.specs.Record.{excesses_of, excess_codes}
use Rattle.mc_unpack.specs.Settled.{settled_of}
use Rattle.mc_output.specs.Output.{channels}
use Rattle.mc_history.specs.History.{history_of}
use Rattle.mc_state.specs.declared.McDecodeState.{McDecodeState}
use Rattle.mc_state.specs.Held.{layout_for, follows, layout_after}
use Rattle.mc_state.specs.Desk.{desk_fits, tallied}
use Rattle.mc_state.specs.Frame.{Lent, Buffers, After, settings_for, written, frame_of}

-- what was found in head and payload, and in how many bits of each
pub record Found (l : Lent) (s : McSettings) (c : Codes) (head_used used : ℕ) : Type 0 where
  pub header : McHeader
  pub word : ℕ
  pub status : McStatus
  pub head : head_of l.reading l.head l.head_bits l.base_channels ≡ accepted (header, (word, status)) head_used
  pub settings : s ≡ settings_for l header status
  pub payload : settled_of s l.payload l.payload_bits ≡ accepted c used

-- n is one of the numbers listed
unfoldable pub among : List ℕ → ℕ → Bool
among [] n = false
among (m ∷ more) n = eqb n m || among more n

-- the numbers of the frame call's refusals
abbrev pub frame_numbers : List ℕ
frame_numbers = 1 ∷ 2 ∷ 3 ∷ 4 ∷ 5 ∷ 6 ∷ 7 ∷ 8 ∷ 13 ∷ 14 ∷ []

-- one of an entry's numbers; a group, which is one of twelve, and a code under 2 alone
pub record Numbered (numbers : List ℕ) (x : Refusal) : Type 0 where
  pub number : among numbers x.number ≡ true
  pub group : x.group < 12
  pub bare : (x.number ≡ 2) ⊎ (x ≡ plain x.number)

-- the base's last nine slots are in the history, and nothing else has changed
pub record Stored (l : Lent) (st st' : McDecodeState) : Type 0 where
  pub settings : McSettings
  pub codes : Codes
  pub head_used : ℕ
  pub used : ℕ
  pub found : Found l settings codes head_used used
  pub history : st'.pred_hist ≡ history_of settings l.base
  pub count : st'.layout_len ≡ st.layout_len
  pub layout : st'.layout ≡ st.layout
  pub tallies : st'.accepted ≡ st.accepted

-- after refusal x the buffers are as they were, and so is the state, but that refusal 5 has stored the history
pub record Left (x : Refusal) (l : Lent) (w : Buffers) (st : McDecodeState) (a : After) : Type 0 where
  pub numbered : Numbered frame_numbers x
  pub buffers : a.buffers ≡ w
  pub state : (x ≡ plain 5 → ⊥) → a.state ≡ st
  pub stored : x ≡ plain 5 → Stored l st a.state

-- the answer, the buffers and the state hold what head and payload say
pub record Written (l : Lent) (st : McDecodeState) (head_used excess used : ℕ) (a : After) : Type 0 where
  pub settings : McSettings
  pub codes : Codes
  pub found : Found l settings codes head_used used
  pub excesses : excess ≡ excess_codes (excesses_of settings codes)
  pub allowed : follows st.layout_len st.layout settings ≡ true
  pub desk : desk_fits l.desk ≡ true
  pub buffers : a.buffers ≡ written settings codes l.base st.pred_hist
  pub history : a.state.pred_hist ≡ history_of settings l.base
  pub count : a.state.layout_len ≡ channels settings
  pub layout : a.state.layout ≡ layout_after settings.reading st.layout (layout_for settings)
  pub tallies : a.state.accepted ≡ tallied l.desk st.accepted

abbrev pub RefusedLeaves : Type 0
RefusedLeaves = (l : Lent) (w : Buffers) (st : McDecodeState) (x : Refusal) → (frame_of l w st).answer ≡ refused x → Left x l w st (frame_of l w st)

abbrev pub AcceptedWrites : Type 0
AcceptedWrites =
    (l : Lent) (w : Buffers) (st : McDecodeState) (head_used excess used : ℕ)
    → (frame_of l w st).answer ≡ accepted (head_used, excess) used
    → Written l st head_used excess used (frame_of l w st)
