-- Sequences of frame calls on one state, accepted and refused, from any desks, and a change of readings among them. The calls name
-- their own readings: those before the change may be under reading 1 and those after it under reading 2.
use Rattle.std.specs.Prelude.{◌≡◌, true, cond, List, [], ◌∷◌, ◌++◌, map, ℕ, ◌+◌, ◌≤◌, eqb, ltb, Float, length}
use Rattle.bits.specs.Syntax.{accepted, refused}
use Rattle.mc_state.specs.declared.McDecodeState.{McDecodeState}
use Rattle.mc_state.specs.Held.{held_fits}
use Rattle.mc_state.specs.Desk.{desk_fits, top, tally_at}
use Rattle.mc_state.specs.Carry.{carried_over, converted_over}
use Rattle.mc_state.specs.Frame.{Lent, Buffers, Answer, After, frame_of, fresh}

-- a frame call, beside the state
pub record Call : Type 0 where
  pub lent : Lent
  pub buffers : Buffers

-- what it answers, and what the buffers hold after it
pub record Result : Type 0 where
  pub answer : Answer
  pub buffers : Buffers

abbrev pub calling : Call → McDecodeState → After
calling c st = frame_of c.lent c.buffers st

abbrev pub result_of : After → Result
result_of a = record { answer = a.answer; buffers = a.buffers }

-- calls one after another, each on the state that the one before left
unfoldable pub results : List Call → McDecodeState → List Result
results [] st = []
results (c ∷ more) st = result_of (calling c st) ∷ results more (calling c st).state

unfoldable pub state_after : List Call → McDecodeState → McDecodeState
state_after [] st = st
state_after (c ∷ more) st = state_after more (calling c st).state

-- a state by its history, count, layout and tallies
abbrev pub state_by : List Float → ℕ → ℕ → List ℕ → McDecodeState
state_by history count layout tallies = record { pred_hist = history; layout_len = count; layout = layout; accepted = tallies }

-- ---- tallies and desks enter no answer, no value and nothing else that is kept

-- all but the tallies
pub record SameReel (st st' : McDecodeState) : Type 0 where
  pub history : st.pred_hist ≡ st'.pred_hist
  pub count : st.layout_len ≡ st'.layout_len
  pub layout : st.layout ≡ st'.layout

-- two sequences of calls have the same answers, buffers, history and layout
pub record SameResults (cs cs' : List Call) (st st' : McDecodeState) : Type 0 where
  pub same : results cs st ≡ results cs' st'
  pub after : SameReel (state_after cs st) (state_after cs' st')

-- later calls can not tell two states apart
abbrev pub SameFrom : List Call → McDecodeState → McDecodeState → Type 0
SameFrom cs st st' = SameResults cs cs st st'

-- states that differ in their tallies alone, and calls from any desks, also above 7
abbrev pub NeverTheTally : Type 0
NeverTheTally = (cs : List Call) (st st' : McDecodeState) → SameReel st st' → SameFrom cs st st'

-- the same loan from another desk
abbrev pub at_desk : ℕ → Lent → Lent
at_desk desk l =
    record {
      head = l.head;
      head_bits = l.head_bits;
      payload = l.payload;
      payload_bits = l.payload_bits;
      reading = l.reading;
      desk = desk;
      rate = l.rate;
      base_channels = l.base_channels;
      base = l.base;
      base_steps = l.base_steps;
      lfe = l.lfe;
      steps = l.steps;
    }

-- the same call, from any two of the eight desks
pub record SameButDesk (c c' : Call) : Type 0 where
  pub lent : c.lent ≡ at_desk c.lent.desk c'.lent
  pub buffers : c.buffers ≡ c'.buffers
  pub desk : desk_fits c.lent.desk ≡ true
  pub desk' : desk_fits c'.lent.desk ≡ true

unfoldable pub OtherDesks : List Call → List Call → Type 0
OtherDesks [] [] = Unit {0}
OtherDesks [] (c' ∷ more') = ⊥
OtherDesks (c ∷ more) [] = ⊥
OtherDesks (c ∷ more) (c' ∷ more') = SameButDesk c c' × OtherDesks more more'

-- calls that differ in their desks alone, from states with any tallies
abbrev pub NeverTheDesk : Type 0
NeverTheDesk = (cs cs' : List Call) (st st' : McDecodeState) → OtherDesks cs cs' → SameReel st st' → SameResults cs cs' st st'

-- ---- a desk's own tally

-- what the type of the tallies gives: eight, of 32 bits each
pub record Tallies (st : McDecodeState) : Type 0 where
  pub eight : length st.accepted ≡ 8
  pub small : (desk : ℕ) → tally_at st.accepted desk ≤ top

-- up to the top
abbrev pub capped : ℕ → ℕ
capped n = cond (ltb n top) n top

-- an accepted frame is one
abbrev pub one : Answer → ℕ
one (accepted (head_used, excess) used) = 1
one (refused x) = 0

-- how many of the calls are accepted and name the desk
unfoldable pub accepted_at : ℕ → List Call → McDecodeState → ℕ
accepted_at desk [] st = 0
accepted_at desk (c ∷ more) st = cond (eqb c.lent.desk desk) (one (calling c st).answer) 0 + accepted_at desk more (calling c st).state

-- its tally is what it was and the frames that it had accepted, up to the top
abbrev pub OwnTally : Type 0
OwnTally =
    (desk : ℕ) (cs : List Call) (st : McDecodeState) → desk_fits desk ≡ true → Tallies st
    → tally_at (state_after cs st).accepted desk ≡ capped (tally_at st.accepted desk + accepted_at desk cs st)

-- ---- one change in a sequence

-- what may be lent of a state beside its history
abbrev pub Holds : McDecodeState → Type 0
Holds st = held_fits st.layout_len st.layout ≡ true

abbrev pub FreshHolds : Type 0
FreshHolds = Holds fresh

pub data Step : Type 0 where
  call : Call → Step
  change : Step

pub data Report : Type 0 where
  read : Result → Report
  -- what carrying answered
  carried : ℕ → Report

unfoldable pub reel : List Step → McDecodeState → List Report
reel [] st = []
reel (call c ∷ more) st = read (result_of (calling c st)) ∷ reel more (calling c st).state
reel (change ∷ more) st = carried (carried_over st).answer ∷ reel more (carried_over st).state

-- a reel that begins with a state that may be lent takes the change, and the calls after it give what they give from that history and count, whatever the
-- tallies
abbrev pub ChangedInMidReel : Type 0
ChangedInMidReel =
    (before after : List Call) (st : McDecodeState) (tallies : List ℕ) → Holds st
    → let left = state_after before st in
    reel (map call before ++ change ∷ map call after) st
    ≡ map read (results before st) ++ carried 0 ∷ map read (results after (state_by left.pred_hist left.layout_len 0 tallies))

-- a carried state of count 0 is as a fresh one, but for its history and tallies
abbrev pub CarriedFresh : Type 0
CarriedFresh =
    (cs : List Call) (st : McDecodeState) (tallies : List ℕ) → Holds st → st.layout_len ≡ 0
    → SameFrom cs (carried_over st).state (state_by st.pred_hist fresh.layout_len fresh.layout tallies)

-- ---- a state of before there were desks

-- calls on a converted state give what they give from that history, count and layout, whatever the tallies
abbrev pub ConvertedGoesOn : Type 0
ConvertedGoesOn =
    (cs : List Call) (history : List Float) (count layout tally : ℕ) (st : McDecodeState) (tallies : List ℕ) → length history ≡ 576 → held_fits count layout ≡ true
    → SameFrom cs (converted_over history count layout tally st).state (state_by history count layout tallies)

-- ---- calls under reading 1

unfoldable pub UnderFirst : List Call → Type 0
UnderFirst [] = Unit {0}
UnderFirst (c ∷ more) = (c.lent.reading ≡ 1) × UnderFirst more

-- they store no layout, and a count only where nothing was held
pub record Kept (st st' : McDecodeState) : Type 0 where
  pub layout : st'.layout ≡ st.layout
  pub count : (st.layout_len ≡ 0 → ⊥) → st'.layout_len ≡ st.layout_len

abbrev pub FirstKeeps : Type 0
FirstKeeps = (cs : List Call) (st : McDecodeState) → UnderFirst cs → Kept st (state_after cs st)
