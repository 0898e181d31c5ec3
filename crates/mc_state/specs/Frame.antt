-- One frame call: the first refusal in a fixed order, or the accepted frame, and what every buffer and the state hold afterwards.
use Rattle.std.specs.Prelude.{Bool, ◌&&◌, cond, List, ℕ, eqb, Float, length, get_or, replicate}
use Rattle.std.specs.Float.{nan, binary64}
use Rattle.std.specs.Float.Ieee.{of_bits, neg, le}
use Rattle.floats.specs.Binary64.{zero64}
use Rattle.bits.specs.Syntax.{Refusal, plain, Outcome, accepted, refused}
use Rattle.mc_config.specs.declared.McHeader.{McHeader}
use Rattle.mc_fields.specs.declared.McStatus.{McStatus}
use Rattle.mc_fields.specs.Lent.{string_fits, head_of}
use Rattle.mc_payload.specs.declared.McSettings.{McSettings}
use Rattle.mc_payload.specs.Payload.{Codes}
use Rattle.mc_payload.specs.Record.{excesses_of, record_of, excess_codes}
use Rattle.fill.specs.Each.{each}
use Rattle.mc_payload.specs.Unpack.{settings_of, loan_fits, loan_by}
use Rattle.mc_unpack.specs.Settled.{settled_of}
use Rattle.mc_base.specs.Base.{Base, second_length}
use Rattle.mc_output.specs.Output.{work_of, output_of, channels}
use Rattle.mc_history.specs.History.{history_of}
use Rattle.mc_state.specs.declared.McDecodeState.{McDecodeState}
use Rattle.mc_state.specs.Held.{layout_for, held_fits, follows, layout_after}
use Rattle.mc_state.specs.Desk.{desk_fits, tallied}

-- what a frame call is lent, beside the state
pub record Lent : Type 0 where
  pub head : List ℕ
  pub head_bits : ℕ
  pub payload : List ℕ
  pub payload_bits : ℕ
  -- of the transfer guide, 1 or 2
  pub reading : ℕ
  -- 0 to 7
  pub desk : ℕ
  pub rate : ℕ
  pub base_channels : ℕ
  pub base : Base
  pub base_steps : List ℕ
  pub lfe : ℕ
  pub steps : List ℕ

-- the buffers that it writes
pub record Buffers : Type 0 where
  pub raw : List Float
  pub work : List Float
  pub output : List Float
  pub lfe : List Float

-- ---- refusals 6, 14 and 7

-- values of a second base channel
abbrev pub right_length : ℕ → ℕ
right_length base_channels = second_length base_channels 1152

-- lengths of the base's four lists
abbrev pub values_long : ℕ → ℕ → ℕ → ℕ → ℕ → Bool
values_long base_channels raw_left raw_right scaled_left scaled_right =
    eqb raw_left 1152
    && (eqb raw_right (right_length base_channels) && (eqb scaled_left 1152 && eqb scaled_right (right_length base_channels)))

-- lengths of the four buffers
abbrev pub room_fits : ℕ → ℕ → ℕ → ℕ → Bool
room_fits raw work output lfe = eqb raw 3456 && (eqb work 3456 && (eqb output 5760 && eqb lfe 12))

-- all that is lent, the buffers by their lengths, may be lent, and the state too
unfoldable pub lent_by : Lent → ℕ → ℕ → ℕ → ℕ → ℕ → ℕ → Bool
lent_by l raw work output lfe count layout =
    string_fits l.head l.head_bits
    && (string_fits l.payload l.payload_bits
    && (loan_fits l.reading l.rate l.base_channels l.lfe l.steps l.base_steps
    && (values_long l.base_channels (length l.base.raw_left) (length l.base.raw_right) (length l.base.scaled_left) (length l.base.scaled_right)
    && (room_fits raw work output lfe && held_fits count layout))))

-- else wrong loan, refusal 6
abbrev pub lent_fits : Lent → Buffers → McDecodeState → Bool
lent_fits l w st = lent_by l (length w.raw) (length w.work) (length w.output) (length w.lfe) st.layout_len st.layout

abbrev pub four : Float
four = of_bits binary64 0x4010000000000000

-- within -4 to 4; not a number is not
abbrev pub value_fits : Float → Bool
value_fits x = le (neg four) x && le x four

abbrev pub all_fit : List Float → Bool
all_fit xs = each (λ k. value_fits (get_or xs k nan)) (length xs)

-- base and history values; else wild value, refusal 7
unfoldable pub values_fit : Base → List Float → Bool
values_fit b history = all_fit b.raw_left && (all_fit b.raw_right && (all_fit b.scaled_left && (all_fit b.scaled_right && all_fit history)))

-- ---- what a frame call decides

pub data Verdict : Type 0 where
  refusal : Refusal → Verdict
  -- layout changed, refusal 5
  changed : McSettings → Verdict
  -- accepted: under which settings, with which codes, and the used bits of head and payload
  frame : McSettings → Codes → ℕ → ℕ → Verdict

-- what the payload is read under
abbrev pub settings_for : Lent → McHeader → McStatus → McSettings
settings_for l h status = settings_of (loan_by l.reading l.rate l.base_channels h status l.lfe l.steps l.base_steps)

unfoldable pub verdict_unpacked : McDecodeState → McSettings → ℕ → Outcome Codes → Verdict
verdict_unpacked st s head_used (refused r) = refusal r
verdict_unpacked st s head_used (accepted c used) = cond (follows st.layout_len st.layout s) (frame s c head_used used) (changed s)

unfoldable pub verdict_head : Lent → McDecodeState → Outcome (McHeader × (ℕ × McStatus)) → Verdict
verdict_head l st (refused r) = refusal r
verdict_head l st (accepted (h, (word, status)) used) =
    let s = settings_for l h status in
    verdict_unpacked st s used (settled_of s l.payload l.payload_bits)

unfoldable pub verdict_of : Lent → Buffers → McDecodeState → Verdict
verdict_of l w st =
    cond (lent_fits l w st)
    (cond (desk_fits l.desk)
    (cond (values_fit l.base st.pred_hist) (verdict_head l st (head_of l.reading l.head l.head_bits l.base_channels)) (refusal (plain 7)))
    (refusal (plain 14)))
    (refusal (plain 6))

-- ---- what it leaves

-- the used bits of the head, how many group codes have an excess, and the used bits of the payload; or the refusal
abbrev pub Answer : Type 0
Answer = Outcome (ℕ × ℕ)

unfoldable pub answer_of : Verdict → Answer
answer_of (refusal r) = refused r
answer_of (changed s) = refused (plain 5)
answer_of (frame s c head_used used) = accepted (head_used, excess_codes (excesses_of s c)) used

-- what an accepted frame writes
unfoldable pub written : McSettings → Codes → Base → List Float → Buffers
written s c base history =
    let r = record_of s c in
    let work = work_of s r base history in
    record { raw = r.raw; work = work; output = output_of s base work; lfe = r.lfe }

-- a refusal leaves the buffers as they were
unfoldable pub buffers_of : Verdict → Base → List Float → Buffers → Buffers
buffers_of (refusal r) base history w = w
buffers_of (changed s) base history w = w
buffers_of (frame s c head_used used) base history w = written s c base history

-- a refusal leaves the state as it was, but refusal 5 has stored the history
unfoldable pub state_of : Verdict → ℕ → Base → McDecodeState → McDecodeState
state_of (refusal r) desk base st = st
state_of (changed s) desk base st = record { pred_hist = history_of s base; layout_len = st.layout_len; layout = st.layout; accepted = st.accepted }
state_of (frame s c head_used used) desk base st =
    record {
      pred_hist = history_of s base;
      layout_len = channels s;
      layout = layout_after s.reading st.layout (layout_for s);
      accepted = tallied desk st.accepted;
    }

-- the whole call
pub record After : Type 0 where
  pub answer : Answer
  pub buffers : Buffers
  pub state : McDecodeState

abbrev pub after_verdict : Verdict → ℕ → Base → Buffers → McDecodeState → After
after_verdict v desk base w st = record { answer = answer_of v; buffers = buffers_of v base st.pred_hist w; state = state_of v desk base st }

-- from the payload on
unfoldable pub after_unpacked : McDecodeState → ℕ → McSettings → ℕ → List ℕ → ℕ → Base → Buffers → After
after_unpacked st desk s head_used payload bits base w = after_verdict (verdict_unpacked st s head_used (settled_of s payload bits)) desk base w st

unfoldable pub frame_of : Lent → Buffers → McDecodeState → After
frame_of l w st = after_verdict (verdict_of l w st) l.desk l.base w st

-- a fresh state is all zero
unfoldable pub fresh : McDecodeState
fresh = record { pred_hist = replicate 576 zero64; layout_len = 0; layout = 0; accepted = replicate 8 0 }
