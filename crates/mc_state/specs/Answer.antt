-- What the code's arguments and its answer say, in the definition's terms.
use Rattle.std.specs.Prelude.{◌≡◌, List, ℕ, ◌+◌, ◌*◌, ◌%◌, Float, Result, Ok, Err}
use Rattle.bits.specs.Syntax.{accepted, refused}
use Rattle.mc_error.specs.Error.{refusal_of, packed_refusal}
use Rattle.mc_error.specs.declared.McError.{McError}
use Rattle.mc_base.specs.Base.{Base, lent}
use Rattle.mc_loan.specs.declared.loan.Loan.{Loan}
use Rattle.mc_state.specs.declared.Accepted.{Accepted}
use Rattle.mc_state.specs.declared.loan.Lent as Lending
use Rattle.mc_state.specs.declared.loan.Buffers as Writing
use Rattle.mc_state.specs.declared.Framed.{Framed}
use Rattle.mc_state.specs.declared.McDecodeState.{McDecodeState}
use Rattle.mc_state.specs.Carry.{Carrying}
use Rattle.mc_state.specs.Frame.{Lent, Buffers, Answer, After}

abbrev pub lent_of : List ℕ → ℕ → List ℕ → ℕ → ℕ → ℕ → ℕ → ℕ → Base → List ℕ → ℕ → List ℕ → Lent
lent_of head head_bits payload payload_bits reading desk rate base_channels base base_steps lfe steps =
    record {
      head = head;
      head_bits = head_bits;
      payload = payload;
      payload_bits = payload_bits;
      reading = reading;
      desk = desk;
      rate = rate;
      base_channels = base_channels;
      base = base;
      base_steps = base_steps;
      lfe = lfe;
      steps = steps;
    }

-- the same of the struct that lends it
abbrev pub lent_now : Lending.Lent → Lent
lent_now l =
    let k = l.loan in
    lent_of l.head.bytes.now l.head.bits l.payload.bytes.now l.payload.bits k.reading l.desk k.rate k.base_channels (lent l.base) k.base_nb_steps.now k.lfe_allocation k.nb_steps.now

-- what its payload is read under, beside the head
abbrev pub loan_in : Lending.Lent → Loan
loan_in l = l.loan

abbrev pub buffers_from : List Float → List Float → List Float → List Float → Buffers
buffers_from raw work output lfe = record { raw = raw; work = work; output = output; lfe = lfe }

abbrev pub buffers_now : Writing.Buffers → Buffers
buffers_now w = buffers_from w.raw.now w.work.now w.output.now w.lfe.now

-- the struct lends the same four slices as before, whatever is in them
abbrev pub SameSlices : Writing.Buffers → Writing.Buffers → Type 0
SameSlices w w' =
    (w'.raw.ghost_name ≡ w.raw.ghost_name)
    × ((w'.work.ghost_name ≡ w.work.ghost_name) × ((w'.output.ghost_name ≡ w.output.ghost_name) × (w'.lfe.ghost_name ≡ w.lfe.ghost_name)))

-- accepted, with the used bits of head and payload and the number of excesses; or refused, with the refusal's number, group and code
abbrev pub outcome_of : Result Accepted McError → Answer
outcome_of (Ok a) = accepted (a.head_bits, a.excess_codes) a.payload_bits
outcome_of (Err e) = refused (refusal_of e)

abbrev pub after_by : Result Accepted McError → McDecodeState → Buffers → After
after_by answer state w = record { answer = outcome_of answer; buffers = w; state = state }

abbrev pub after_of : Framed → Buffers → After
after_of r w = after_by r.answer r.state w

-- ---- carrying and conversion

-- 0, or the refusal's number
abbrev pub carry_number : {A : Type 0} → Result A McError → ℕ
carry_number (Ok a) = 0
carry_number (Err e) = (refusal_of e).number

abbrev pub carrying_by : ℕ → McDecodeState → Carrying
carrying_by n state = record { answer = n; state = state }

-- the next state; or the refusal's number and the state before, which stays
abbrev pub carrying_of : Result McDecodeState McError → McDecodeState → Carrying
carrying_of (Ok next) before = carrying_by 0 next
carrying_of (Err e) before = carrying_by (refusal_of e).number before

-- ---- the answer as one number, for C

-- the low 8 bits are the refusal's number, 0 for none; of an accepted frame the next 24 are the used head bits, the next 20 the used payload bits and the high 12
-- the number of excesses; of a refused one the next 24 are the group and the high 32 the code (`packed_refusal`)
abbrev pub packed : Answer → ℕ
packed (accepted (head_bits, excess_codes) payload_bits) =
    head_bits % 16777216 * 256 + payload_bits % 1048576 * 4294967296 + excess_codes % 4096 * 4503599627370496
packed (refused x) = packed_refusal x

pub record PackedAfter : Type 0 where
  pub answer : ℕ
  pub buffers : Buffers
  pub state : McDecodeState

abbrev pub packed_by : ℕ → McDecodeState → Buffers → PackedAfter
packed_by n state w = record { answer = n; buffers = w; state = state }

abbrev pub packed_of : After → PackedAfter
packed_of a = packed_by (packed a.answer) a.state a.buffers
