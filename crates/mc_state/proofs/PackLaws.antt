-- The packed answer is that of the frame.
use Rattle.std.specs.Prelude.{◌≡◌, ℕ, ◌+◌, ◌*◌, ◌%◌, Result, Ok, Err}
use Rattle.mc_error.specs.Error.{refusal_of}
use Rattle.mc_error.specs.declared.McError.{McError}
use Rattle.mc_state.specs.declared.Accepted.{Accepted}
use Rattle.mc_state.specs.declared.Framed.{Framed}
use Rattle.mc_state.specs.Frame.{Buffers, After}
use Rattle.mc_state.specs.Answer.{outcome_of, after_of, packed, packed_by, packed_of}

pub packs-accepted : (a : Result Accepted McError) (h p n : ℕ) → a ≡ Ok (record { head_bits = h; payload_bits = p; excess_codes = n })
    → h % 16777216 * 256 + p % 1048576 * 4294967296 + n % 4096 * 4503599627370496 ≡ packed (outcome_of a)
packs-accepted a h p n q = rw q

pub packs-refused : (a : Result Accepted McError) (e : McError) (n g k : ℕ) → a ≡ Err e → n ≡ (refusal_of e).number → g ≡ (refusal_of e).group → k ≡ (refusal_of e).code
    → n + g % 16777216 * 256 + k * 4294967296 ≡ packed (outcome_of a)
packs-refused a e n g k q en eg ek = rw (q, en, eg, ek)

pub packs-after : (r : Framed) (w : Buffers) (a : After) (n : ℕ) → after_of r w ≡ a → n ≡ packed (outcome_of r.answer) → packed_by n r.state w ≡ packed_of a
packs-after r w a n e q = rw (← e, q)
