-- Laws of a test between two reads, of what follows a refusal, and of the type that a value fits.
use Rattle.std.specs.Prelude.{◌≡◌, Bool, true, false, cond, ℕ, ◌≤◌}
use Rattle.std.proofs.Common.{sym, ◌∙◌, lt_of_lt_of_le, pow_mono, Fits}
use Rattle.std.specs.Int.{Width}
use mir.Val.{bits}
use Rattle.bits.specs.Syntax.{Syntax, Refusal, done, refuse, field, bind}
use Rattle.bit_reader.specs.Reads.{run_at, Goes}
use Rattle.bit_reader.specs.declared.BitReader.{BitReader}
use Rattle.bit_reader.proofs.ReadLaws.{stays, stops, ended-refusal, read-bound}

-- a test that refuses
pub test-stops : {A : Type 0} {r : BitReader} (m : Syntax A) (x : Refusal) {bad : Bool} → bad ≡ true → Goes r (cond bad (refuse x) m) r (refuse x)
test-stops m x e = rw e stays

-- a test that passes, and what follows
pub test-on : {A : Type 0} {r r' : BitReader} {m k : Syntax A} (x : Refusal) {bad : Bool} → bad ≡ false → Goes r m r' k → Goes r (cond bad (refuse x) m) r' k
test-on x e g = rw e g

-- the value that was tested is the value after the test
pub test-value : {A : Type 0} {r : BitReader} (v : A) (x : Refusal) {bad : Bool} → bad ≡ false → Goes r (cond bad (refuse x) (done v)) r (done v)
test-value v x e = test-on x e stays

-- after a refusal all that follows is alike
pub refused-alike : {A B : Type 0} {r r' : BitReader} {m : Syntax A} {x : Refusal} (k k' : A → Syntax B) → Goes r m r' (refuse x) → run_at r (bind m k) ≡ run_at r (bind m k')
refused-alike k k' g = ended-refusal (stops k g) ∙ sym (ended-refusal (stops k' g))

-- a value that was read fits any type of as many bits as its field
pub read-fits : (w : Width) {r r' : BitReader} {n v : ℕ} → Goes r (field n (λ u. done u)) r' (done v) → n ≤ bits w → Fits w v
read-fits w {r} {r'} g h = record { fits = lt_of_lt_of_le (read-bound {r = r} {r' = r'} g) (pow_mono h) }
