-- Laws of a field that is there only where a test holds: it is no wider, and its value no larger, than where it is there.
use Rattle.std.specs.Prelude.{◌≡◌, refl, Bool, true, false, ◌&&◌, cond, ℕ, ◌^◌, ◌≤◌, ◌<◌, eqb}
use Rattle.std.proofs.Common.{zero-le, le_refl, lt_of_lt_of_le, pow_pos}
use Rattle.bits.proofs.Unique.{flag-value}
use Rattle.mc_fields.specs.Head.{bits_if}

pub if-most : (there : Bool) (n : ℕ) → bits_if there n ≤ n
if-most true n = le_refl n
if-most false n = zero-le

pub if-below : (there : Bool) (n : ℕ) {v : ℕ} → v < 2 ^ bits_if there n → v < 2 ^ n
if-below true n h = h
if-below false n h = lt_of_lt_of_le h (pow_pos n)

-- two tests, one after the other
pub if-and : (s t : Bool) (n : ℕ) → bits_if (s && t) n ≡ bits_if s (bits_if t n)
if-and true t n = refl
if-and false t n = refl

-- a flag that may be missing, kept as a truth value
pub flag-if : (there : Bool) (v : ℕ) → v < 2 ^ bits_if there 1 → cond (eqb v 1) 1 0 ≡ v
flag-if there v h = flag-value v (if-below there 1 h)
