-- What a format says, as a tree of fields, and what it finds in a string of bits.
use Rattle.std.specs.Prelude.{cond, List, ℕ, zero, suc, ◌+◌, leb}
use Rattle.bits.specs.Bits.{value_at}

-- a refusal: its number, and the subband group and the crosstalk code that refusal 2 names (0 otherwise)
pub record Refusal : Type 0 where
  pub number : ℕ
  pub group : ℕ
  pub code : ℕ

-- refusal n, which names no group and no code
abbrev pub plain : ℕ → Refusal
plain n = record { number = n; group = 0; code = 0 }

-- done with a value; refused; or a field of so many bits, and what its value says next
pub data Syntax (A : Type 0) : Type 0 where
  done : A → Syntax A
  refuse : Refusal → Syntax A
  field : ℕ → (ℕ → Syntax A) → Syntax A

-- accepted, with the value and the position of the next bit; or refused
pub data Outcome (A : Type 0) : Type 0 where
  accepted : A → ℕ → Outcome A
  refused : Refusal → Outcome A

-- what a program finds in the bytes b of l bits, from bit p on; a field that passes l is short, refusal 1
unfoldable pub run : {A : Type 0} → Syntax A → List ℕ → ℕ → ℕ → Outcome A
run (done a) b l p = accepted a p
run (refuse x) b l p = refused x
run (field n k) b l p = cond (leb (p + n) l) (run (k (value_at b p n)) b l (p + n)) (refused (plain 1))

-- a program, and then another by its value
unfoldable pub bind : {A B : Type 0} → Syntax A → (A → Syntax B) → Syntax B
bind (done a) k = k a
bind (refuse x) k = refuse x
bind (field n f) k = field n (λ v. bind (f v) k)

-- two parts, the second by the value of the first, and both values
unfoldable pub both : {A B : Type 0} → Syntax A → (A → Syntax B) → Syntax (A × B)
both m k = bind m (λ a. bind (k a) (λ b. done (a, b)))

-- n turns from index i on, each with the value of the turn before
unfoldable pub times : {A : Type 0} → ℕ → ℕ → (ℕ → A → Syntax A) → A → Syntax A
times zero i f a = done a
times (suc n) i f a = bind (f i a) (λ a'. times n (suc i) f a')

-- the outcome of a first part, and then a second
unfoldable pub and_then : {A B : Type 0} → Outcome A → (A → ℕ → Outcome B) → Outcome B
and_then (accepted a u) k = k a u
and_then (refused x) k = refused x
