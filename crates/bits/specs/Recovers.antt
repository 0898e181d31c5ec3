-- When the result of a program determines the bits that it read: each field comes with a function that finds its value in the result.
use Rattle.std.specs.Prelude.{◌≡◌, ℕ, ◌^◌, ◌<◌}
use Rattle.bits.specs.Syntax.{Syntax, done, refuse, field}

-- L r says of a final result r that the values of the fields read so far are found in it. Each field brings the function that finds its
-- value; at the end, with the value a, the program is to show Q a L.
unfoldable pub Finding : {C A : Type 0} → Syntax A → (C → Type 0) → (A → (C → Type 0) → Type 0) → Type 0
Finding (done a) L Q = Q a L
Finding (refuse x) L Q = Unit {0}
Finding {C} (field n k) L Q = (find : C → ℕ) × ((v : ℕ) → v < 2 ^ n → Finding (k v) (λ r. L r × (find r ≡ v)) Q)

-- as a record, so that a rule's call finds the program and what was found by itself
pub record Finds {C A : Type 0} (m : Syntax A) (L : C → Type 0) (Q : A → (C → Type 0) → Type 0) : Type 0 where
  pub finding : Finding m L Q

-- no field is read yet
abbrev pub None : {C : Type 0} → C → Type 0
None r = Unit {0}

-- all that was found holds of the value at the end
abbrev pub All : {C : Type 0} → C → (C → Type 0) → Type 0
All a L = L a

-- the value of each field is found in the result
abbrev pub Recovers : {A : Type 0} → Syntax A → Type 0
Recovers {A} m = Finds {C = A} m None All
