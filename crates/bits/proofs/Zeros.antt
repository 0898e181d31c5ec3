-- Reading a string of zeros, in which every field is 0: whether it is accepted, and how many bits it uses.
use Rattle.std.specs.Prelude.{◌≡◌, refl, Bool, true, false, cond, List, ℕ, zero, suc, ◌+◌, ◌/◌, ◌≤◌, ◌<◌, get_or, replicate}
use Rattle.std.proofs.Common.{◌∙◌, add-zero, add_assoc, arith}
use Rattle.std.proofs.Math.Nat.{zero-div}
use Rattle.bits.specs.Bits.{bit_at, value_at}
use Rattle.bits.specs.Syntax.{Syntax, done, field, accepted, run, bind, both, times, and_then}
use Rattle.bits.proofs.SyntaxLaws.{run_fits, run_bind}
use Rattle.bits.proofs.Entries.{entries-zero}
use Rattle.bits.specs.Total.{total}

abbrev pub Zeros : List ℕ → Type 0
Zeros b = (i : ℕ) → bit_at b i ≡ 0

value-zeros : (b : List ℕ) (p n : ℕ) → Zeros b → value_at b p n ≡ 0
unfolding value_at
value-zeros b p zero z = refl
value-zeros b p (suc n) z = rw (value-zeros b p n z, z (p + n))

-- an accepted run from p on that uses w bits, and whose value has P
pub record Uses {A : Type 0} (m : Syntax A) (w : ℕ) (P : A → Type 0) (b : List ℕ) (l p : ℕ) : Type 0 where
  pub value : A
  pub has : P value
  pub ran : run m b l p ≡ accepted value (p + w)

-- zeros are accepted, use w bits, and give a value that has P
pub record OnZeros {A : Type 0} (m : Syntax A) (w : ℕ) (P : A → Type 0) : Type 0 where
  pub reads : (b : List ℕ) (l p : ℕ) → Zeros b → p + w ≤ l → Uses m w P b l p

-- ---- rules

module _ {A : Type 0} {P : A → Type 0} where
  pub zeros-done : {a : A} → P a → OnZeros (done a) 0 P
  unfolding run
  zeros-done {a} h = record { reads = λ b l p z s. record { value = a; has = h; ran = rw (add-zero p) } }

  pub zeros-field : {n w : ℕ} {k : ℕ → Syntax A} → OnZeros (k 0) w P → OnZeros (field n k) (n + w) P
  zeros-field {n} {w} {k} h = record { reads = go }
    where
      go : (b : List ℕ) (l p : ℕ) → Zeros b → p + (n + w) ≤ l → Uses (field n k) (n + w) P b l p
      go b l p z s =
          let rest = h.reads b l (p + n) z (omega arith) in
          let e = run_fits n k b l p (omega arith) in
          record { value = rest.value; has = rest.has; ran = e ∙ rw (value-zeros b p n z, ← add_assoc p n w) rest.ran }

  -- a last field
  pub zeros-last : {n : ℕ} {g : ℕ → A} → P (g 0) → OnZeros (field n (λ v. done (g v))) n P
  zeros-last {n} {g} h = rw (add-zero n) at (zeros-field {n = n} {k = λ v. done (g v)} (zeros-done h))

  pub zeros-either : (t : Bool) {m m' : Syntax A} {w w' : ℕ} → (t ≡ true → OnZeros m w P) → (t ≡ false → OnZeros m' w' P)
      → OnZeros (cond t m m') (cond t w w') P
  zeros-either true f g = f refl
  zeros-either false f g = g refl

pub zeros-bind : {A B : Type 0} {m : Syntax A} {k : A → Syntax B} {w w' : ℕ} {P : A → Type 0} {Q : B → Type 0}
    → OnZeros m w P → ((a : A) → P a → OnZeros (k a) w' Q) → OnZeros (bind m k) (w + w') Q
unfolding and_then
zeros-bind {m = m} {k = k} {w = w} {w' = w'} {Q = Q} h f = record { reads = go }
  where
    go : (b : List ℕ) (l p : ℕ) → Zeros b → p + (w + w') ≤ l → Uses (bind m k) (w + w') Q b l p
    go b l p z s =
        let first = h.reads b l p z (omega arith) in
        let rest = (f first.value first.has).reads b l (p + w) z (omega arith) in
        record { value = rest.value; has = rest.has; ran = run_bind m k b l p ∙ rw (first.ran, ← add_assoc p w w') rest.ran }

pub zeros-both : {A B : Type 0} {m : Syntax A} {k : A → Syntax B} {w w' : ℕ} {P : A → Type 0} {Q : A × B → Type 0}
    → OnZeros m w P → ((a : A) → P a → OnZeros (k a) w' (λ x. Q (a, x))) → OnZeros (both m k) (w + w') Q
unfolding both
zeros-both {w' = w'} h f = zeros-bind h (λ a p. rw (← add-zero w') (zeros-bind (f a p) (λ x q. zeros-done q)))

-- turn j uses w j bits
pub zeros-total : {A : Type 0} (n i : ℕ) {f : ℕ → A → Syntax A} (a : A) (w : ℕ → ℕ) {P : A → Type 0} → P a
    → ((j : ℕ) (a : A) → j < i + n → P a → OnZeros (f j a) (w j) P) → OnZeros (times n i f a) (total n i w) P
unfolding times total
zeros-total zero i a w h turn = zeros-done h
zeros-total (suc n) i a w h turn = zeros-bind (turn i a (omega arith) h) (λ a' h'. zeros-total n (suc i) a' w h' (λ j a'' l. turn j a'' (omega arith)))

-- ---- a string of zeros

pub zero-at : (n k : ℕ) → get_or {A = ℕ} (replicate n 0) k 0 ≡ 0
zero-at n k = (entries-zero n {Q = λ _ v. v ≡ 0} (λ _. refl)).entry k

pub zeros-string : (n : ℕ) → Zeros (replicate n 0)
unfolding bit_at
zeros-string n i = rw (zero-at n (i / 8), zero-div)
