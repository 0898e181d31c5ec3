-- How many bits a program uses at the most.
use Rattle.std.specs.Prelude.{◌≡◌, Bool, true, false, cond, List, ℕ, zero, suc, ◌+◌, ◌*◌, ◌-◌, ◌^◌, ◌≤◌, ◌<◌}
use native.Mathlib.Omega.{arith}
use Rattle.bits.specs.Bits.{value_at}
use Rattle.bits.proofs.BitsLaws.{value<}
use Rattle.bits.specs.Syntax.{Refusal, Syntax, done, refuse, field, accepted, run, bind, both, times}
use Rattle.bits.proofs.SyntaxLaws.{fitted}

-- no more than w bits, whatever the fields hold
unfoldable pub Bounded : {A : Type 0} → Syntax A → ℕ → Type 0
Bounded (done a) w = Unit {0}
Bounded (refuse x) w = Unit {0}
Bounded (field n k) w = (n ≤ w) × ((v : ℕ) → v < 2 ^ n → Bounded (k v) (w - n))

-- as a record, so that a rule's call finds the program by itself
pub record AtMost {A : Type 0} (m : Syntax A) (w : ℕ) : Type 0 where
  pub bits : Bounded m w

-- ---- the rules

module _ {A : Type 0} where
  pub most-done : {a : A} {w : ℕ} → AtMost (done a) w
  unfolding Bounded
  most-done = record { bits = tt }

  pub most-refuse : {x : Refusal} {w : ℕ} → AtMost {A = A} (refuse x) w
  unfolding Bounded
  most-refuse = record { bits = tt }

  bounded-le : (m : Syntax A) (w w' : ℕ) → w ≤ w' → Bounded m w → Bounded m w'
  unfolding Bounded
  bounded-le (done a) w w' h e = tt
  bounded-le (refuse x) w w' h e = tt
  bounded-le (field n k) w w' h e = (omega arith, λ v b. bounded-le (k v) (w - n) (w' - n) (omega arith) (e.1 v b))

  pub most-le : {m : Syntax A} {w w' : ℕ} → w ≤ w' → AtMost m w → AtMost m w'
  most-le {m} {w} {w'} h e = record { bits = bounded-le m w w' h e.bits }

  -- a field, and w' bits after it
  pub most-field : {n : ℕ} {k : ℕ → Syntax A} {w : ℕ} (w' : ℕ) → n + w' ≤ w → ((v : ℕ) → v < 2 ^ n → AtMost (k v) w') → AtMost (field n k) w
  unfolding Bounded
  most-field {n} {k} {w} w' e h = record { bits = (omega arith, λ v b. bounded-le (k v) w' (w - n) (omega arith) (h v b).bits) }

  pub most-cond : (t : Bool) {m m' : Syntax A} {w : ℕ} → AtMost m w → AtMost m' w → AtMost (cond t m m') w
  most-cond true f g = f
  most-cond false f g = g

bounded-bind : {A B : Type 0} (m : Syntax A) (k : A → Syntax B) (w w' : ℕ) → Bounded m w → ((a : A) → AtMost (k a) w') → Bounded (bind m k) (w + w')
unfolding Bounded bind
bounded-bind (done a) k w w' h f = bounded-le (k a) w' (w + w') (omega arith) (f a).bits
bounded-bind (refuse x) k w w' h f = tt
bounded-bind (field n g) k w w' h f =
    let s : n ≤ w = h.0 in
    let e : w + w' - n ≡ w - n + w' = omega arith in
    (omega arith, λ v b. rw e (bounded-bind (g v) k (w - n) w' (h.1 v b) f))

-- a part of w bits, and w' bits after it
pub most-bind : {A B : Type 0} {m : Syntax A} {k : A → Syntax B} {w u : ℕ} (w' : ℕ) → w + w' ≤ u → AtMost m w → ((a : A) → AtMost (k a) w') → AtMost (bind m k) u
most-bind {m = m} {k = k} {w = w} w' e h f = most-le e (record { bits = bounded-bind m k w w' h.bits f })

pub most-both : {A B : Type 0} {m : Syntax A} {k : A → Syntax B} {w u : ℕ} (w' : ℕ) → w + w' ≤ u → AtMost m w → ((a : A) → AtMost (k a) w') → AtMost (both m k) u
unfolding both
most-both w' e h f = most-bind w' e h (λ a. most-bind {w = w'} 0 (omega arith) (f a) (λ b. most-done))

-- n turns of at most w bits each
pub most-times : {A : Type 0} (n i : ℕ) {f : ℕ → A → Syntax A} (a : A) {w : ℕ} → ((j : ℕ) (a : A) → AtMost (f j a) w) → AtMost (times n i f a) (n * w)
unfolding times
most-times zero i a turn = most-done
most-times (suc n) i a {w} turn = most-bind {w = w} (n * w) (omega arith) (turn i a) (λ a'. most-times n (suc i) a' turn)

-- ---- what a run uses

used-bounded : {A : Type 0} (m : Syntax A) (w : ℕ) (b : List ℕ) (l p : ℕ) (r : A) (u : ℕ) → Bounded m w → run m b l p ≡ accepted r u → u ≤ p + w
unfolding Bounded run
used-bounded (done a) w b l p r u h e = let q : p ≡ u = cc in omega arith
used-bounded (refuse x) w b l p r u h e = let z : ◌≡◌ {A = ℕ} 0 1 = cc in absurd (omega arith)
used-bounded (field n k) w b l p r u h e =
    let s : n ≤ w = h.0 in
    let v = value_at b p n in
    let t : u ≤ p + n + (w - n) = used-bounded (k v) (w - n) b l (p + n) r u (h.1 v (value< b p n)) (fitted n k b l p r u e).rest in
    omega arith

pub used-most : {A : Type 0} {m : Syntax A} {w : ℕ} (b : List ℕ) (l p : ℕ) (r : A) (u : ℕ) → run m b l p ≡ accepted r u → AtMost m w → u ≤ p + w
used-most {m = m} {w = w} b l p r u e h = used-bounded m w b l p r u h.bits e
