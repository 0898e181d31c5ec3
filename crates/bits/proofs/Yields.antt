-- What every run of a program ends in: a property of each value that it is done with, and one of each refusal that it states.
use Rattle.std.specs.Prelude.{◌≡◌, refl, Bool, true, false, cond, List, ◌⊎◌, ℕ, zero, suc, ◌+◌, ◌^◌, ◌≤◌, ◌<◌}
use Rattle.std.proofs.Common.{sym, ◌∙◌, inl, inr, add-zero, arith}
use Rattle.std.proofs.Math.Decide.{dec_le}
use Rattle.bits.specs.Bits.{value_at}
use Rattle.bits.proofs.BitsLaws.{value<}
use Rattle.bits.specs.Syntax.{Refusal, plain, Syntax, done, refuse, field, accepted, refused, run, bind, both, times}
use Rattle.bits.proofs.SyntaxLaws.{run_fits, run_short, fitted}

-- P of each value and R of each refusal, whatever the fields hold
unfoldable pub Ending : {A : Type 0} → Syntax A → (A → Type 0) → (Refusal → Type 0) → Type 0
Ending (done a) P R = P a
Ending (refuse x) P R = R x
Ending (field n k) P R = (v : ℕ) → v < 2 ^ n → Ending (k v) P R

-- as a record, so that a rule's call finds the program by itself
pub record Yields {A : Type 0} (m : Syntax A) (P : A → Type 0) (R : Refusal → Type 0) : Type 0 where
  pub ending : Ending m P R

-- ---- the rules

module _ {A : Type 0} {P : A → Type 0} {R : Refusal → Type 0} where
  pub yields-done : {a : A} → P a → Yields (done a) P R
  unfolding Ending
  yields-done h = record { ending = h }

  pub yields-refuse : {x : Refusal} → R x → Yields (refuse x) P R
  unfolding Ending
  yields-refuse h = record { ending = h }

  pub yields_field : {n : ℕ} {k : ℕ → Syntax A} → ((v : ℕ) → v < 2 ^ n → Yields (k v) P R) → Yields (field n k) P R
  unfolding Ending
  yields_field h = record { ending = λ v b. (h v b).ending }

  pub yields-cond : (t : Bool) {m m' : Syntax A} → (t ≡ true → Yields m P R) → (t ≡ false → Yields m' P R) → Yields (cond t m m') P R
  yields-cond true f g = f refl
  yields-cond false f g = g refl

ending-bind : {A B : Type 0} {P : A → Type 0} {Q : B → Type 0} {R : Refusal → Type 0} (m : Syntax A) (k : A → Syntax B)
    → Ending m P R → ((a : A) → P a → Yields (k a) Q R) → Ending (bind m k) Q R
unfolding Ending bind
ending-bind (done a) k h f = (f a h).ending
ending-bind (refuse x) k h f = h
ending-bind (field n g) k h f = λ v b. ending-bind (g v) k (h v b) f

pub yields-bind : {A B : Type 0} {m : Syntax A} {k : A → Syntax B} {P : A → Type 0} {Q : B → Type 0} {R : Refusal → Type 0}
    → Yields m P R → ((a : A) → P a → Yields (k a) Q R) → Yields (bind m k) Q R
yields-bind {m = m} {k = k} h f = record { ending = ending-bind m k h.ending f }

pub yields-weaken : {A : Type 0} {m : Syntax A} {P Q : A → Type 0} {R S : Refusal → Type 0}
    → Yields m P R → ((a : A) → P a → Q a) → ((x : Refusal) → R x → S x) → Yields m Q S
unfolding Ending
yields-weaken {m = m} {P = P} {Q = Q} {R = R} {S = S} h f g = record { ending = go m h.ending }
  where
    go : (m : Syntax _) → Ending m P R → Ending m Q S
    go (done a) e = f a e
    go (refuse x) e = g x e
    go (field n k) e = λ v b. go (k v) (e v b)

pub yields_both : {A B : Type 0} {m : Syntax A} {k : A → Syntax B} {P : A → Type 0} {Q : A → B → Type 0} {R : Refusal → Type 0}
    → Yields m P R → ((a : A) → P a → Yields (k a) (Q a) R) → Yields (both m k) (λ r. P r.0 × Q r.0 r.1) R
unfolding both
yields_both h f = yields-bind h (λ a p. yields-bind (f a p) (λ b q. yields-done (p, q)))

-- a loop: P j holds before turn j
pub yields-times : {A : Type 0} (n i : ℕ) {f : ℕ → A → Syntax A} {a : A} (P : ℕ → A → Type 0) {R : Refusal → Type 0}
    → P i a → ((j : ℕ) (a : A) → j < i + n → P j a → Yields (f j a) (P (suc j)) R) → Yields (times n i f a) (P (i + n)) R
unfolding times
yields-times zero i P p turn = yields-done (rw (add-zero i) p)
yields-times (suc n) i {f} P {R} p turn = yields-bind (turn i _ (omega arith) p) (λ a q. rest a (yields-times n (suc i) P q (λ j a b. turn j a (omega arith))))
  where
    rest : (a : _) → Yields (times n (suc i) f a) (P (suc i + n)) R → Yields (times n (suc i) f a) (P (i + suc n)) R
    rest a h = let e : suc i + n ≡ i + suc n = omega arith in rw e at h

-- ---- what a run ends in

ended-value : {A : Type 0} (P : A → Type 0) (R : Refusal → Type 0) (m : Syntax A) (b : List ℕ) (l p : ℕ) (a : A) (u : ℕ)
    → Ending m P R → run m b l p ≡ accepted a u → P a
unfolding Ending run
ended-value P R (done x) b l p a u h e = let q : x ≡ a = cc in rw q at h
ended-value P R (refuse x) b l p a u h e = let z : ◌≡◌ {A = ℕ} 0 1 = cc in absurd (omega arith)
ended-value P R (field n k) b l p a u h e =
    ended-value P R (k (value_at b p n)) b l (p + n) a u (h (value_at b p n) (value< b p n)) (fitted n k b l p a u e).rest

ended-refusal : {A : Type 0} (P : A → Type 0) (R : Refusal → Type 0) (m : Syntax A) (b : List ℕ) (l p : ℕ) (x : Refusal)
    → Ending m P R → run m b l p ≡ refused x → (x ≡ plain 1) ⊎ R x
unfolding Ending run
ended-refusal P R (done a) b l p x h e = let z : ◌≡◌ {A = ℕ} 0 1 = cc in absurd (omega arith)
ended-refusal P R (refuse y) b l p x h e = let q : y ≡ x = cc in inr (rw q at h)
ended-refusal P R (field n k) b l p x h e =
    go (dec_le (p + n) l) (λ s. ended-refusal P R (k (value_at b p n)) b l (p + n) x (h (value_at b p n) (value< b p n)) (sym (run_fits n k b l p s) ∙ e))
  where
    go : Dec (p + n ≤ l) → (p + n ≤ l → (x ≡ plain 1) ⊎ R x) → (x ≡ plain 1) ⊎ R x
    go (yes s) rest = rest s
    go (no s) rest = let f : run (field n k) b l p ≡ refused (plain 1) = run_short n k b l p (omega arith) in inl (cc)

module _ {A : Type 0} {m : Syntax A} {P : A → Type 0} {R : Refusal → Type 0} (h : Yields m P R) (b : List ℕ) (l p : ℕ) where
  pub accepted-yields : (a : A) (u : ℕ) → run m b l p ≡ accepted a u → P a
  accepted-yields a u e = ended-value P R m b l p a u h.ending e

  -- it is short, or one of the refusals that the program states
  pub refused-yields : (x : Refusal) → run m b l p ≡ refused x → (x ≡ plain 1) ⊎ R x
  refused-yields x e = ended-refusal P R m b l p x h.ending e
