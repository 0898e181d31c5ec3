-- Laws of drawn and wild values, one step each.
use Rattle.std.specs.Prelude.{◌≡◌, ℕ, zero, suc, ◌+◌, ◌-◌, ◌/◌, ◌%◌, ◌<◌, ◌≤◌, true, false, List, [], ◌∷◌, length, pos, ◌≢◌, slice_set, Float}
use Rattle.std.proofs.Math.Path.{refl, ap}
use Rattle.std.proofs.Common.{◌∙◌, add-one}
use native.Mathlib.Omega.{arith}
use borrow.Author.Tests.{eq-eqb, ne_eqb, lt-ltb, le-ltb}
use Rattle.std.specs.Float.{nan, inf, binary64}
use Rattle.std.specs.Float.Ieee.{of_int, of_bits, div, neg}
use Rattle.std.specs.List.{fold}
use Rattle.fill.proofs.InOrder.{Filling, starts, more, ends-all}
use Rattle.replay_list.specs.Values.{drawn, drawn_to, fraction_of, magnitude_of, value_of, values_after, wild_of, with_wild}

pub draw-more : (k x : ℕ) → drawn_to (k + 1) x ≡ drawn (drawn_to k x)
unfolding drawn_to
draw-more k x = rw add-one

drawn-first : (n x : ℕ) → drawn_to n (drawn x) ≡ drawn (drawn_to n x)
unfolding drawn_to
drawn-first zero x = refl
drawn-first (suc n) x = ap drawn (drawn-first n x)

-- a draw for each element, whatever it is
pub drawn-fold : (xs : List ℕ) (x : ℕ) → fold (λ y k. drawn y) x xs ≡ drawn_to (length xs) x
unfolding drawn_to
drawn-fold [] x = refl
drawn-fold (k ∷ xs) x = drawn-fold xs (drawn x) ∙ drawn-first (length xs) x

pub two-to-20 : of_bits binary64 4697254411347427328 ≡ of_int binary64 (pos 1048576)
unfolding of_bits of_int
two-to-20 = refl

module _ (x : ℕ) where
  pub magnitude-zero : x % 16 ≡ 0 → 0 ≡ magnitude_of x
  unfolding magnitude_of
  magnitude-zero e = simp (eq-eqb (x % 16) 0 e)

  pub magnitude-bound : x % 16 ≡ 1 → 4194304 ≡ magnitude_of x
  unfolding magnitude_of
  magnitude-bound e = rw e

  pub magnitude-any : (x % 16 ≢ 0) → (x % 16 ≢ 1) → x / 256 % 4194305 ≡ magnitude_of x
  unfolding magnitude_of
  magnitude-any a b = simp (ne_eqb (x % 16) 0 a, ne_eqb (x % 16) 1 b)

module _ (x m : ℕ) (v : Float) (em : m ≡ magnitude_of x) (ev : v ≡ fraction_of m) where
  pub value-negative : x / 16 % 2 ≡ 1 → neg v ≡ value_of x
  unfolding value_of
  value-negative e = simp (eq-eqb (x / 16 % 2) 1 e) (ap neg (ev ∙ ap fraction_of em))

  pub value-positive : (x / 16 % 2 ≢ 1) → v ≡ value_of x
  unfolding value_of
  value-positive e = simp (ne_eqb (x / 16 % 2) 1 e) (ev ∙ ap fraction_of em)

-- what a loop that draws into d has at k
pub record Drawing (seed before : ℕ) (d dst : List Float) (x k : ℕ) : Type 0 where
  pub next : x ≡ drawn_to (before + k) seed
  pub filling : Filling (λ j. value_of (drawn_to (suc (before + j)) seed)) (length d) d dst k

pub draw-starts : (seed before : ℕ) (d : List Float) (x : ℕ) → x ≡ drawn_to before seed → Drawing seed before d d x 0
draw-starts seed before d x e = let z : before ≡ before + 0 = omega arith in record { next = e ∙ ap (λ (j : ℕ). drawn_to j seed) z; filling = starts (omega arith) }

module _ {seed before : ℕ} {d : List Float} where
  pub draws : {dst : List Float} {x k : ℕ} (x' : ℕ) (v : Float) → Drawing seed before d dst x k → k < length d → x' ≡ drawn x → v ≡ value_of x' → Drawing seed before d (slice_set dst k v) x' (k + 1)
  unfolding drawn_to
  draws {dst} {x} {k} x' v p l e q =
      let n : x' ≡ drawn_to (suc (before + k)) seed = e ∙ ap drawn p.next in
      let s : suc (before + k) ≡ before + (k + 1) = omega arith in
      record {
        next = n ∙ ap (λ (j : ℕ). drawn_to j seed) s;
        filling = more p.filling l (q ∙ ap value_of n);
      }

  pub drawn-all : {dst : List Float} {x k : ℕ} → Drawing seed before d dst x k → length d ≤ k → dst ≡ values_after seed before (length d)
  unfolding values_after
  drawn-all p l = ends-all p.filling l refl

-- the patterns of the values that no frame may have
pub above-bits : of_bits binary64 9218868437227405312 ≡ inf false
unfolding of_bits
above-bits = refl

pub below_bits : of_bits binary64 18442240474082181120 ≡ inf true
unfolding of_bits
below_bits = refl

pub no_number-bits : of_bits binary64 9221120237041090560 ≡ nan
unfolding of_bits
no_number-bits = refl

-- the same as quotients
pub above-all : div binary64 (of_bits binary64 4607182418800017408) (of_bits binary64 0) ≡ inf false
unfolding of_bits div
above-all = refl

pub below_all : div binary64 (neg (of_bits binary64 4607182418800017408)) (of_bits binary64 0) ≡ inf true
unfolding of_bits div neg
below_all = refl

pub no_number : div binary64 (of_bits binary64 0) (of_bits binary64 0) ≡ nan
unfolding of_bits div
no_number = refl

pub wild-other : (kind : ℕ) → (kind ≢ 1) → (kind ≢ 2) → (kind ≢ 3) → (kind ≢ 4) → nan ≡ wild_of kind
unfolding wild_of
wild-other kind a b c d = simp (ne_eqb kind 1 a, ne_eqb kind 2 b, ne_eqb kind 3 c, ne_eqb kind 4 d)

module _ (first kind place : ℕ) (xs : List Float) where
  pub wild-none : kind ≡ 0 → xs ≡ with_wild first kind place xs
  unfolding with_wild
  wild-none e = simp (eq-eqb kind 0 e)

  pub wild-before : (kind ≢ 0) → place < first → xs ≡ with_wild first kind place xs
  unfolding with_wild
  wild-before a b = simp (ne_eqb kind 0 a, lt-ltb place first b)

  pub wild-past : (kind ≢ 0) → first ≤ place → length xs ≤ place - first → xs ≡ with_wild first kind place xs
  unfolding with_wild
  wild-past a b l = simp (ne_eqb kind 0 a, le-ltb place first b, le-ltb (place - first) (length xs) l)

  pub wild-put : (kind ≢ 0) → first ≤ place → place - first < length xs → (v : Float) → v ≡ wild_of kind → slice_set xs (place - first) v ≡ with_wild first kind place xs
  unfolding with_wild
  wild-put a b l v e = simp (ne_eqb kind 0 a, le-ltb place first b, lt-ltb (place - first) (length xs) l) (ap (λ (y : Float). slice_set xs (place - first) y) e)
