-- A rule of a table, proved at all of its entries by one test that antt computes, one entry after the other.
use Rattle.std.specs.Prelude.{◌≡◌, refl, Bool, true, ◌&&◌, List, [], ◌∷◌, map, ℕ, zero, suc, ◌+◌, ◌-◌, ◌≤◌, ◌<◌, T, eqb, length, get_or}
use Rattle.std.proofs.Common.{◌∙◌, ap, subst, sym, inl, inr, add-zero, zero-add, add-suc, suc-add, le_of_suc-le-suc, not-suc-le-zero, eq-or-lt_of_le, sub-add_cancel, arith, eqb→eq}
use Rattle.std.proofs.lemmas.List.{length-map}
use Rattle.std.proofs.Math.ListN.{get_or-map}
use Rattle.std.specs.Float.Ieee.Fits.{and_l, and_r}

-- the test f passes at each entry of the list and its place, counted from i
abbrev pub every : {A : Type 0} → (ℕ → A → Bool) → ℕ → List A → Bool
every f i [] = true
every f i (x ∷ xs) = f i x && every f (suc i) xs

from : {A : Type 0} (f : ℕ → A → Bool) (xs : List A) (d : A) (i : ℕ) → T (every f i xs) → (k : ℕ) → k < length xs → T (f (i + k) (get_or xs k d))
from f [] d i t k h = absurd (not-suc-le-zero h)
from f (x ∷ xs) d i t zero h = subst (λ (m : ℕ). T (f m x)) (sym (add-zero i)) (and_l (f i x) (every f (suc i) xs) t)
from f (x ∷ xs) d i t (suc k) h =
    subst (λ (m : ℕ). T (f m (get_or xs k d))) (suc-add i k ∙ sym (add-suc i k))
    (from f xs d (suc i) (and_r (f i x) (every f (suc i) xs) t) k (le_of_suc-le-suc h))

pub at : {A : Type 0} (f : ℕ → A → Bool) (xs : List A) (d : A) → T (every f 0 xs) → (k : ℕ) → k < length xs → T (f k (get_or xs k d))
at f xs d t k h = subst (λ (m : ℕ). T (f m (get_or xs k d))) (zero-add k) (from f xs d 0 t k h)

-- the test f passes at each number below n
abbrev pub all : (ℕ → Bool) → ℕ → Bool
all f zero = true
all f (suc n) = f n && all f n

pub all-at : (f : ℕ → Bool) (n : ℕ) → T (all f n) → (k : ℕ) → k < n → T (f k)
all-at f zero t k h = absurd (not-suc-le-zero h)
all-at f (suc n) t k h = elim (eq-or-lt_of_le (le_of_suc-le-suc h)) [ inl e ↦ subst (λ (m : ℕ). T (f m)) (sym e) (and_l (f n) (all f n) t) | inr l ↦ all-at f n (and_r (f n) (all f n) t) k l ]

-- the same from a number lo on
pub all_from : (f : ℕ → Bool) (lo n : ℕ) → T (all (λ k. f (k + lo)) n) → (k : ℕ) → lo ≤ k → k < n + lo → T (f k)
all_from f lo n t k g h = subst (λ (m : ℕ). T (f m)) (sub-add_cancel g) (all-at (λ k. f (k + lo)) n t (k - lo) (omega arith))

-- a function with a computed left inverse is one to one
pub one-to-one : {A : Type 0} (f : ℕ → A) (back : A → ℕ) (n : ℕ) → T (all (λ k. eqb (back (f k)) k) n) → (k k' : ℕ) → k < n → k' < n → f k ≡ f k' → k ≡ k'
one-to-one f back n t k k' h h' e = sym (eqb→eq (back (f k)) k (all-at (λ k. eqb (back (f k)) k) n t k h)) ∙ ap back e ∙ eqb→eq (back (f k')) k' (all-at (λ k. eqb (back (f k)) k) n t k' h')

-- an entry of the list does not depend on the default
pub get_d_default : {A : Type 0} (l : List A) (i : ℕ) (a b : A) → i < length l → get_or l i a ≡ get_or l i b
get_d_default [] i a b h = absurd (not-suc-le-zero h)
get_d_default (x ∷ xs) zero a b h = refl
get_d_default (x ∷ xs) (suc i) a b h = get_d_default xs i a b (le_of_suc-le-suc h)

-- a list of what f makes of each entry of another list
pub made : {A B : Type 0} (f : B → A) (xs : List B) (b : B) (l : List A) (a : A) → l ≡ map f xs → (i : ℕ) → i < length xs → get_or l i a ≡ f (get_or xs i b)
made f xs b l a e i h = ap (λ l. get_or l i a) e ∙ get_d_default (map f xs) i a (f b) (subst (λ (n : ℕ). i < n) (sym (length-map xs f)) h) ∙ get_or-map f xs i b
