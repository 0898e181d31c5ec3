-- A rule of a table, proved at all of its entries by one test that antt computes.
use Rattle.std.specs.Prelude.{◌≡◌, refl, Bool, true, false, ◌&&◌, List, [], ◌∷◌, ℕ, zero, suc, ◌+◌, ◌<◌, T as Holds, ltb, length, get_or}
use Rattle.std.proofs.Common.{add-zero, zero-add, add-suc, suc-add, le_of_suc-le-suc, not-suc-le-zero, ltb-true, ltb-false}
use Rattle.std.proofs.Math.ListN.{get_or-eq_default}

and_left : (a b : Bool) → Holds (a && b) → Holds a
and_left true b t = tt
and_left false b t = t

and_right : (a b : Bool) → Holds (a && b) → Holds b
and_right true b t = t
and_right false b t = absurd t

module _ {ℓ} {A : Type ℓ} where
  -- the test f passes at each entry of the list and its place, counted from i
  abbrev pub every : (ℕ → A → Bool) → ℕ → List A → Bool
  every f i [] = true
  every f i (x ∷ xs) = f i x && every f (suc i) xs

  every-from : (f : ℕ → A → Bool) (xs : List A) (d : A) (i : ℕ) → Holds (every f i xs) → (k : ℕ) → k < length xs → Holds (f (i + k) (get_or xs k d))
  every-from f [] d i t k h = absurd (not-suc-le-zero h)
  every-from f (x ∷ xs) d i t zero h = rw add-zero (and_left (f i x) (every f (suc i) xs) t)
  every-from f (x ∷ xs) d i t (suc k) h =
      rw (add-suc, ← suc-add i k) (every-from f xs d (suc i) (and_right (f i x) (every f (suc i) xs) t) k (le_of_suc-le-suc h))

  pub every-at : (f : ℕ → A → Bool) (xs : List A) (d : A) → Holds (every f 0 xs) → (k : ℕ) → k < length xs → Holds (f k (get_or xs k d))
  every-at f xs d t k h = rw zero-add at (every-from f xs d 0 t k h)

  -- at every place, where the value past the end passes too
  pub every-get_or : (f : ℕ → A → Bool) (xs : List A) (d : A) → Holds (every f 0 xs) → ((k : ℕ) → Holds (f k d)) → (k : ℕ) → Holds (f k (get_or xs k d))
  every-get_or f xs d t past k = go (ltb k (length xs)) refl
    where
      go : (b : Bool) → ltb k (length xs) ≡ b → Holds (f k (get_or xs k d))
      go true e = every-at f xs d t k (ltb-true k (length xs) e)
      go false e = rw (get_or-eq_default xs d (ltb-false k (length xs) e)) (past k)

  -- within the list the value at the end does not matter
  pub get_d_default : (xs : List A) (d e : A) (k : ℕ) → k < length xs → get_or xs k d ≡ get_or xs k e
  get_d_default [] d e k h = absurd (not-suc-le-zero h)
  get_d_default (x ∷ xs) d e zero h = refl
  get_d_default (x ∷ xs) d e (suc k) h = get_d_default xs d e k (le_of_suc-le-suc h)

-- a table of one empty row
pub empty-at : (k : ℕ) → get_or {A = List ℕ} ([] ∷ []) k [] ≡ []
empty-at zero = refl
empty-at (suc k) = refl
