-- Laws of a channel's summary, one value more each, from any number on.
use Rattle.std.specs.Prelude.{◌≡◌, ℕ, ◌+◌, ◌<◌, ◌≤◌, Bool, true, false, cond, fold, List, [], ◌∷◌, length, drop, slice_index_or, Float}
use Rattle.std.proofs.Common.{refl, ap, ◌∙◌, add-zero, add-one, drop_of_length-le, drop-cons}
use Rattle.std.specs.Float.{nan}
use Rattle.std.specs.Float.Ieee.{lt, ne}
use Rattle.floats.specs.Binary64.{zero64}
use Rattle.frame_summary.specs.Summary.{magnitude, larger, peak_of, nonzero_of}

-- the largest of m and the magnitudes
unfoldable pub peak_from : Float → List Float → Float
peak_from m [] = m
peak_from m (x ∷ xs) = peak_from (larger m (magnitude x)) xs

-- n and the values that are not 0
unfoldable pub nonzero_from : ℕ → List Float → ℕ
nonzero_from n [] = n
nonzero_from n (x ∷ xs) = nonzero_from (cond (ne x zero64) (n + 1) n) xs

-- the largest magnitude is that from 0 on, and so is the count
pub peak-folded : (m : Float) (xs : List Float) → fold (λ m x. larger m (magnitude x)) m xs ≡ peak_from m xs
unfolding peak_from
peak-folded m [] = refl
peak-folded m (x ∷ xs) = peak-folded (larger m (magnitude x)) xs

pub peak-whole : (xs : List Float) → peak_of xs ≡ peak_from zero64 xs
peak-whole xs = peak-folded zero64 xs

one_more : (n : ℕ) (b : Bool) → n + cond b 1 0 ≡ cond b (n + 1) n
one_more n true = refl
one_more n false = add-zero n

pub nonzero-folded : (n : ℕ) (xs : List Float) → fold (λ a x. a + cond (ne x zero64) 1 0) n xs ≡ nonzero_from n xs
unfolding nonzero_from
nonzero-folded n [] = refl
nonzero-folded n (x ∷ xs) = ap (λ (k : ℕ). fold (λ a x. a + cond (ne x zero64) 1 0) k xs) (one_more n (ne x zero64)) ∙ nonzero-folded (cond (ne x zero64) (n + 1) n) xs

pub nonzero-whole : (xs : List Float) → nonzero_of xs ≡ nonzero_from 0 xs
nonzero-whole xs = nonzero-folded 0 xs

pub peak-more : (m : Float) (xs : List Float) (i : ℕ) → i < length xs → peak_from m (drop i xs) ≡ peak_from (larger m (magnitude (slice_index_or xs i nan))) (drop (i + 1) xs)
unfolding peak_from
peak-more m xs i h = rw (add-one i, drop-cons xs i nan)

pub peak-none : (m : Float) (xs : List Float) (i : ℕ) → length xs ≤ i → peak_from m (drop i xs) ≡ m
unfolding peak_from
peak-none m xs i h = ap (peak_from m) (drop_of_length-le xs h)

pub nonzero-more : (n : ℕ) (xs : List Float) (i : ℕ) → i < length xs → nonzero_from n (drop i xs) ≡ nonzero_from (cond (ne (slice_index_or xs i nan) zero64) (n + 1) n) (drop (i + 1) xs)
unfolding nonzero_from
nonzero-more n xs i h = rw (add-one i, drop-cons xs i nan)

pub nonzero-none : (n : ℕ) (xs : List Float) (i : ℕ) → length xs ≤ i → nonzero_from n (drop i xs) ≡ n
unfolding nonzero_from
nonzero-none n xs i h = ap (nonzero_from n) (drop_of_length-le xs h)

pub larger-is : (a b : Float) → lt a b ≡ true → b ≡ larger a b
larger-is a b e = rw e

pub larger-not : (a b : Float) → lt a b ≡ false → a ≡ larger a b
larger-not a b e = rw e

pub nonzero-is : (n : ℕ) (x : Float) → ne x zero64 ≡ true → n + 1 ≡ cond (ne x zero64) (n + 1) n
nonzero-is n x e = rw e

pub nonzero-not : (n : ℕ) (x : Float) → ne x zero64 ≡ false → n ≡ cond (ne x zero64) (n + 1) n
nonzero-not n x e = rw e
