-- A product and a quotient of two floats that lie in brackets lie in a bracket.
use Rattle.std.specs.Prelude.{◌≡◌, ℕ, ◌*◌, ◌≤◌, ◌<◌, Bool, true, false, cond, T, eqb, Float}
use Rattle.std.proofs.Common.{ap₂, subst, le_trans, le_of_eq, lt_of_lt_of_le, lt_irrefl, mul_assoc, mul_comm, mul_left_comm, mul-le-mul, mul-pos, eqb→eq}
use Rattle.std.proofs.Math.Nat.{mul-mul-mul_comm}
use Rattle.std.specs.Float.{nan, inf, fin, Format}
use Rattle.std.specs.Float.Ieee.{up, down, unlike, round, mul, div}
use Rattle.std.specs.Float.Ieee.Fits.{up_pos, down_pos}
use Rattle.std.specs.Float.Ieee.Positive.{through, first_pos}
use Rattle.floats.proofs.Holds.{Holds}
use Rattle.floats.proofs.Bracket.{Bracket, bracket-round}

-- [q, p] / c times [q', p'] / c' lies in [l, h] / u
pub bracket-mul : (f : Format) (s s' : Bool) (x y : Float) (q p c q' p' c' l h u : ℕ) → 0 < c → 0 < c' → 0 < u → Bracket s x q p c → Bracket s' y q' p' c' → Holds f l u → Holds f h u
    → l * (c * c') ≤ q * q' * u → p * p' * u ≤ h * (c * c') → Bracket (unlike s s') (mul f x y) l h u
unfolding mul
bracket-mul f s s' nan y q p c q' p' c' l h u C C' U i j r r' g k = absurd i
bracket-mul f s s' (inf t) y q p c q' p' c' l h u C C' U i j r r' g k = absurd i
bracket-mul f s s' (fin t m e) nan q p c q' p' c' l h u C C' U i j r r' g k = absurd j
bracket-mul f s s' (fin t m e) (inf t') q p c q' p' c' l h u C C' U i j r r' g k = absurd j
bracket-mul f s s' (fin t m e) (fin t' n d) q p c q' p' c' l h u C C' U i j r r' g k =
    subst (λ (z : Bool). Bracket z (round f (unlike t t') (m * up e * (n * up d)) (down e * down d)) l h u) (ap₂ unlike i.0 j.0)
    (bracket-round f (unlike t t') (m * up e * (n * up d)) (down e * down d) l h u (mul-pos (down_pos e) (down_pos d)) U r r'
    (through l (q * q') (m * up e * (n * up d)) u (c * c') (down e * down d) (mul-pos C C') g
    (le_trans (le_of_eq (mul-mul-mul_comm q q' (down e) (down d))) (le_trans (mul-le-mul i.1 j.1) (le_of_eq (mul-mul-mul_comm (m * up e) c (n * up d) c')))))
    (through (m * up e * (n * up d)) (p * p') h (down e * down d) (c * c') u (mul-pos C C')
    (le_trans (le_of_eq (mul-mul-mul_comm (m * up e) (n * up d) c c')) (le_trans (mul-le-mul i.2 j.2) (le_of_eq (mul-mul-mul_comm p (down e) p' (down d)))))
    k))

quotient-low : (q c' Y x X y c p' : ℕ) → q * x ≤ X * c → Y * c' ≤ p' * y → q * c' * (Y * x) ≤ X * y * (c * p')
quotient-low q c' Y x X y c p' a b = simp mul_assoc (simp (mul_assoc, mul_comm, mul_left_comm) at (mul-le-mul a b))

quotient-high : (X y c q' p c' Y x : ℕ) → X * c ≤ p * x → q' * y ≤ Y * c' → X * y * (c * q') ≤ p * c' * (Y * x)
quotient-high X y c q' p c' Y x a b = simp mul_assoc (simp (mul_assoc, mul_comm, mul_left_comm) at (mul-le-mul a b))

-- [q, p] / c over [q', p'] / c' lies in [l, h] / u
pub bracket-div : (f : Format) (s s' : Bool) (x y : Float) (q p c q' p' c' l h u : ℕ) → 0 < c → 0 < c' → 0 < u → 0 < q' → 0 < p' → Bracket s x q p c → Bracket s' y q' p' c' → Holds f l u → Holds f h u
    → l * (c * p') ≤ q * c' * u → p * c' * u ≤ h * (c * q') → Bracket (unlike s s') (div f x y) l h u
unfolding div
bracket-div f s s' nan y q p c q' p' c' l h u C C' U Q P i j r r' g k = absurd i
bracket-div f s s' (inf t) y q p c q' p' c' l h u C C' U Q P i j r r' g k = absurd i
bracket-div f s s' (fin t m e) nan q p c q' p' c' l h u C C' U Q P i j r r' g k = absurd j
bracket-div f s s' (fin t m e) (inf t') q p c q' p' c' l h u C C' U Q P i j r r' g k = absurd j
bracket-div f s s' (fin t m e) (fin t' n d) q p c q' p' c' l h u C C' U Q P i j r r' g k =
    go (eqb n 0) (eqb→eq n 0)
  where
    N : 0 < n
    N = first_pos n (up d) (first_pos (n * up d) c' (lt_of_lt_of_le (mul-pos Q (down_pos d)) j.1))

    go : (b : Bool) → (T b → n ≡ 0) → Bracket (unlike s s') (cond b (cond (eqb m 0) nan (inf (unlike t t'))) (round f (unlike t t') (m * up e * down d) (n * up d * down e))) l h u
    go true z = absurd (lt_irrefl 0 (subst (λ (k : ℕ). 0 < k) (z tt) N))
    go false z =
        subst (λ (z : Bool). Bracket z (round f (unlike t t') (m * up e * down d) (n * up d * down e)) l h u) (ap₂ unlike i.0 j.0)
        (bracket-round f (unlike t t') (m * up e * down d) (n * up d * down e) l h u (mul-pos (mul-pos N (up_pos d)) (down_pos e)) U r r'
        (through l (q * c') (m * up e * down d) u (c * p') (n * up d * down e) (mul-pos C P) g (quotient-low q c' (n * up d) (down e) (m * up e) (down d) c p' i.1 j.2))
        (through (m * up e * down d) (p * c') h (n * up d * down e) (c * q') u (mul-pos C Q) (quotient-high (m * up e) (down d) c q' p c' (n * up d) (down e) i.2 j.1) k))
