-- The gap between two brackets: no float is in both, a constant factor leaves a part of it, and the cells of two codes have one.
use Rattle.std.specs.Prelude.{◌≡◌, ◌⊎◌, ℕ, suc, ◌+◌, ◌*◌, ◌/◌, ◌^◌, ◌≤◌, ◌<◌, Bool, true, false, not, T, Float}
use Rattle.std.proofs.Common.{sym, ap, subst, inl, inr, le_trans, le_of_eq, lt_of_le_of_lt, mul_assoc, mul_comm, mul-le-mul_right, mul-pos, suc-mul, arith, true≢false, ltb→lt, nltb→le, lit≤, pow_pos}
use Rattle.std.proofs.Math.Nat.{le-suc}
use Rattle.std.proofs.lemmas.Bool.{false≢true}
use Rattle.std.specs.Float.{binary64}
use Rattle.std.specs.Float.Ieee.{mul}
use Rattle.std.specs.Float.Ieee.Positive.{num, den, positive, den_pos}
use Rattle.floats.proofs.Sign.{unlike-left, unlike-right}
use Rattle.floats.proofs.Holds.{Holds, holds-short}
use Rattle.floats.proofs.Bracket.{Bracket, bracket-meet}
use Rattle.floats.proofs.Product.{bracket-mul}
use Rattle.floats.proofs.Floor.{floor-le, le-ceil, floor-mono, floor-spread}
use Rattle.floats.proofs.Shifted.{cell, negative, plus-d, distance, bracket-own}

-- two brackets [q, p] and [q', p'] of one sign are g units apart
abbrev pub Far : ℕ → Bool → ℕ → ℕ → Bool → ℕ → ℕ → Type 0
Far g s q p s' q' p' = s ≡ s' → (p + g ≤ q') ⊎ (p' + g ≤ q)

-- so no float is in both
pub far-differ : (g : ℕ) (s s' : Bool) (q p q' p' c : ℕ) (x y : Float) → 0 < g → Bracket s x q p c → Bracket s' y q' p' c → Far g s q p s' q' p' → x ≡ y → ⊥
far-differ g s s' q p q' p' c x y G i j a e = go (a one.0)
  where
    j' : Bracket s' x q' p' c
    j' = subst (λ (z : Float). Bracket s' z q' p' c) (sym e) j

    one : (s ≡ s') × (q ≤ p')
    one = bracket-meet s s' x q p q' p' c i j'

    two : (s' ≡ s) × (q' ≤ p)
    two = bracket-meet s' s x q' p' q p c j' i

    go : (p + g ≤ q') ⊎ (p' + g ≤ q) → ⊥
    go (inl h) = omega (arith, two.1)
    go (inr h) = omega (arith, one.1)

-- ---- times a constant n / m
pub far-times : (g g' n m : ℕ) (s : Bool) (q p : ℕ) (s' : Bool) (q' p' : ℕ) → 0 < m → suc g' ≤ g * n / m → Far g s q p s' q' p' → Far g' s (q * n / m) (suc (p * n / m)) s' (q' * n / m) (suc (p' * n / m))
far-times g g' n m s q p s' q' p' M h a e = go (a e)
  where
    go : (p + g ≤ q') ⊎ (p' + g ≤ q) → (suc (p * n / m) + g' ≤ q' * n / m) ⊎ (suc (p' * n / m) + g' ≤ q * n / m)
    go (inl k) = let z = floor-spread p q' g n m M k in inl (omega arith)
    go (inr k) = let z = floor-spread p' q g n m M k in inr (omega arith)

times-low : (q n m u : ℕ) → q * n / m * (m * u) ≤ n * q * u
times-low q n m u = le_trans (le_of_eq (sym (mul_assoc (q * n / m) m u))) (le_trans (mul-le-mul_right u (floor-le (q * n) m)) (le_of_eq (ap (λ (z : ℕ). z * u) (mul_comm q n))))

times-high : (p n m u : ℕ) → 0 < m → n * p * u ≤ suc (p * n / m) * (m * u)
times-high p n m u M = le_trans (le_of_eq (ap (λ (z : ℕ). z * u) (mul_comm n p))) (le_trans (mul-le-mul_right u (le-ceil (p * n) m M)) (le_of_eq (mul_assoc (suc (p * n / m)) m u)))

module _ (y x : Float) (s : Bool) (q p t : ℕ) (P : T (positive y)) (L : t ≤ 51) (O : q ≤ p) (B : suc (p * num y / den y) < 2 ^ 53) (i : Bracket s x q p (2 ^ t)) where
  high : Holds binary64 (suc (p * num y / den y)) (2 ^ t)
  high = holds-short binary64 (suc (p * num y / den y)) t B (le_trans L (lit≤ tt))

  low : Holds binary64 (q * num y / den y) (2 ^ t)
  low = holds-short binary64 (q * num y / den y) t (lt_of_le_of_lt (floor-mono q p (num y) (den y) (den_pos y) O) (le_trans (le-suc (suc (p * num y / den y))) B)) (le_trans L (lit≤ tt))

  pub bracket-times-left : Bracket s (mul binary64 y x) (q * num y / den y) (suc (p * num y / den y)) (2 ^ t)
  bracket-times-left =
      subst (λ (z : Bool). Bracket z (mul binary64 y x) (q * num y / den y) (suc (p * num y / den y)) (2 ^ t)) (unlike-left s)
      (bracket-mul binary64 false s y x (num y) (num y) (den y) q p (2 ^ t) (q * num y / den y) (suc (p * num y / den y)) (2 ^ t) (den_pos y) (pow_pos t) (pow_pos t) (bracket-own y P) i low high
      (times-low q (num y) (den y) (2 ^ t)) (times-high p (num y) (den y) (2 ^ t) (den_pos y)))

  pub bracket-times-right : Bracket s (mul binary64 x y) (q * num y / den y) (suc (p * num y / den y)) (2 ^ t)
  bracket-times-right =
      subst (λ (z : Bool). Bracket z (mul binary64 x y) (q * num y / den y) (suc (p * num y / den y)) (2 ^ t)) (unlike-right s)
      (bracket-mul binary64 s false x y q p (2 ^ t) (num y) (num y) (den y) (q * num y / den y) (suc (p * num y / den y)) (2 ^ t) (pow_pos t) (den_pos y) (pow_pos t) i (bracket-own y P) low high
      (le_trans (le_of_eq (ap (λ (z : ℕ). q * num y / den y * z) (mul_comm (2 ^ t) (den y)))) (le_trans (times-low q (num y) (den y) (2 ^ t)) (le_of_eq (ap (λ (z : ℕ). z * 2 ^ t) (mul_comm (num y) q)))))
      (le_trans (le_of_eq (ap (λ (z : ℕ). z * 2 ^ t) (mul_comm p (num y)))) (le_trans (times-high p (num y) (den y) (2 ^ t) (den_pos y)) (le_of_eq (ap (λ (z : ℕ). suc (p * num y / den y) * z) (mul_comm (den y) (2 ^ t)))))))

-- ---- the cells of two codes
pub cells-far : (t h : ℕ) (d : Float) (k k' g : ℕ) → k < k' → suc g ≤ den d * 2 ^ t / (2 ^ h * den d) → Far g (negative t h k d) (cell t h k d) (suc (cell t h k d)) (negative t h k' d) (cell t h k' d) (suc (cell t h k' d))
cells-far t h d k k' g K G = go (negative t h k d) (negative t h k' d) (nltb→le (plus-d h n m k) c) (ltb→lt (plus-d h n m k') c)
  where
    n : ℕ
    n = num d

    m : ℕ
    m = den d

    c : ℕ
    c = 2 ^ h * den d

    C : 0 < c
    C = mul-pos (pow_pos h) (den_pos d)

    step : k * m + m ≤ k' * m
    step = le_trans (le_of_eq (sym (suc-mul k m))) (mul-le-mul_right m K)

    go : (b b' : Bool) → (T (not b) → c ≤ plus-d h n m k) → (T b' → plus-d h n m k' < c) → b ≡ b'
        → (suc (cell t h k d) + g ≤ cell t h k' d) ⊎ (suc (cell t h k' d) + g ≤ cell t h k d)
    go true true u v e = let x = v tt in let z = floor-spread (distance h n m k') (distance h n m k) m (2 ^ t) c C (omega (arith, step)) in inr (omega arith)
    go true false u v e = absurd (true≢false e)
    go false true u v e = absurd (false≢true e)
    go false false u v e = let x = u tt in let z = floor-spread (distance h n m k) (distance h n m k') m (2 ^ t) c C (omega (arith, step)) in inl (omega arith)
