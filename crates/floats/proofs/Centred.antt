-- (k - 2 ^ h) / 2 ^ h is exact: its size is |k - 2 ^ h| / 2 ^ h, and its sign that of k - 2 ^ h.
use Rattle.std.specs.Prelude.{◌≡◌, ◌⊎◌, ℕ, suc, ◌+◌, ◌-◌, ◌*◌, ◌^◌, ◌≤◌, ◌<◌, Bool, true, false, not, cond, pos, negsuc, T, leb}
use Rattle.std.proofs.Common.{sym, subst, inl, inr, le_refl, lt_of_le_of_lt, mul-one, one-mul, arith, leb→le, lit<, pow_pos, pow_mono}
use Rattle.std.proofs.Math.Dec.{nleb→lt}
use Rattle.std.specs.Float.{binary64}
use Rattle.std.specs.Float.Ieee.{round, div, of_int}
use Rattle.floats.specs.Raw.{centred}
use Rattle.floats.proofs.Sign.{unlike-right}
use Rattle.floats.proofs.Holds.{holds-short}
use Rattle.floats.proofs.Bracket.{Bracket, bracket-int}
use Rattle.floats.proofs.Product.{bracket-div}

quotient : (h n : ℕ) (s : Bool) → n < 2 ^ 53 → 2 ^ h < 2 ^ 53 → h ≤ 1074 → Bracket s (div binary64 (round binary64 s n 1) (round binary64 false (2 ^ h) 1)) n n (2 ^ h)
quotient h n s N H L =
    subst (λ (z : Bool). Bracket z (div binary64 (round binary64 s n 1) (round binary64 false (2 ^ h) 1)) n n (2 ^ h)) (unlike-right s)
    (bracket-div binary64 s false (round binary64 s n 1) (round binary64 false (2 ^ h) 1) n n 1 (2 ^ h) (2 ^ h) 1 n n (2 ^ h) (pow_pos 0) (pow_pos 0) (pow_pos h) (pow_pos h) (pow_pos h)
    (bracket-int binary64 s n N) (bracket-int binary64 false (2 ^ h) H) (holds-short binary64 n h N L) (holds-short binary64 n h N L) (simp (one-mul, mul-one) (le_refl (n * 2 ^ h))) (simp (one-mul, mul-one) (le_refl (n * 2 ^ h))))

abbrev pub Centred : ℕ → ℕ → Type 0
Centred h k = ((2 ^ h ≤ k) × Bracket false (centred h k) (k - 2 ^ h) (k - 2 ^ h) (2 ^ h)) ⊎ ((k < 2 ^ h) × Bracket true (centred h k) (2 ^ h - k) (2 ^ h - k) (2 ^ h))

pub centred-exact : (h k : ℕ) → h ≤ 52 → k < 2 ^ h + 2 ^ h → Centred h k
unfolding centred
centred-exact h k L K = go (leb (2 ^ h) k) (leb→le (2 ^ h) k) (nleb→lt (2 ^ h) k)
  where
    H : 2 ^ h ≤ 2 ^ 52
    H = pow_mono L

    H' : 2 ^ h < 2 ^ 53
    H' = lt_of_le_of_lt H (lit< tt)

    L' : h ≤ 1074
    L' = omega arith

    above : (k H : ℕ) → k < H + H → H ≤ 2 ^ 52 → k - H < 2 ^ 53
    above k H h g = omega arith

    below : (k H : ℕ) → H ≤ 2 ^ 52 → H - k < 2 ^ 53
    below k H g = omega arith

    back : (k H : ℕ) → k < H → suc (H - suc k) ≡ H - k
    back k H h = omega arith

    go : (b : Bool) → (T b → 2 ^ h ≤ k) → (T (not b) → k < 2 ^ h)
        → ((2 ^ h ≤ k) × Bracket false (div binary64 (of_int binary64 (cond b (pos (k - 2 ^ h)) (negsuc (2 ^ h - suc k)))) (of_int binary64 (pos (2 ^ h)))) (k - 2 ^ h) (k - 2 ^ h) (2 ^ h))
        ⊎ ((k < 2 ^ h) × Bracket true (div binary64 (of_int binary64 (cond b (pos (k - 2 ^ h)) (negsuc (2 ^ h - suc k)))) (of_int binary64 (pos (2 ^ h)))) (2 ^ h - k) (2 ^ h - k) (2 ^ h))
    go true a b = inl (a tt, quotient h (k - 2 ^ h) false (above k (2 ^ h) K H) H' L')
    go false a b =
        inr (
          b tt,
          subst (λ (n : ℕ). Bracket true (div binary64 (round binary64 true n 1) (round binary64 false (2 ^ h) 1)) (2 ^ h - k) (2 ^ h - k) (2 ^ h)) (sym (back k (2 ^ h) (b tt)))
              (quotient h (2 ^ h - k) true (below k (2 ^ h) H) H' L'),
        )
