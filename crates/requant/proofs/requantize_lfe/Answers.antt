-- `requant::requantize_lfe` meets its contract. 1 / 2 ^ (nb - 1) is exact, as one test computes for each width.
use mathlib.Core.Path.{◌≡◌, ap₂, ◌∙◌}
use mathlib.Core.Bool.{Bool}
use Prim.Native.Nat.{ℕ, ◌+◌, ◌-◌, ◌*◌, ◌%◌, ◌^◌, ◌≤◌, suc-le-suc}
use native.Mathlib.Omega.{arith}
use lib.Dec.{T}
use lib.Ieee.{Float, binary64, add, sub, mul, div, of_bits, of_int}
use Rattle.floats.proofs.Same.{same, same→}
use Rattle.floats.proofs.Table.{all, all_from}
use Rattle.requant.specs.Requant.{whole, fraction, lfe_c, lfe_d, lfe_of}
use Rattle.requant.proofs.Machine.{one_bit}
use Rattle.requant.proofs.Literal.{literal-1}
use Rattle.requant.proofs.requantize_lfe.Goals as goal

exact : ℕ → Bool
exact nb = same (div binary64 (whole 1) (whole (2 ^ (nb - 1)))) (lfe_d nb)

exact-pass : T (all (λ a. exact (a + 2)) 15)
unfolding exact lfe_d div of_int
exact-pass = tt

module _ (nb : ℕ) (g : 2 ≤ nb) (h : nb ≤ 16) where
  exact-at : div binary64 (whole 1) (whole (2 ^ (nb - 1))) ≡ lfe_d nb
  unfolding exact
  exact-at = same→ _ _ (all_from exact 2 15 exact-pass nb g (suc-le-suc h))

  -- 1 << nb, 1 << (nb - 1) and 1.0 are the machine's
  abbrev one : Float
  one = of_bits binary64 4607182418800017408

  abbrev two-nb : Float
  two-nb = whole (1 * 2 ^ nb % 4294967296)

  abbrev msb : Float
  msb = whole (1 * 2 ^ (nb - 1) % 4294967296)

  factor : div binary64 two-nb (sub binary64 two-nb one) ≡ lfe_c nb
  unfolding lfe_c
  factor = ap₂ (λ (p : ℕ) (y : Float). div binary64 (whole p) (sub binary64 (whole p) y)) (one_bit nb (omega arith)) literal-1

  shift : div binary64 one msb ≡ lfe_d nb
  shift = ap₂ (λ (y : Float) (p : ℕ). div binary64 y (whole p)) literal-1 (one_bit (nb - 1) (omega arith)) ∙ exact-at

  value : (code : ℕ) (x : Float) → x ≡ fraction nb code → mul binary64 (div binary64 two-nb (sub binary64 two-nb one)) (add binary64 x (div binary64 one msb)) ≡ lfe_of nb code
  unfolding lfe_of
  value code x e = ap₂ (mul binary64) factor (ap₂ (add binary64) e shift)

pub returns : goal.returns
returns c = rw (c.from-t.ensures, c.from.ensures) (search value)
