-- Powers of two and a signed difference as the machine computes them at 32 bits.
use mathlib.Core.Path.{◌≡◌, refl, sym, ap, ap₂, ◌∙◌}
use Prim.Native.Nat.{ℕ, zero, suc, ◌-◌, ◌*◌, ◌%◌, ◌^◌, ◌≤◌, ◌<◌}
use native.Mathlib.Nat.{one-mul, mod-eq_of_lt, lt_irrefl}
use native.Mathlib.Omega.{arith}
use mathlib.Core.Bool.{Bool, true, false, not, cond}
use lib.IntN.{ℤ, pos, negsuc, ◌-ℤ◌}
use lib.Signed.{mag}
use lib.Dec.{T, leb, ltb, leb→le, nleb→lt, ltb→lt, nltb→le}
use lib.Pow.{pow_mono, pow_pos, pow-lt}
use lib.Ieee.{binary64, minus, mul, div, of_bits, of_int}
use mir.Syntax.{w32}
use mir.Val.{SFits, to_z, of_z}
use mir.ValLaws.{to_z_pos, to_z-of_z}
use Rattle.floats.specs.Raw.{centred}
use Rattle.floats.proofs.Inverse.{by-inverse}
use Rattle.requant.specs.Requant.{fraction}
use Rattle.requant.proofs.Flip.{in_halves}
use Rattle.requant.proofs.AsRaw.{fraction-centred}
use Rattle.requant.proofs.Literal.{literal-1}

-- 1 << a
pub one_bit : (a : ℕ) → a < 32 → 1 * 2 ^ a % 4294967296 ≡ 2 ^ a
one_bit a h = ap (λ (x : ℕ). x % 4294967296) (one-mul (2 ^ a)) ∙ mod-eq_of_lt (pow-lt h)

difference-minus : (a b : ℕ) → 0 < b → pos a -ℤ pos b ≡ minus a b
difference-minus a zero h = absurd (lt_irrefl 0 h)
difference-minus a (suc b) h = go (ltb a (suc b)) (leb (suc b) a) (ltb→lt a (suc b)) (nltb→le a (suc b)) (leb→le (suc b) a) (nleb→lt (suc b) a)
  where
    go : (x y : Bool) → (T x → a < suc b) → (T (not x) → suc b ≤ a) → (T y → suc b ≤ a) → (T (not y) → a < suc b)
        → cond x (negsuc (suc b - suc a)) (pos (a - suc b)) ≡ cond y (pos (a - suc b)) (negsuc (suc b - suc a))
    go true true p q r s = let u = p tt in let v = r tt in let z : ⊥ = omega arith in absurd z
    go true false p q r s = refl
    go false true p q r s = refl
    go false false p q r s = let u = q tt in let v = s tt in let z : ⊥ = omega arith in absurd z

-- code as i32 - (1 << (n - 1)) as i32
module _ (n code : ℕ) (N : 1 ≤ n) (N' : n ≤ 16) (K : code < 2 ^ n) where
  top : 2 ^ (n - 1) ≤ 32768
  top = pow_mono (less n N')
    where
      less : (n : ℕ) → n ≤ 16 → n - 1 ≤ 15
      less n h = omega arith

  small : code < 65536
  small = let h = in_halves n code N K in omega (arith, top)

  msb : 1 * 2 ^ (n - 1) % 4294967296 ≡ 2 ^ (n - 1)
  msb = one_bit (n - 1) (less n N')
    where
      less : (n : ℕ) → n ≤ 16 → n - 1 < 32
      less n h = omega arith

  pub code_fits : SFits w32 (pos code)
  code_fits = record { sfits = omega (arith, small) }

  pub msb-fits : SFits w32 (pos (1 * 2 ^ (n - 1) % 4294967296))
  msb-fits = rw msb (record { sfits = omega (arith, top) })

  difference : to_z w32 code -ℤ to_z w32 (1 * 2 ^ (n - 1) % 4294967296) ≡ minus code (2 ^ (n - 1))
  difference =
      ap₂ (λ (x y : ℤ). x -ℤ y) (to_z_pos w32 code code_fits.sfits) (ap (to_z w32) msb ∙ to_z_pos w32 (2 ^ (n - 1)) (omega (arith, top)))
      ∙ difference-minus code (2 ^ (n - 1)) (pow_pos (n - 1))

  bounded : mag (minus code (2 ^ (n - 1))) < 2 ^ 31
  bounded = go (leb (2 ^ (n - 1)) code)
    where
      go : (b : Bool) → mag (cond b (pos (code - 2 ^ (n - 1))) (negsuc (2 ^ (n - 1) - suc code))) < 2147483648
      go true = omega (arith, small)
      go false = omega (arith, top)

  pub difference-fits : SFits w32 (to_z w32 code -ℤ to_z w32 (1 * 2 ^ (n - 1) % 4294967296))
  difference-fits = rw difference (record { sfits = bounded })

  read_back : to_z w32 (of_z w32 (to_z w32 code -ℤ to_z w32 (1 * 2 ^ (n - 1) % 4294967296))) ≡ minus code (2 ^ (n - 1))
  read_back = to_z-of_z w32 (to_z w32 code -ℤ to_z w32 (1 * 2 ^ (n - 1) % 4294967296)) difference-fits ∙ difference

  -- its quotient
  pub quotient : div binary64 (of_int binary64 (to_z w32 (of_z w32 (to_z w32 code -ℤ to_z w32 (1 * 2 ^ (n - 1) % 4294967296))))) (of_int binary64 (pos (1 * 2 ^ (n - 1) % 4294967296))) ≡ fraction n code
  unfolding centred
  quotient = ap₂ (λ (x y : ℤ). div binary64 (of_int binary64 x) (of_int binary64 y)) read_back (ap pos msb) ∙ sym (fraction-centred n code N K)

  -- the same by the inverse of the power
  pub product : mul binary64 (of_int binary64 (to_z w32 (of_z w32 (to_z w32 code -ℤ to_z w32 (1 * 2 ^ (n - 1) % 4294967296))))) (div binary64 (of_bits binary64 4607182418800017408) (of_int binary64 (pos (1 * 2 ^ (n - 1) % 4294967296)))) ≡ fraction n code
  product = rw (literal-1) (rw msb (by-inverse _ (n - 1) (less n N'))) ∙ quotient
    where
      less : (n : ℕ) → n ≤ 16 → n - 1 < 16
      less n h = omega arith
