-- Values decide the codes of a place: raw values of samples or of a group, LFE samples, and coefficients.
use Rattle.std.specs.Prelude.{◌≡◌, true, false, ℕ, zero, suc, ◌+◌, ◌/◌, ◌^◌, ◌≤◌, ◌<◌, T, Float, get_or}
use Rattle.std.proofs.Math.Path.{refl}
use Rattle.std.proofs.Common.{sym, ap, subst, ◌∙◌, mod-lt, arith, ext_get_or}
use Rattle.std.specs.Float.{binary64}
use Rattle.std.specs.Float.Ieee.{add, sub, fits, of_bits}
use Rattle.std.specs.Float.Ieee.Bits.{of_bits-to_bits}
use Rattle.std.specs.Float.Ieee.Fits.{mul-fits, div-fits}
use Rattle.tables.specs.Scalefactor.{scalefactor_of}
use Rattle.bitalloc.specs.Classes.{is_class, class_of, c_of, d_of, grouped, bits_per_sample, bits_per_codeword}
use Rattle.bitalloc.proofs.Places.{class-steps}
use Rattle.bitalloc.proofs.Rules.{steps-rules}
use Rattle.requant.specs.Requant.{whole, fraction, requantized, raw_of, degrouped, excess_of, lfe_of, lfe_sample_of, coefficient_of}
use Rattle.requant_laws.proofs.OneToOne.{raw-one-to-one, lfe-one-to-one, coefficient-one-to-one, group-one-to-one}
use Rattle.mc_payload.specs.Demand3.{SameFloat}

-- floats that the format holds
same_float : (x y : Float) → T (fits binary64 x) → T (fits binary64 y) → SameFloat x y → x ≡ y
same_float x y h h' e = sym (of_bits-to_bits binary64 x h) ∙ (ap (of_bits binary64) e ∙ of_bits-to_bits binary64 y h')

-- ---- raw values

raw-fits : (n k : ℕ) → T (fits binary64 (raw_of n k))
unfolding requantized
raw-fits n k = mul-fits binary64 (c_of n) (add binary64 (fraction (bits_per_sample n) k) (d_of n))

module _ (n : ℕ) (class : is_class n ≡ true) where
  pub is-class : T (is_class n)
  is-class = subst T (sym class) tt

  raw-one : (k k' : ℕ) → k < 2 ^ bits_per_sample n → k' < 2 ^ bits_per_sample n → SameFloat (raw_of n k) (raw_of n k') → k ≡ k'
  raw-one k k' h h' e = raw-one-to-one n is-class k k' h h' (same_float _ _ (raw-fits n k) (raw-fits n k') e)

  -- a code of its own, of a class that does not group
  pub single-one : (k k' : ℕ) → grouped n ≡ false → k < 2 ^ bits_per_codeword n → k' < 2 ^ bits_per_codeword n
      → SameFloat (raw_of n k) (raw_of n k') → k ≡ k'
  single-one k k' single h h' e =
      let w : bits_per_codeword n ≡ bits_per_sample n = (steps-rules n is-class).single single in
      raw-one k k' (rw w at h) (rw w at h') e

  digit-below : (g k : ℕ) → k < 3 → get_or (degrouped n g) k 0 < 2 ^ bits_per_sample n
  unfolding degrouped
  digit-below g k h = omega (arith, go g k h, steps, (steps-rules n is-class).steps_high)
    where
      steps : (class_of n).nb_steps ≡ n
      steps = class-steps n is-class

      some : 0 < n
      some = omega (arith, steps, (steps-rules n is-class).steps_low)

      go : (g k : ℕ) → k < 3 → get_or (degrouped n g) k 0 < n
      go g zero h = mod-lt g some
      go g (suc zero) h = mod-lt (g / n) some
      go g (suc (suc zero)) h = mod-lt (g / n / n) some
      go g (suc (suc (suc k))) h = absurd (omega arith)

  -- a group code, by the raw values of its three digits and its excess
  pub group-one : (g g' : ℕ)
      → ((k : ℕ) → k < 3 → SameFloat (raw_of n (get_or (degrouped n g) k 0)) (raw_of n (get_or (degrouped n g') k 0)))
      → excess_of n g ≡ excess_of n g' → g ≡ g'
  unfolding degrouped
  group-one g g' e x =
      group-one-to-one n g g' (ext_get_or 0 (degrouped n g) (degrouped n g') refl (λ k l. raw-one _ _ (digit-below g k l) (digit-below g' k l) (e k l))) x

-- ---- LFE samples and coefficients

lfe-fits : (lfe index k : ℕ) → T (fits binary64 (lfe_sample_of lfe index k))
unfolding lfe_sample_of
lfe-fits lfe index k = mul-fits binary64 (lfe_of (lfe + 1) k) (scalefactor_of index)

pub lfe-one : (lfe index k k' : ℕ) → 1 ≤ lfe → lfe ≤ 15 → index < 63 → k < 2 ^ (lfe + 1) → k' < 2 ^ (lfe + 1)
    → SameFloat (lfe_sample_of lfe index k) (lfe_sample_of lfe index k') → k ≡ k'
lfe-one lfe index k k' some low i h h' e =
    lfe-one-to-one lfe index some low i k k' h h' (same_float _ _ (lfe-fits lfe index k) (lfe-fits lfe index k') e)

coefficient-fits : (x : ℕ) → T (fits binary64 (coefficient_of x))
unfolding coefficient_of
coefficient-fits x = div-fits binary64 (sub binary64 (whole x) (whole 127)) (whole 32)

pub coefficient-one : (x x' : ℕ) → x < 256 → x' < 256 → SameFloat (coefficient_of x) (coefficient_of x') → x ≡ x'
coefficient-one x x' h h' e = coefficient-one-to-one x x' h h' (same_float _ _ (coefficient-fits x) (coefficient-fits x') e)
