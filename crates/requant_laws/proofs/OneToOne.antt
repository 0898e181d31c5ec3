-- Values decide codes, in all 64 bits of an f64: one theorem for any of the 17 classes, any LFE allocation and scalefactor, any coefficient byte, any group.
use Rattle.std.specs.Prelude.{◌≡◌, cond, List, ℕ, ◌+◌, ◌-◌, ◌*◌, ◌/◌, ◌^◌, ◌≤◌, ◌<◌, T, eqb, Float}
use Rattle.std.proofs.Common.{sym, ap₂, ◌∙◌, le_trans, arith, lit<, lit≤}
use Rattle.std.proofs.Math.Path.{ap}
use Rattle.std.specs.Float.{nan, inf, fin}
use Rattle.std.specs.Float.Ieee.{binary64, up, down, mul}
use Rattle.floats.proofs.Table.{all, one-to-one}
use Rattle.floats.specs.Raw.{raw}
use Rattle.floats.proofs.OneToOne as law
use Rattle.tables.specs.Scalefactor.{scalefactor_of}
use Rattle.bitalloc.specs.Classes.{class_index, is_class, class_of, bits_per_sample}
use Rattle.bitalloc.proofs.Places.{class-index-lt}
use Rattle.bitalloc.proofs.Rules.{steps-rules}
use Rattle.requant.specs.Requant.{raw_of, degrouped, excess_of, number_of, lfe_c, lfe_d, lfe_sample_of, coefficient_of}
use Rattle.requant.proofs.Flip.{in_halves}
use Rattle.requant.proofs.Excess.{whole, excess-none}
use Rattle.requant.proofs.AsRaw.{requantized-raw, lfe-raw}
use Rattle.requant.proofs.Constants.{gap, most, class-apart, lfe-constants, scalefactor-scales}

-- ---- raw values
module _ (steps : ℕ) (C : T (is_class steps)) where
  some : 1 ≤ bits_per_sample steps
  some = le_trans (lit≤ tt) (steps-rules steps C).sample-low

  pub raw-one-to-one : (k k' : ℕ) → k < 2 ^ bits_per_sample steps → k' < 2 ^ bits_per_sample steps → raw_of steps k ≡ raw_of steps k' → k ≡ k'
  raw-one-to-one k k' K K' e =
      law.raw-one-to-one 45 (bits_per_sample steps - 1) (class_of steps).c (class_of steps).d gap most (class-apart (class_index steps) (class-index-lt steps C)) (lit< tt) k k'
      (in_halves (bits_per_sample steps) k some K) (in_halves (bits_per_sample steps) k' some K')
      (sym (requantized-raw (class_of steps) k some K) ∙ e ∙ requantized-raw (class_of steps) k' some K')

-- ---- LFE samples, scaled
module _ (allocation index : ℕ) (A : 1 ≤ allocation) (A' : allocation ≤ 15) (I : index < 63) where
  abbrev nb : ℕ
  nb = allocation + 1

  scaled-raw : (k : ℕ) → k < 2 ^ nb → lfe_sample_of allocation index k ≡ mul binary64 (raw (lfe_c nb) (lfe_d nb) (nb - 1) k) (scalefactor_of index)
  unfolding lfe_sample_of
  scaled-raw k K = ap (λ (x : Float). mul binary64 x (scalefactor_of index)) (lfe-raw nb k (omega arith) K)

  pub lfe-one-to-one : (k k' : ℕ) → k < 2 ^ (allocation + 1) → k' < 2 ^ (allocation + 1) → lfe_sample_of allocation index k ≡ lfe_sample_of allocation index k' → k ≡ k'
  lfe-one-to-one k k' K K' e =
      let y = scalefactor-scales index I in
      law.scaled-one-to-one 45 (nb - 1) (lfe_c nb) (lfe_d nb) gap most (lfe-constants nb (omega arith) (omega arith)).apart (scalefactor_of index) 1 y.above y.leaves y.room (lit< tt) k k'
      (in_halves nb k (omega arith) K) (in_halves nb k' (omega arith) K')
      (sym (scaled-raw k K) ∙ e ∙ scaled-raw k' K')

-- ---- prediction coefficients, by the byte that a value stands for
byte_of : Float → ℕ
byte_of nan = 0
byte_of (inf s) = 0
byte_of (fin s m e) = cond s (127 - m * up e * 32 / down e) (127 + m * up e * 32 / down e)

coefficients-pass : T (all (λ b. eqb (byte_of (coefficient_of b)) b) 256)
unfolding byte_of coefficient_of
coefficients-pass = tt

pub coefficient-one-to-one : (b b' : ℕ) → b < 256 → b' < 256 → coefficient_of b ≡ coefficient_of b' → b ≡ b'
coefficient-one-to-one = one-to-one coefficient_of byte_of 256 coefficients-pass

-- ---- a group's code: its digits and its excess
pub group-one-to-one : (n c c' : ℕ) → degrouped n c ≡ degrouped n c' → excess_of n c ≡ excess_of n c' → c ≡ c'
group-one-to-one n c c' digits excess =
    sym (whole n c) ∙ ap₂ (λ (d : List ℕ) (e : ℕ). number_of n d + n ^ 3 * e) digits excess ∙ whole n c'

-- below the cube the digits are enough
pub digits-one-to-one : (n c c' : ℕ) → c < n ^ 3 → c' < n ^ 3 → degrouped n c ≡ degrouped n c' → c ≡ c'
digits-one-to-one n c c' h h' e = group-one-to-one n c c' e (excess-none n c h ∙ sym (excess-none n c' h'))
