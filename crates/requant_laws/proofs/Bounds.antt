-- Values are finite and bounded: raw values and coefficients by 4, scalefactors by 2, what is scaled by 8, LFE samples by 3.
use Rattle.std.proofs.Common.{sym, subst, zero-le, suc-le-suc, le_trans, mul-le-mul_right, mul-pos, arith, leb→le, lit<, lit≤, pow_pos}
use Rattle.std.specs.Prelude.{Bool, false, ℕ, suc, ◌+◌, ◌-◌, ◌*◌, ◌^◌, ◌≤◌, ◌<◌, T, leb, Float}
use Rattle.std.specs.Float.{nan, inf, fin, binary64}
use Rattle.std.specs.Float.Ieee.{up, down, mul}
use Rattle.std.specs.Float.Ieee.Positive.{num, den, den_pos}
use Rattle.floats.specs.Raw.{shifted, raw}
use Rattle.floats.specs.Within.{Within}
use Rattle.floats.proofs.Bounds.{within-bracket, within-positive, within-le, within-mul, mul64}
use Rattle.floats.proofs.Holds.{holds-short}
use Rattle.floats.proofs.Shifted.{cell, negative, distance, distance-le-one, cell-le, shifted_in}
use Rattle.floats.proofs.OneToOne.{Separates, raw-low, raw-high, raw-high-le, raw-in}
use Rattle.floats.proofs.Table.{all, all-at}
use Rattle.tables.specs.Scalefactor.{scalefactor_of}
use Rattle.bitalloc.specs.Classes.{class_index, is_class, class_of, bits_per_sample}
use Rattle.bitalloc.proofs.Places.{class-index-lt}
use Rattle.bitalloc.proofs.Rules.{steps-rules}
use Rattle.requant.specs.Requant.{raw_of, lfe_c, lfe_d, lfe_of, lfe_sample_of, coefficient_of}
use Rattle.requant.proofs.Flip.{in_halves}
use Rattle.requant.proofs.AsRaw.{requantized-raw, lfe-raw}
use Rattle.requant.proofs.Constants.{gap, most, class-apart, Lfe, lfe-constants, scalefactor-scales}

-- ---- raw values
pub raw-within : (steps k : ℕ) → T (is_class steps) → k < 2 ^ bits_per_sample steps → Within (raw_of steps k) 4 1
raw-within steps k C K =
    subst (λ (x : Float). Within x 4 1) (sym (requantized-raw (class_of steps) k some K))
    (within-le (raw c d h k) high (2 ^ 45) 4 1 (pow_pos 45) (four high (raw-high-le 45 h c d gap most S k K'))
    (within-bracket (negative 45 h k d) (raw c d h k) (raw-low 45 h c d gap most S k) high (2 ^ 45) (raw-in 45 h c d gap most S k K')))
  where
    h : ℕ
    h = bits_per_sample steps - 1

    c : Float
    c = (class_of steps).c

    d : Float
    d = (class_of steps).d

    S : Separates 45 h c d gap most
    S = class-apart (class_index steps) (class-index-lt steps C)

    some : 1 ≤ bits_per_sample steps
    some = le_trans (lit≤ tt) (steps-rules steps C).sample-low

    K' : k < 2 ^ h + 2 ^ h
    K' = in_halves (bits_per_sample steps) k some K

    high : ℕ
    high = raw-high 45 h c d gap most S k

    four : (z : ℕ) → z ≤ most → z * 1 ≤ 4 * 2 ^ 45
    four z h = omega arith

-- ---- scalefactors
pub scalefactor-within : (index : ℕ) → index < 63 → Within (scalefactor_of index) 2 1
scalefactor-within index h = within-positive (scalefactor_of index) 2 1 (scalefactor-scales index h).above (scalefactor-scales index h).high

pub scaled-within : (x : Float) (index : ℕ) → index < 63 → Within x 4 1 → Within (mul binary64 x (scalefactor_of index)) 8 1
scaled-within x index h i = mul64 0 zero-le x (scalefactor_of index) 4 2 8 i (scalefactor-within index h) (lit≤ tt) (lit< tt)

-- ---- LFE samples: (v / 2 ^ (nb - 1) + 2 ^ (1 - nb)) is 1 at most, 257 / 256 with its rounding, and the factor is 342 / 256 at most
lfe-shifted : (nb k : ℕ) → 2 ≤ nb → nb ≤ 16 → k < 2 ^ nb → Within (shifted (lfe_d nb) (nb - 1) k) 257 (2 ^ 8)
lfe-shifted nb k g g' K =
    within-le (shifted d h k) (suc (cell 8 h k d)) (2 ^ 8) 257 (2 ^ 8) (pow_pos 8)
    (mul-le-mul_right (2 ^ 8) (suc-le-suc (cell-le (distance h (num d) (den d) k) (2 ^ h * den d) 8 1 (mul-pos (pow_pos h) (den_pos d)) (distance-le-one h k d L.d-least K'))))
    (within-bracket (negative 8 h k d) (shifted d h k) (cell 8 h k d) (suc (cell 8 h k d)) (2 ^ 8) (shifted_in 8 h k d L.apart.d-positive L.apart.d-at-most-1 L.apart.width (lit≤ tt) K'))
  where
    h : ℕ
    h = nb - 1

    d : Float
    d = lfe_d nb

    L : Lfe nb
    L = lfe-constants nb g g'

    K' : k < 2 ^ h + 2 ^ h
    K' = in_halves nb k (omega arith) K

lfe-within : (nb k : ℕ) → 2 ≤ nb → nb ≤ 16 → k < 2 ^ nb → Within (lfe_of nb k) 384 (2 ^ 8)
unfolding raw
lfe-within nb k g g' K =
    let L = lfe-constants nb g g' in
    subst (λ (x : Float). Within x 384 (2 ^ 8)) (sym (lfe-raw nb k (omega arith) K))
    (mul64 8 (lit≤ tt) (lfe_c nb) (shifted (lfe_d nb) (nb - 1) k) 342 257 384 (within-positive (lfe_c nb) 342 256 L.apart.c-positive L.c-most) (lfe-shifted nb k g g' K) (lit≤ tt) (lit< tt))

pub lfe-sample-within : (allocation index k : ℕ) → 1 ≤ allocation → allocation ≤ 15 → index < 63 → k < 2 ^ (allocation + 1) → Within (lfe_sample_of allocation index k) 3 1
unfolding lfe_sample_of
lfe-sample-within allocation index k A A' I K =
    within-mul binary64 (lfe_of (allocation + 1) k) (scalefactor_of index) 384 (2 ^ 8) 2 1 3 1 (pow_pos 8) (lit< tt) (lit< tt)
    (lfe-within (allocation + 1) k (omega arith) (omega arith) K) (scalefactor-within index I) (holds-short binary64 3 0 (lit< tt) zero-le) (lit≤ tt)

-- ---- coefficients
size-le : Float → Bool
size-le nan = false
size-le (inf s) = false
size-le (fin s m e) = leb (m * up e * 1) (4 * down e)

size-within : (x : Float) → T (size-le x) → Within x 4 1
unfolding size-le
size-within nan h = h
size-within (inf s) h = h
size-within (fin s m e) h = leb→le (m * up e * 1) (4 * down e) h

coefficients-pass : T (all (λ b. size-le (coefficient_of b)) 256)
unfolding size-le coefficient_of
coefficients-pass = tt

pub coefficient-within : (byte : ℕ) → byte < 256 → Within (coefficient_of byte) 4 1
coefficient-within byte h = size-within (coefficient_of byte) (all-at (λ b. size-le (coefficient_of b)) 256 coefficients-pass byte h)
