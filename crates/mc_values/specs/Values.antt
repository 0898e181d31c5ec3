-- The record's values as the code makes them, each by the tables of codes and step counts that it needs.
use Rattle.std.specs.Prelude.{◌≡◌, Bool, false, cond, List, [], ◌∷◌, ℕ, ◌+◌, ◌*◌, ◌/◌, ◌%◌, ◌^◌, ◌≤◌, ◌<◌, eqb, ltb, get_or, Float}
use Rattle.std.specs.Float.{nan}
use Rattle.fill.specs.Tab.{tab}
use Rattle.floats.specs.Binary64.{zero64}
use Rattle.bitalloc.specs.Classes.{class_of, grouped, bits_per_codeword}
use Rattle.bitalloc.specs.declared.QuantClass.{QuantClass}
use Rattle.requant.specs.Requant.{requantized, degrouped, excess_of, lfe_sample_of, coefficient_of}
use Rattle.mc_fields.specs.Head.{count_at}

-- ---- predictors, by their table of codes

-- the delays of group g
unfoldable pub delays_in : List ℕ → ℕ → List ℕ
delays_in codes g = tab (λ px. get_or codes (4 * (6 * g + px)) 0) 6

unfoldable pub delays_from : List ℕ → List (List ℕ)
delays_from codes = tab (delays_in codes) 8

-- coefficient k of predictor q, which has n
unfoldable pub coef_by : List ℕ → ℕ → ℕ → ℕ → Float
coef_by codes n q k = cond (ltb k n) (coefficient_of (get_or codes (4 * q + 1 + k) 0)) zero64

unfoldable pub coefs_in : List ℕ → List ℕ → ℕ → List (List Float)
coefs_in predsi codes g = tab (λ px. tab (coef_by codes (count_at predsi g px) (6 * g + px)) 3) 6

unfoldable pub coefs_from : List ℕ → List ℕ → List (List (List Float))
coefs_from predsi codes = tab (coefs_in predsi codes) 8

-- ---- samples, by their step counts and the table of granules

-- the three codes of a place: the digits of a group code, or three codes
unfoldable pub three_codes : Bool → ℕ → ℕ → ℕ → ℕ → List ℕ
three_codes group steps x y z = cond group (degrouped steps x) (x ∷ y ∷ z ∷ [])

-- and the excess of a group code; 0 where x is none
unfoldable pub code_excess : Bool → ℕ → ℕ → ℕ
code_excess group steps x = cond group (excess_of steps x) 0

-- the values of the three
unfoldable pub three_values : QuantClass → ℕ → ℕ → ℕ → List Float
three_values class x y z =
    let codes = three_codes class.grouping class.nb_steps x y z in
    requantized class (get_or codes 0 0) ∷ requantized class (get_or codes 1 0) ∷ requantized class (get_or codes 2 0) ∷ []

-- the first code of place i in granule gr
abbrev pub first_at : ℕ → ℕ → ℕ
first_at gr i = 289 * gr + 1 + 3 * i

-- the values of place i, of n steps, in granule gr
unfoldable pub values_at : ℕ → List ℕ → ℕ → ℕ → List Float
values_at n granules gr i = three_values (class_of n) (get_or granules (first_at gr i) 0) (get_or granules (first_at gr i + 1) 0) (get_or granules (first_at gr i + 2) 0)

-- and its value in a slot
unfoldable pub raw_by : ℕ → List ℕ → ℕ → ℕ → Float
raw_by n granules i slot = get_or (values_at n granules (slot / 3) i) (slot % 3) nan

-- that of channel m in a slot and subband
unfoldable pub raw_in : List ℕ → List ℕ → ℕ → ℕ → ℕ → Float
raw_in own granules m slot sb =
    let n = get_or own (3 * sb + m) 0 in
    cond (eqb n 0) zero64 (raw_by n granules (3 * sb + m) slot)

unfoldable pub raw_from : List ℕ → List ℕ → List Float
raw_from own granules = tab (λ k. raw_in own granules (k / 1152) (k / 32 % 36) (k % 32)) 3456

-- the excess of place i, of n steps, in granule gr
unfoldable pub excess_by : ℕ → List ℕ → ℕ → ℕ → ℕ
excess_by n granules i gr = code_excess (grouped n) n (get_or granules (first_at gr i) 0)

-- by place and granule
unfoldable pub excess_in : List ℕ → List ℕ → ℕ → ℕ
excess_in own granules k = excess_by (get_or own (k / 12) 0) granules (k / 12) (k % 12)

unfoldable pub excesses_from : List ℕ → List ℕ → List ℕ
excesses_from own granules = tab (excess_in own granules) 1152

-- an LFE sample by its allocation, scalefactor index and code
unfoldable pub lfe_by : ℕ → ℕ → ℕ → Float
lfe_by lfe factor code = cond (eqb lfe 0) zero64 (lfe_sample_of lfe factor code)

unfoldable pub lfe_from : ℕ → ℕ → List ℕ → List Float
lfe_from lfe factor granules = tab (λ gr. lfe_by lfe factor (get_or granules (289 * gr) 0)) 12

-- ---- what the codes have to be for their values

-- the class is one of the 17, and each of the three codes is one of its samples'
pub record ValuesFit (class : QuantClass) (x y z : ℕ) : Type 0 where
  pub some : 0 < class.nb_steps
  pub low : 1 ≤ class.bits_per_sample
  pub high : class.bits_per_sample ≤ 16
  pub codes : (k : ℕ) → get_or (three_codes class.grouping class.nb_steps x y z) k 0 < 2 ^ class.bits_per_sample

-- each code of place i that is no group code is one of its width
abbrev pub PlaceFits : ℕ → List ℕ → ℕ → Type 0
PlaceFits n granules i = (gr k : ℕ) → gr < 12 → k < 3 → grouped n ≡ false → get_or granules (first_at gr i + k) 0 < 2 ^ bits_per_codeword n

pub record SamplesFit (own granules : List ℕ) : Type 0 where
  pub place : (i : ℕ) → i < 96 → (get_or own i 0 ≡ 0 → ⊥) → PlaceFits (get_or own i 0) granules i

pub record LfeFits (lfe : ℕ) (granules : List ℕ) : Type 0 where
  pub code : (gr : ℕ) → gr < 12 → get_or granules (289 * gr) 0 < 2 ^ (lfe + 1)
