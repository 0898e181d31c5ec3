-- Every row of the table of boundary frames holds: a row follows from a test, and the tests are computed over the whole table.
use Rattle.std.specs.Prelude.{Bool, true, false, ◌&&◌, ◌≡◌, refl, List, [], ◌∷◌, ℕ, ◌+◌, ◌-◌, ◌*◌, T, eqb, ltb, Float, get_or}
use Rattle.std.specs.Bool.{beq}
use Rattle.std.proofs.Common.{ap₂, eqb→eq}
use Rattle.std.specs.Float.{nan}
use Rattle.std.specs.Float.Ieee.{of_bits, round, add, sub, mul, div, of_int, neg}
use Rattle.std.specs.Float.Ieee.Fits.{and_l, and_r}
use Rattle.floats.proofs.Same.{same, same→, same_bool}
use Rattle.bitalloc.specs.Classes.{classes, class_at, class_index}
use Rattle.requant.specs.Requant.{fraction, requantized, raw_of, degrouped, excess_of, lfe_c, lfe_d, lfe_of, coefficient_of}
use Rattle.mc_config.specs.Groups.{sbgr_of}
use Rattle.mc_crosstalk.specs.Crosstalk.{listed, sources3, sources2}
use Rattle.mc_payload.specs.declared.McSettings.{McSettings}
use Rattle.mc_base.specs.Base.{Base}
use Rattle.mc_predict.specs.Predict.{earlier}
use Rattle.mc_state.specs.Boundary.{Row, sample, group, coefficient, lfe, crosstalk, history, subband, Holds, rows, Each}

same_digits : List ℕ → List ℕ → Bool
same_digits [] [] = true
same_digits [] (y ∷ ys) = false
same_digits (x ∷ xs) [] = false
same_digits (x ∷ xs) (y ∷ ys) = eqb x y && same_digits xs ys

test : Row → Bool
test (sample steps code x) = same (raw_of steps code) x
test (group steps code digits excess) = same_digits (degrouped steps code) digits && eqb (excess_of steps code) excess
test (coefficient byte x) = same (coefficient_of byte) x
test (lfe bits code x) = same (lfe_of bits code) x
test (crosstalk pair code passes) = beq (listed pair code) passes
test (history delay k slot place) = eqb (9 + slot - delay - k) place && ltb place 9
test (subband sb g) = eqb (sbgr_of sb) g

tests : List Row → Bool
tests [] = true
tests (row ∷ more) = test row && tests more

digits-equal : (xs ys : List ℕ) → T (same_digits xs ys) → xs ≡ ys
unfolding same_digits
digits-equal [] [] t = refl
digits-equal [] (y ∷ ys) t = absurd t
digits-equal (x ∷ xs) [] t = absurd t
digits-equal (x ∷ xs) (y ∷ ys) t = ap₂ ◌∷◌ (eqb→eq x y (and_l (eqb x y) _ t)) (digits-equal xs ys (and_r (eqb x y) _ t))

is_true : (b : Bool) → T b → b ≡ true
is_true true t = refl
is_true false t = absurd t

reaches : (t place : ℕ) → T (eqb t place && ltb place 9)
    → (s : McSettings) (base : Base) (h : List Float) (ch sb : ℕ) → earlier s base h ch sb t ≡ get_or h ((32 * ch + sb) * 9 + place) nan
reaches t place w s base h ch sb =
    let e : t ≡ place = eqb→eq t place (and_l (eqb t place) _ w) in
    let l : ltb place 9 ≡ true = is_true (ltb place 9) (and_r (eqb t place) _ w) in
    rw (e, l)

holds : (row : Row) → T (test row) → Holds row
unfolding Holds test
holds (sample steps code x) t = same→ (raw_of steps code) x t
holds (group steps code digits excess) t =
    (digits-equal (degrouped steps code) digits (and_l (same_digits (degrouped steps code) digits) _ t), eqb→eq (excess_of steps code) excess (and_r (same_digits (degrouped steps code) digits) _ t))
holds (coefficient byte x) t = same→ (coefficient_of byte) x t
holds (lfe bits code x) t = same→ (lfe_of bits code) x t
holds (crosstalk pair code passes) t = same_bool (listed pair code) passes t
holds (history delay k slot place) t = reaches (9 + slot - delay - k) place t
holds (subband sb g) t = eqb→eq (sbgr_of sb) g t

each : (more : List Row) → T (tests more) → Each more
unfolding Each tests
each [] t = tt
each (row ∷ more) t = (holds row (and_l (test row) _ t), each more (and_r (test row) _ t))

rows_pass : T (tests rows)
unfolding tests test same_digits rows of_bits round add sub mul div of_int neg classes class_at class_index fraction requantized degrouped excess_of lfe_c lfe_d lfe_of coefficient_of sbgr_of listed sources3 sources2
rows_pass = tt

pub boundary-frames : Each rows
boundary-frames = each rows rows_pass
