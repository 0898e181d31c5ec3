-- Each code of an accepted payload is a value of its field, and 0 where there is no field.
use Rattle.std.specs.Prelude.{◌≡◌, refl, Bool, false, cond, List, ℕ, zero, suc, ◌+◌, ◌*◌, ◌/◌, ◌%◌, ◌^◌, ◌<◌, eqb, set}
use Rattle.std.proofs.Math.Bool.{true}
use native.Mathlib.Omega.{arith}
use Rattle.std.proofs.Math.Dec.{ltb}
use Rattle.std.proofs.Math.ListN.{get_or}
use borrow.Author.Tests.{eqb-false, lt-ltb}
use Rattle.bits.specs.Syntax.{Syntax, done}
use Rattle.bits.proofs.Yields.{Yields, yields-done, yields-refuse, yields_field, yields-cond, yields_both, yields-times, yields-weaken}
use Rattle.bits.specs.Table.{set3}
use Rattle.bits.proofs.Entries.{entries-set}
use Rattle.bits.proofs.TableFits.{Any, Fits, entries-set3, fits-loop}
use Rattle.bitalloc.specs.Classes.{grouped, bits_per_codeword}
use Rattle.mc_fields.specs.Head.{bits_if, count_at}
use Rattle.mc_payload.specs.declared.McSettings.{McSettings}
use Rattle.mc_payload.specs.Places.{steps_of, own_of}
use Rattle.mc_payload.specs.Unpack.{payload_of}
use Rattle.mc_payload.specs.Payload.{
  Codes,
  scfsi_at,
  scfsi,
  check_layer3,
  predictor_at,
  predictors,
  factor,
  lf_scalefactor,
  factors_by,
  factors_at,
  scalefactors,
  samples_at,
  granule_at,
  granules,
  payload,
}

-- ---- the width of the field that fills an entry, 0 where there is none

-- a scfsi code and a scalefactor index, by step count
abbrev pub scfsi_width : ℕ → ℕ
scfsi_width n = cond (eqb n 0) 0 2

abbrev pub factor_width : ℕ → ℕ
factor_width n = cond (eqb n 0) 0 6

-- of a predictor with n coefficients, its delay and then its coefficients
abbrev pub predictor_width : ℕ → ℕ → ℕ
predictor_width n zero = bits_if (ltb 0 n) 3
predictor_width n (suc k) = bits_if (ltb k n) 8

-- code k of the three of a place with n steps: a group code is the first
abbrev pub sample_width : ℕ → ℕ → ℕ
sample_width n k = cond (eqb n 0) 0 (cond (grouped n) (cond (eqb k 0) (bits_per_codeword n) 0) (bits_per_codeword n))

-- of a granule, its LFE code and then three codes to a place
abbrev pub granule_width : ℕ → List ℕ → ℕ → ℕ
granule_width lfe own zero = bits_if (ltb 0 lfe) (lfe + 1)
granule_width lfe own (suc o) = sample_width (get_or own (o / 3) 0) (o % 3)

-- the codes are values of their fields; the LFE's scalefactor index is below 63, and 0 where it has none
pub record CodesFit (lfe : ℕ) (predsi steps own : List ℕ) (c : Codes) : Type 0 where
  pub scfsi : Fits 96 (λ j. scfsi_width (get_or steps j 0)) c.0
  pub predictors : Fits 192 (λ j. predictor_width (count_at predsi (j / 4 / 6) (j / 4 % 6)) (j % 4)) c.1.0
  pub lf_scalefactor : c.1.1.0 < 63
  pub no_lf_scalefactor : lfe ≡ 0 → c.1.1.0 ≡ 0
  pub scalefactors : Fits 288 (λ j. factor_width (get_or steps (j / 3) 0)) c.1.1.1.0
  pub granules : Fits 3468 (λ j. granule_width lfe own (j % 289)) c.1.1.1.1

-- ---- scfsi

fits-scfsi : (steps : List ℕ) (i : ℕ) (a : List ℕ) → i < 96 → Fits 96 (λ j. scfsi_width (get_or steps j 0)) a
    → Yields (scfsi_at steps i a) (Fits 96 (λ j. scfsi_width (get_or steps j 0))) Any
unfolding scfsi_at
fits-scfsi steps i a h f =
    yields-cond (eqb (get_or steps i 0) 0) (λ t. yields-done f) (λ t. yields_field (λ v b. yields-done (entries-set i _ (rw t (omega arith)) f)))

-- ---- predictors

module _ (predsi : List ℕ) where
  abbrev width : ℕ → ℕ
  width j = predictor_width (count_at predsi (j / 4 / 6) (j / 4 % 6)) (j % 4)

  -- field k of predictor q, and its last three
  fits-field : {a : List ℕ} (q k v j : ℕ) → j / 4 ≡ q → j % 4 ≡ k → v < 2 ^ predictor_width (count_at predsi (q / 6) (q % 6)) k
      → Fits 192 width a → Fits 192 width (set a j v)
  fits-field q k v j e e' h f = entries-set j v (rw (e, e') h) f

  fits-coefficients : {a : List ℕ} (q x y z j : ℕ) → j / 4 ≡ q → j % 4 ≡ 1 → x < 2 ^ predictor_width (count_at predsi (q / 6) (q % 6)) 1
      → y < 2 ^ predictor_width (count_at predsi (q / 6) (q % 6)) 2 → z < 2 ^ predictor_width (count_at predsi (q / 6) (q % 6)) 3
      → Fits 192 width a → Fits 192 width (set3 a j x y z)
  unfolding set3
  fits-coefficients q x y z j e e' bx by bz f =
      fits-field q 3 z (j + 2) (omega arith) (omega arith) bz
      (fits-field q 2 y (j + 1) (omega arith) (omega arith) by (fits-field q 1 x j e e' bx f))

  fits-predictor : (q : ℕ) (a : List ℕ) → q < 48 → Fits 192 width a → Yields (predictor_at predsi q a) (Fits 192 width) Any
  unfolding predictor_at
  fits-predictor q a h f =
      let n = count_at predsi (q / 6) (q % 6) in
      yields-cond (eqb n 0) (λ t. yields-done f)
      (λ t. let some : ltb 0 n ≡ true = lt-ltb 0 n (omega (arith, eqb-false n 0 t)) in
      yields_field
      (λ d bd. yields_field
      (λ x bx. yields_field
      (λ y by. yields_field
      (λ z bz. yields-done
      (fits-coefficients q x y z _ (omega arith) (omega arith) (rw some bx) by bz (fits-field q 0 d _ (omega arith) (omega arith) (rw some bd) f)))))))

-- ---- scalefactors

yields-factor : {A : Type 0} {k : ℕ → Syntax A} {P : A → Type 0} → ((v : ℕ) → v < 63 → Yields (k v) P Any) → Yields (factor k) P Any
unfolding factor
yields-factor h = yields_field (λ v b. yields-cond (eqb v 63) (λ t. yields-refuse tt) (λ t. h v (omega (arith, eqb-false v 63 t))))

yields-lf_scalefactor : (lfe : ℕ) → Yields (lf_scalefactor lfe) (λ v. (v < 63) × (lfe ≡ 0 → v ≡ 0)) Any
unfolding lf_scalefactor
yields-lf_scalefactor lfe =
    yields-cond (eqb lfe 0) (λ t. yields-done (omega arith, λ e. refl))
    (λ t. yields-factor (λ v b. yields-done (b, λ e. absurd (eqb-false lfe 0 t e))))

module _ (steps : List ℕ) where
  abbrev threes : ℕ → ℕ
  threes j = factor_width (get_or steps (j / 3) 0)

  fits-factors : (code i : ℕ) (a : List ℕ) → i < 96 → eqb (get_or steps i 0) 0 ≡ false → Fits 288 threes a → Yields (factors_by code i a) (Fits 288 threes) Any
  unfolding factors_by
  fits-factors code i a h t f =
      let six : (j v : ℕ) → j / 3 ≡ i → v < 63 → v < 2 ^ threes j = λ j v e b. rw (e, t) (omega arith) in
      let put : (x y z : ℕ) → x < 63 → y < 63 → z < 63 → Yields (done (set3 a (3 * i) x y z)) (Fits 288 threes) Any =
      λ x y z bx by bz.
      yields-done (entries-set3 (3 * i) x y z (six (3 * i) x (omega arith) bx) (six (3 * i + 1) y (omega arith) by) (six (3 * i + 2) z (omega arith) bz) f)
      in
      yields-cond (eqb code 0) (λ _. yields-factor (λ x bx. yields-factor (λ y by. yields-factor (λ z bz. put _ _ _ (omega arith) (omega arith) (omega arith)))))
      (λ _. yields-cond (eqb code 1) (λ _. yields-factor (λ x bx. yields-factor (λ y by. put _ _ _ (omega arith) (omega arith) (omega arith))))
      (λ _. yields-cond (eqb code 2) (λ _. yields-factor (λ x bx. put _ _ _ (omega arith) (omega arith) (omega arith)))
      (λ _. yields-factor (λ x bx. yields-factor (λ y by. put _ _ _ (omega arith) (omega arith) (omega arith))))))

  fits-factors_at : (codes : List ℕ) (i : ℕ) (a : List ℕ) → i < 96 → Fits 288 threes a → Yields (factors_at steps codes i a) (Fits 288 threes) Any
  unfolding factors_at
  fits-factors_at codes i a h f =
      yields-cond (eqb (get_or steps i 0) 0) (λ t. yields-done f) (λ t. fits-factors (get_or codes i 0) i a h t f)

-- ---- granules

module _ (lfe : ℕ) (own : List ℕ) where
  abbrev codes : ℕ → ℕ
  codes j = granule_width lfe own (j % 289)

  -- code k of place i in a granule, and all three
  fits-code : {a : List ℕ} (i k v j : ℕ) → j % 289 ≡ suc (3 * i + k) → k < 3 → v < 2 ^ sample_width (get_or own i 0) k
      → Fits 3468 codes a → Fits 3468 codes (set a j v)
  fits-code i k v j e l h f =
      let d : (3 * i + k) / 3 ≡ i = omega arith in
      let m : (3 * i + k) % 3 ≡ k = omega arith in
      entries-set j v (rw (e, d, m) h) f

  fits-codes : {a : List ℕ} (i x y z j : ℕ) → j % 289 ≡ suc (3 * i) → i < 96 → x < 2 ^ sample_width (get_or own i 0) 0
      → y < 2 ^ sample_width (get_or own i 0) 1 → z < 2 ^ sample_width (get_or own i 0) 2 → Fits 3468 codes a → Fits 3468 codes (set3 a j x y z)
  unfolding set3
  fits-codes i x y z j e h bx by bz f =
      fits-code i 2 z (j + 2) (omega arith) (omega arith) bz
      (fits-code i 1 y (j + 1) (omega arith) (omega arith) by (fits-code i 0 x j (omega arith) (omega arith) bx f))

  fits-samples : (gr i : ℕ) (a : List ℕ) → gr < 12 → i < 96 → Fits 3468 codes a → Yields (samples_at own gr i a) (Fits 3468 codes) Any
  unfolding samples_at
  fits-samples gr i a hg h f =
      let n = get_or own i 0 in
      yields-cond (eqb n 0) (λ t. yields-done f)
      (λ t. yields-cond (grouped n)
      (λ g. yields_field (λ v b. yields-done (fits-code i 0 v _ (omega arith) (omega arith) (rw (t, g) b) f)))
      (λ g. yields_field (λ x bx. yields_field (λ y by. yields_field (λ z bz. yields-done
      (fits-codes i x y z _ (omega arith) h (rw (t, g) bx) (rw (t, g) by) (rw (t, g) bz) f))))))

  fits-granule : (gr : ℕ) (a : List ℕ) → gr < 12 → Fits 3468 codes a → Yields (granule_at lfe own gr a) (Fits 3468 codes) Any
  unfolding granule_at
  fits-granule gr a h f =
      let first : 289 * gr % 289 ≡ 0 = omega arith in
      yields_field (λ v b. yields-times 96 0 (λ _. Fits 3468 codes) (entries-set (289 * gr) v (rw first b) f)
      (λ i a l. fits-samples gr i a h (omega arith)))

-- ---- the payload

payload-fits : (layer3 : Bool) (lfe : ℕ) (predsi steps own : List ℕ) → Yields (payload layer3 lfe predsi steps own) (CodesFit lfe predsi steps own) Any
unfolding payload check_layer3 scfsi predictors scalefactors granules
payload-fits layer3 lfe predsi steps own =
    yields-weaken
    (yields_both (fits-loop 96 96 _ _ (fits-scfsi steps))
    (λ codes _. yields-cond layer3 (λ _. yields-refuse tt)
    (λ _. yields_both (fits-loop 192 48 _ _ (fits-predictor predsi))
    (λ _ _. yields_both (yields-lf_scalefactor lfe)
    (λ _ _. yields_both (fits-loop 288 96 _ _ (fits-factors_at steps codes)) (λ _ _. fits-loop 3468 12 _ _ (fits-granule lfe own)))))))
    (λ c f. record {
      scfsi = f.0;
      predictors = f.1.0;
      lf_scalefactor = f.1.1.0.0;
      no_lf_scalefactor = f.1.1.0.1;
      scalefactors = f.1.1.1.0;
      granules = f.1.1.1.1;
    })
    (λ x h. h)

-- under settings
abbrev pub Fitting : McSettings → Codes → Type 0
Fitting s = CodesFit s.lfe_allocation s.status.mc_prediction (steps_of s) (own_of s)

pub codes-fit : (s : McSettings) → Yields (payload_of s) (Fitting s) Any
unfolding payload_of
codes-fit s = payload-fits _ _ _ _ _
