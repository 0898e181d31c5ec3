-- The payload string, mc_audio_data() from the scfsi codes on (ISO/IEC 13818-3, 2.5.1.17), as one program of fields that yields codes.
use Rattle.std.specs.Prelude.{Bool, cond, List, ℕ, ◌+◌, ◌*◌, ◌/◌, ◌%◌, eqb, ltb, get_or, set, replicate}
use Rattle.bits.specs.Table.{set3}
use Rattle.bits.specs.Syntax.{Syntax, plain, done, refuse, field, both, times}
use Rattle.bitalloc.specs.Classes.{grouped, bits_per_codeword}
use Rattle.mc_fields.specs.Head.{bits_if, count_at}

-- what the payload holds, as read, and 0 where there is no field:
-- 96 scfsi codes by place; 192 by group and predictor, a delay and three coefficient bytes; the LFE scalefactor index;
-- 288 scalefactor indices, three to a place; 3468 by granule, an LFE code and three codes to a place, of which a group code is the first
abbrev pub Codes : Type 0
Codes = List ℕ × (List ℕ × (ℕ × (List ℕ × List ℕ)))

-- scfsi, by place, where the step count is not 0
unfoldable pub scfsi_at : List ℕ → ℕ → List ℕ → Syntax (List ℕ)
scfsi_at steps i a = cond (eqb (get_or steps i 0) 0) (done a) (field 2 (λ v. done (set a i v)))

unfoldable pub scfsi : List ℕ → Syntax (List ℕ)
scfsi steps = times 96 0 (scfsi_at steps) (replicate 96 0)

-- Layer III commentary, refusal 3
unfoldable pub check_layer3 : {A : Type 0} → Bool → Syntax A → Syntax A
check_layer3 layer3 rest = cond layer3 (refuse (plain 3)) rest

-- a predictor whose coefficient count is not 0: delay_comp, then so many of pred_coef
unfoldable pub predictor_at : List ℕ → ℕ → List ℕ → Syntax (List ℕ)
predictor_at predsi q a =
    let n = count_at predsi (q / 6) (q % 6) in
    cond (eqb n 0) (done a)
    (field 3
    (λ d. field 8
    (λ x. field (bits_if (ltb 1 n) 8)
    (λ y. field (bits_if (ltb 2 n) 8)
    (λ z. done (set3 (set a (4 * q) d) (4 * q + 1) x y z))))))

unfoldable pub predictors : List ℕ → Syntax (List ℕ)
predictors predsi = times 48 0 (predictor_at predsi) (replicate 192 0)

-- a scalefactor index: 63 is reserved, refusal 4
unfoldable pub factor : {A : Type 0} → (ℕ → Syntax A) → Syntax A
factor k = field 6 (λ v. cond (eqb v 63) (refuse (plain 4)) (k v))

unfoldable pub lf_scalefactor : ℕ → Syntax ℕ
lf_scalefactor lfe = cond (eqb lfe 0) (done 0) (factor (λ v. done v))

-- by scfsi: 0 three, 1 the first two shared, 2 all shared, 3 the last two shared
unfoldable pub factors_by : ℕ → ℕ → List ℕ → Syntax (List ℕ)
factors_by code i a =
    cond (eqb code 0) (factor (λ x. factor (λ y. factor (λ z. done (set3 a (3 * i) x y z)))))
    (cond (eqb code 1) (factor (λ x. factor (λ y. done (set3 a (3 * i) x x y))))
    (cond (eqb code 2) (factor (λ x. done (set3 a (3 * i) x x x)))
    (factor (λ x. factor (λ y. done (set3 a (3 * i) x y y))))))

unfoldable pub factors_at : List ℕ → List ℕ → ℕ → List ℕ → Syntax (List ℕ)
factors_at steps codes i a = cond (eqb (get_or steps i 0) 0) (done a) (factors_by (get_or codes i 0) i a)

unfoldable pub scalefactors : List ℕ → List ℕ → Syntax (List ℕ)
scalefactors steps codes = times 96 0 (factors_at steps codes) (replicate 288 0)

-- the samples of a place in a granule: one group code, or three codes
unfoldable pub samples_at : List ℕ → ℕ → ℕ → List ℕ → Syntax (List ℕ)
samples_at own gr i a =
    let n = get_or own i 0 in
    let j = 289 * gr + 1 + 3 * i in
    cond (eqb n 0) (done a)
    (cond (grouped n) (field (bits_per_codeword n) (λ v. done (set a j v)))
    (field (bits_per_codeword n)
    (λ x. field (bits_per_codeword n) (λ y. field (bits_per_codeword n) (λ z. done (set3 a j x y z))))))

-- a granule: the LFE code, allocation + 1 bits, then the samples
unfoldable pub granule_at : ℕ → List ℕ → ℕ → List ℕ → Syntax (List ℕ)
granule_at lfe own gr a = field (bits_if (ltb 0 lfe) (lfe + 1)) (λ v. times 96 0 (samples_at own gr) (set a (289 * gr) v))

unfoldable pub granules : ℕ → List ℕ → Syntax (List ℕ)
granules lfe own = times 12 0 (granule_at lfe own) (replicate 3468 0)

-- the whole payload: by the Layer III flag, the LFE allocation, the coefficient counts, the step counts, and those of samples in the payload
unfoldable pub payload : Bool → ℕ → List ℕ → List ℕ → List ℕ → Syntax Codes
payload layer3 lfe predsi steps own =
    both (scfsi steps)
    (λ codes. check_layer3 layer3
    (both (predictors predsi) (λ _. both (lf_scalefactor lfe) (λ _. both (scalefactors steps codes) (λ _. granules lfe own)))))
