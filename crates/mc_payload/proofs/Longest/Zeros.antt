-- A payload of zeros is accepted and sends three scalefactors at each place.
use Rattle.std.specs.Prelude.{◌≡◌, refl, false, cond, List, ℕ, ◌+◌, ◌/◌, ◌%◌, ◌<◌, eqb, get_or}
use Rattle.bits.specs.Syntax.{Syntax}
use Rattle.bits.proofs.Entries.{Entries, entries-zero, entries-set}
use Rattle.bits.proofs.Zeros.{OnZeros, zeros-done, zeros-field, zeros-last, zeros-either, zeros-both, zeros-total}
use Rattle.bitalloc.specs.Classes.{grouped}
use Rattle.mc_fields.specs.Head.{count_at}
use Rattle.mc_payload.specs.declared.McSettings.{McSettings}
use Rattle.mc_payload.specs.Payload.{scfsi_at, scfsi, check_layer3, predictor_at, predictors, factor, lf_scalefactor, factors_by, factors_at, scalefactors, samples_at, granule_at, granules, payload}
use Rattle.mc_payload.specs.Unpack.{payload_of}
use Rattle.mc_payload.specs.Longest.Bits.{scfsi_bits, factor_bits, predictor_bits, sample_bits, granule_bits, payload_bits}

-- codes that are all 0, and any value
abbrev Blank : List ℕ → Type 0
Blank a = Entries 96 (λ _ v. v ≡ 0) a

abbrev pub Anything : {A : Type 0} → A → Type 0
Anything a = Unit {0}

zeros-scfsi : (steps : List ℕ) (i : ℕ) (a : List ℕ) → i < 96 → Blank a → OnZeros (scfsi_at steps i a) (scfsi_bits (get_or steps i 0)) Blank
unfolding scfsi_at
zeros-scfsi steps i a h z = zeros-either (eqb (get_or steps i 0) 0) (λ t. zeros-done z) (λ t. zeros-last (entries-set i 0 refl z))

zeros-predictor : (predsi : List ℕ) (q : ℕ) (a : List ℕ) → q < 48 → Anything a
    → OnZeros (predictor_at predsi q a) (predictor_bits (count_at predsi (q / 6) (q % 6))) Anything
unfolding predictor_at
zeros-predictor predsi q a h z =
    zeros-either (eqb (count_at predsi (q / 6) (q % 6)) 0) (λ t. zeros-done tt) (λ t. zeros-field (zeros-field (zeros-field (zeros-last tt))))

zeros-factor : {A : Type 0} {k : ℕ → Syntax A} {P : A → Type 0} (w : ℕ) → ((v : ℕ) → OnZeros (k v) w P) → OnZeros (factor k) (6 + w) P
unfolding factor
zeros-factor w h = zeros-field (h 0)

zeros-lf_scalefactor : (lfe : ℕ) → OnZeros (lf_scalefactor lfe) (cond (eqb lfe 0) 0 6) Anything
unfolding lf_scalefactor
zeros-lf_scalefactor lfe = zeros-either (eqb lfe 0) (λ t. zeros-done tt) (λ t. zeros-factor 0 (λ v. zeros-done tt))

zeros-factors : (i : ℕ) (a : List ℕ) → OnZeros (factors_by 0 i a) 18 Anything
unfolding factors_by
zeros-factors i a = zeros-factor 12 (λ x. zeros-factor 6 (λ y. zeros-factor 0 (λ z. zeros-done tt)))

zeros-factors_at : (steps codes : List ℕ) → Blank codes → (i : ℕ) (a : List ℕ) → i < 96 → Anything a
    → OnZeros (factors_at steps codes i a) (factor_bits (get_or steps i 0)) Anything
unfolding factors_at
zeros-factors_at steps codes z i a h _ = zeros-either (eqb (get_or steps i 0) 0) (λ t. zeros-done tt) (λ t. rw (z.entry i) (zeros-factors i a))

zeros-samples : (own : List ℕ) (gr i : ℕ) (a : List ℕ) → i < 96 → Anything a → OnZeros (samples_at own gr i a) (sample_bits (get_or own i 0)) Anything
unfolding samples_at
zeros-samples own gr i a h z =
    zeros-either (eqb (get_or own i 0) 0) (λ t. zeros-done tt)
    (λ t. zeros-either (grouped (get_or own i 0)) (λ g. zeros-last tt) (λ g. zeros-field (zeros-field (zeros-last tt))))

zeros-granule : (lfe : ℕ) (own : List ℕ) (gr : ℕ) (a : List ℕ) → gr < 12 → Anything a → OnZeros (granule_at lfe own gr a) (granule_bits lfe own) Anything
unfolding granule_at
zeros-granule lfe own gr a h z = zeros-field (zeros-total 96 0 _ (λ i. sample_bits (get_or own i 0)) tt (zeros-samples own gr))

pub payload-zeros : (s : McSettings) → s.header.multi_lingual_layer3 ≡ false → OnZeros (payload_of s) (payload_bits s) Anything
unfolding payload_of payload_bits payload check_layer3 scfsi predictors scalefactors granules
payload-zeros s off =
    zeros-both (zeros-total 96 0 _ _ (entries-zero 96 (λ _. refl)) (zeros-scfsi _))
    (λ codes z. rw off (zeros-both (zeros-total 48 0 _ _ tt (zeros-predictor _))
    (λ _ _. zeros-both (zeros-lf_scalefactor _)
    (λ _ _. zeros-both (zeros-total 96 0 _ _ tt (zeros-factors_at _ codes z)) (λ _ _. zeros-total 12 0 _ _ tt (zeros-granule _ _))))))
