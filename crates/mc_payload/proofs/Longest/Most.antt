-- No payload uses more bits than one that sends three scalefactors at each place.
use Rattle.std.specs.Prelude.{cond, List, ℕ, ◌+◌, ◌/◌, ◌%◌, eqb, get_or}
use Rattle.bits.specs.Syntax.{Syntax}
use Rattle.bits.proofs.Width.{AtMost, most-done, most-refuse, most-cond}
use Rattle.bits.proofs.WidthTotal.{most-then, most-last, most-either, most-parts, most-total}
use Rattle.bitalloc.specs.Classes.{grouped}
use Rattle.mc_fields.specs.Head.{count_at}
use Rattle.mc_payload.specs.declared.McSettings.{McSettings}
use Rattle.mc_payload.specs.Payload.{scfsi_at, scfsi, check_layer3, predictor_at, predictors, factor, lf_scalefactor, factors_by, factors_at, scalefactors, samples_at, granule_at, granules, payload}
use Rattle.mc_payload.specs.Unpack.{payload_of}
use Rattle.mc_payload.specs.Longest.Bits.{scfsi_bits, factor_bits, predictor_bits, sample_bits, granule_bits, payload_bits}

most-scfsi : (steps : List ℕ) (i : ℕ) (a : List ℕ) → AtMost (scfsi_at steps i a) (scfsi_bits (get_or steps i 0))
unfolding scfsi_at
most-scfsi steps i a = most-either (eqb (get_or steps i 0) 0) most-done most-last

most-predictor : (predsi : List ℕ) (q : ℕ) (a : List ℕ) → AtMost (predictor_at predsi q a) (predictor_bits (count_at predsi (q / 6) (q % 6)))
unfolding predictor_at
most-predictor predsi q a =
    most-either (eqb (count_at predsi (q / 6) (q % 6)) 0) most-done (most-then (λ d _. most-then (λ x _. most-then (λ y _. most-last))))

most-factor : {A : Type 0} {k : ℕ → Syntax A} (w : ℕ) → ((v : ℕ) → AtMost (k v) w) → AtMost (factor k) (6 + w)
unfolding factor
most-factor w h = most-then (λ v _. most-cond (eqb v 63) most-refuse (h v))

most-lf_scalefactor : (lfe : ℕ) → AtMost (lf_scalefactor lfe) (cond (eqb lfe 0) 0 6)
unfolding lf_scalefactor
most-lf_scalefactor lfe = most-either (eqb lfe 0) most-done (most-factor 0 (λ v. most-done))

most-factors : (code i : ℕ) (a : List ℕ) → AtMost (factors_by code i a) 18
unfolding factors_by
most-factors code i a =
    most-cond (eqb code 0) (most-factor 12 (λ x. most-factor 6 (λ y. most-factor 0 (λ z. most-done))))
    (most-cond (eqb code 1) (most-factor 12 (λ x. most-factor 6 (λ y. most-done)))
    (most-cond (eqb code 2) (most-factor 12 (λ x. most-done)) (most-factor 12 (λ x. most-factor 6 (λ y. most-done)))))

most-factors_at : (steps codes : List ℕ) (i : ℕ) (a : List ℕ) → AtMost (factors_at steps codes i a) (factor_bits (get_or steps i 0))
unfolding factors_at
most-factors_at steps codes i a = most-either (eqb (get_or steps i 0) 0) most-done (most-factors (get_or codes i 0) i a)

most-samples : (own : List ℕ) (gr i : ℕ) (a : List ℕ) → AtMost (samples_at own gr i a) (sample_bits (get_or own i 0))
unfolding samples_at
most-samples own gr i a =
    most-either (eqb (get_or own i 0) 0) most-done
    (most-either (grouped (get_or own i 0)) most-last (most-then (λ x _. most-then (λ y _. most-last))))

most-granule : (lfe : ℕ) (own : List ℕ) (gr : ℕ) (a : List ℕ) → AtMost (granule_at lfe own gr a) (granule_bits lfe own)
unfolding granule_at
most-granule lfe own gr a = most-then (λ v _. most-total 96 0 _ (λ i. sample_bits (get_or own i 0)) (most-samples own gr))

pub payload-most : (s : McSettings) → AtMost (payload_of s) (payload_bits s)
unfolding payload_of payload_bits payload check_layer3 scfsi predictors scalefactors granules
payload-most s =
    most-parts (most-total 96 0 _ _ (most-scfsi _))
    (λ codes. most-cond s.header.multi_lingual_layer3 most-refuse
    (most-parts (most-total 48 0 _ _ (most-predictor _))
    (λ _. most-parts (most-lf_scalefactor _)
    (λ _. most-parts (most-total 96 0 _ _ (most-factors_at _ codes)) (λ _. most-total 12 0 _ _ (most-granule _ _))))))
