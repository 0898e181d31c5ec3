-- Under any loan that is accepted a payload has at most 55,134 bits.
use Rattle.std.specs.Prelude.{◌≡◌, refl, Bool, true, false, ◌&&◌, cond, eqb, ltb}
use Rattle.std.proofs.Common.{◌∙◌, le_trans, arith, ltb-false, le-ltb, eq-eqb, ne_eqb}
use Prim.Native.Nat.{ℕ, ◌+◌, ◌/◌, ◌%◌, ◌≤◌, ◌<◌}
use Rattle.std.proofs.Math.Decide.{ℕ_discrete}
use Rattle.std.proofs.Math.ListN.{get_or}
use Rattle.bits.proofs.TotalLaws.{total-le}
use Rattle.bitalloc.specs.Classes.{is_class, grouped, bits_per_codeword}
use Rattle.bitalloc.proofs.Rules.{steps-rules}
use Rattle.mc_fields.specs.Head.{bits_if, count_at}
use Rattle.mc_payload.specs.declared.McSettings.{McSettings}
use Rattle.mc_payload.specs.Places.{msblimit, config, carried, transmitted, steps_at, own_at, steps_of, own_of}
use Rattle.mc_payload.specs.Unpack.{allocations_fit}
use Rattle.mc_payload.proofs.Demand3.Accepted.{steps-at, own-at, own-class}
use Rattle.mc_payload.proofs.Demand3.Values.{is-class}
use Rattle.mc_payload.specs.Longest.Bits.{scfsi_bits, factor_bits, predictor_bits, sample_bits, granule_bits, payload_bits}
use Rattle.mc_payload.proofs.Longest.Sums.{ninety, ninety-scfsi, ninety-factors, ninety-samples, all-predictors, all-granules}

-- ---- places from 90 on, subbands from 30 on, carry nothing

and-false : (t : Bool) → (t && false) ≡ false
and-false true = refl
and-false false = refl

pub carried_none : (s : McSettings) (m sb : ℕ) → 30 ≤ sb → carried s m sb ≡ false
unfolding carried
carried_none s m sb h = rw (le-ltb sb (msblimit s.rate) (low (eqb s.rate 48000))) (and-false (ltb m (config s).nmch))
  where
    low : (t : Bool) → cond t 27 30 ≤ sb
    low true = omega arith
    low false = h

module _ (s : McSettings) (i : ℕ) (h : i < 96) (past : 90 ≤ i) where
  none : carried s (i % 3) (i / 3) ≡ false
  none = carried_none s (i % 3) (i / 3) (omega arith)

  steps-none : get_or (steps_of s) i 0 ≡ 0
  unfolding steps_at
  steps-none = steps-at s i h ∙ rw none

  own-none : get_or (own_of s) i 0 ≡ 0
  unfolding own_at transmitted
  own-none = own-at s i h ∙ rw none

-- ---- each sum

-- w bits where the step count n is not 0
ninety-place : (n w i : ℕ) → (90 ≤ i → n ≡ 0) → cond (eqb n 0) 0 w ≤ ninety w i
ninety-place n w i h = go (ltb i 90) (eqb n 0) (λ e. eq-eqb n 0 (h (ltb-false i 90 e)))
  where
    go : (t z : Bool) → (t ≡ false → z ≡ true) → cond z 0 w ≤ cond t w 0
    go true true f = omega arith
    go true false f = omega arith
    go false true f = omega arith
    go false false f = let e = f refl in let z : ◌≡◌ {A = ℕ} 0 1 = cc in absurd (omega arith)

-- at most 48 bits in a granule
samples-most : (n : ℕ) → ((n ≡ 0 → ⊥) → is_class n ≡ true) → sample_bits n ≤ cond (eqb n 0) 0 48
samples-most n class = go (ℕ_discrete n 0)
  where
    either : (t : Bool) (w : ℕ) → w ≤ 16 → cond t w (w + (w + w)) ≤ 48
    either true w h = omega arith
    either false w h = omega arith

    go : Dec (n ≡ 0) → sample_bits n ≤ cond (eqb n 0) 0 48
    go (yes e) = rw (eq-eqb n 0 e) (omega arith)
    go (no e) = rw (ne_eqb n 0 e) (either (grouped n) (bits_per_codeword n) (steps-rules n (is-class n (class e))).codeword-high)

predictor-most : (n : ℕ) → predictor_bits n ≤ 27
predictor-most n = go (eqb n 0) (ltb 1 n) (ltb 2 n)
  where
    go : (t x y : Bool) → cond t 0 (3 + (8 + (bits_if x 8 + bits_if y 8))) ≤ 27
    go true x y = omega arith
    go false true true = omega arith
    go false true false = omega arith
    go false false true = omega arith
    go false false false = omega arith

lfe-most : (lfe : ℕ) → lfe ≤ 15 → bits_if (ltb 0 lfe) (lfe + 1) ≤ 16
lfe-most lfe h = go (ltb 0 lfe)
  where
    go : (t : Bool) → bits_if t (lfe + 1) ≤ 16
    go true = omega arith
    go false = omega arith

lf_scalefactor-most : (t : Bool) → cond t 0 6 ≤ 6
lf_scalefactor-most true = omega arith
lf_scalefactor-most false = omega arith

-- ---- the payload

module _ (s : McSettings) (fit : allocations_fit s ≡ true) (low : s.lfe_allocation ≤ 15) where
  abbrev lfe : ℕ
  lfe = s.lfe_allocation

  place-most : (i : ℕ) → i < 96 → sample_bits (get_or (own_of s) i 0) ≤ ninety 48 i
  place-most i h =
      le_trans (samples-most (get_or (own_of s) i 0) (rw (own-at s i h) (own-class s (i % 3) (i / 3) fit (omega arith) (omega arith)))) (ninety-place _ 48 i (own-none s i h))

  granule-most : granule_bits lfe (own_of s) ≤ 4336
  granule-most =
      let samples = rw ninety-samples at (total-le 96 0 (λ i. sample_bits (get_or (own_of s) i 0)) (ninety 48) (λ i h. place-most i (omega arith))) in
      omega (arith, lfe-most lfe low)

  pub payload-bound : payload_bits s ≤ 55134
  unfolding payload_bits
  payload-bound =
      let steps : ℕ → ℕ = λ i. get_or (steps_of s) i 0 in
      let counts : ℕ → ℕ = λ q. count_at s.status.mc_prediction (q / 6) (q % 6) in
      let scfsi = rw ninety-scfsi at (total-le 96 0 (λ i. scfsi_bits (steps i)) (ninety 2) (λ i h. ninety-place (steps i) 2 i (steps-none s i (omega arith)))) in
      let predictors = rw all-predictors at (total-le 48 0 (λ q. predictor_bits (counts q)) (λ _. 27) (λ q h. predictor-most (counts q))) in
      let factors = rw ninety-factors at (total-le 96 0 (λ i. factor_bits (steps i)) (ninety 18) (λ i h. ninety-place (steps i) 18 i (steps-none s i (omega arith)))) in
      let granules = rw all-granules at (total-le 12 0 (λ _. granule_bits lfe (own_of s)) (λ _. 4336) (λ gr h. granule-most)) in
      omega (arith, lf_scalefactor-most (eqb lfe 0))
