-- Under `longest_loan`: it may be lent, and the widths of a payload's fields come to 55,134 bits.
use Rattle.std.specs.Prelude.{◌≡◌, Bool, true, false, cond, ℕ, zero, suc, ◌+◌, ◌*◌, ◌/◌, ◌%◌, ◌<◌, ltb, get_or}
use Rattle.std.proofs.Math.Path.{refl}
use Rattle.std.proofs.Common.{sym, ap, ◌∙◌, lt-ltb, le-ltb}
use Rattle.std.proofs.Math.Bool.{and-true}
use Rattle.std.proofs.Math.Decide.{dec_lt}
use native.Mathlib.Omega.{arith}
use Rattle.bits.specs.Total.{total}
use Rattle.bits.proofs.TotalLaws.{total-same}
use Rattle.bits.proofs.Zeros.{zero-at}
use Rattle.fill.specs.Tab.{tab}
use Rattle.fill.proofs.TabLaws.{get_or-tab}
use Rattle.bitalloc.specs.Classes.{is_class, class_index, class_at}
use Rattle.mc_config.specs.Config.{config_of}
use Rattle.mc_config.specs.Groups.{sbgr_of}
use Rattle.mc_config.specs.Reading.{reading_fits}
use Rattle.mc_crosstalk.specs.Crosstalk.{T, sources_of, sources3}
use Rattle.mc_fields.specs.Head.{count_at}
use Rattle.mc_payload.specs.declared.McSettings.{McSettings}
use Rattle.mc_payload.specs.Places.{carried, source_at, transmitted, steps_at, own_at, steps_of, own_of}
use Rattle.fill.specs.Each.{each}
use Rattle.mc_payload.specs.Unpack.{settings_of, loan_fits, allocation_fits, allocations_fit}
use Rattle.mc_payload.proofs.Demand3.Accepted.{Lent, steps-at, own-at}
use Rattle.mc_payload.specs.Longest.{longest, longest_loan}
use Rattle.mc_payload.specs.Longest.Bits.{scfsi_bits, factor_bits, predictor_bits, sample_bits, payload_bits}
use Rattle.mc_payload.proofs.Longest.Sums.{ninety, ninety-scfsi, ninety-factors, ninety-samples, all-granules}

cond_same : (t : Bool) (n : ℕ) → cond t (cond t n 0) 0 ≡ cond t n 0
cond_same true n = refl
cond_same false n = refl

all-sent : (m : ℕ) → get_or (sources_of 32 0) m T ≡ T
unfolding sources_of sources3
all-sent zero = refl
all-sent (suc zero) = refl
all-sent (suc (suc zero)) = refl
all-sent (suc (suc (suc m))) = refl

class : is_class 65535 ≡ true
unfolding class_index
class = refl

each_all : (test : ℕ → Bool) (n : ℕ) → ((k : ℕ) → k < n → test k ≡ true) → each test n ≡ true
unfolding each
each_all test zero h = refl
each_all test (suc n) h = rw (each_all test n (λ k l. h k (omega arith)), h n (omega arith))

third : (i : ℕ) → ltb (i / 3) 30 ≡ ltb i 90
third i = go (dec_lt i 90)
  where
    go : Dec (i < 90) → ltb (i / 3) 30 ≡ ltb i 90
    go (yes h) = lt-ltb (i / 3) 30 (omega arith) ∙ sym (lt-ltb i 90 h)
    go (no h) = le-ltb (i / 3) 30 (omega arith) ∙ sym (le-ltb i 90 (omega arith))

-- three codes of 16 bits
sample-bits : sample_bits 65535 ≡ 48
unfolding class_index class_at
sample-bits = refl

-- a number of bits by step count, none where that is 0
bits-ninety : (bits : ℕ → ℕ) (w i n : ℕ) → bits 0 ≡ 0 → bits 65535 ≡ w → n ≡ ninety 65535 i → bits n ≡ ninety w i
bits-ninety bits w i n none all e = ap bits e ∙ go (ltb i 90)
  where
    go : (t : Bool) → bits (cond t 65535 0) ≡ cond t w 0
    go true = all
    go false = none

module _ (reading : ℕ) where
  abbrev s : McSettings
  s = settings_of (longest_loan reading)

  -- ---- step counts

  module _ (m sb : ℕ) (hm : m < 3) (hs : sb < 32) where
    lent-steps : get_or s.nb_steps (32 * m + sb) 0 ≡ cond (ltb sb 30) 65535 0
    unfolding settings_of longest_loan
    lent-steps =
        let e : (32 * m + sb) % 32 ≡ sb = omega arith in
        get_or-tab 0 _ 96 (32 * m + sb) (omega arith) ∙ (get_or-tab 0 _ 96 (32 * m + sb) (omega arith) ∙ rw e)

    carried-below : carried s m sb ≡ ltb sb 30
    unfolding carried settings_of longest_loan config_of
    carried-below = rw (lt-ltb m 3 hm) (and-true (ltb sb 30))

    sent : source_at s m sb ≡ T
    unfolding source_at settings_of longest_loan config_of
    sent = rw (lt-ltb m 3 hm, zero-at 24 (2 * sbgr_of sb)) (all-sent m)

    transmitted-below : transmitted s m sb ≡ ltb sb 30
    unfolding transmitted
    transmitted-below = rw (carried-below, sent) (and-true (ltb sb 30))

    steps-below : steps_at s m sb ≡ cond (ltb sb 30) 65535 0
    unfolding steps_at
    steps-below = rw (carried-below, sent, lent-steps) (cond_same (ltb sb 30) 65535)

    own_below : own_at s m sb ≡ cond (ltb sb 30) 65535 0
    unfolding own_at
    own_below = rw (transmitted-below, lent-steps) (cond_same (ltb sb 30) 65535)

  -- ---- the loan and its allocations fit

  allocation-fits : (k : ℕ) → k < 96 → allocation_fits s k ≡ true
  allocation-fits k h =
      let at : 32 * (k / 32) + k % 32 ≡ k = omega arith in
      go (ltb (k % 32) 30) (rw at at (lent-steps (k / 32) (k % 32) (omega arith) (omega arith))) (transmitted-below (k / 32) (k % 32) (omega arith) (omega arith))
    where
      go : (t : Bool) → get_or s.nb_steps k 0 ≡ cond t 65535 0 → transmitted s (k / 32) (k % 32) ≡ t → allocation_fits s k ≡ true
      go true e sent = rw (e, sent, class)
      go false e sent = rw e

  pub longest-allocated : allocations_fit s ≡ true
  unfolding allocations_fit settings_of longest_loan
  longest-allocated = rw (each_all (allocation_fits s) 96 allocation-fits)

  pub longest-lent : reading_fits reading ≡ true → Lent (longest_loan reading)
  unfolding loan_fits longest_loan each tab
  longest-lent fits = rw fits

  -- ---- the number of bits

  module _ (i : ℕ) (h : i < 96) where
    steps-ninety : get_or (steps_of s) i 0 ≡ ninety 65535 i
    steps-ninety = steps-at s i h ∙ (steps-below (i % 3) (i / 3) (omega arith) (omega arith) ∙ rw (third i))

    own-ninety : get_or (own_of s) i 0 ≡ ninety 65535 i
    own-ninety = own-at s i h ∙ (own_below (i % 3) (i / 3) (omega arith) (omega arith) ∙ rw (third i))

  scfsi-bits : total 96 0 (λ i. scfsi_bits (get_or (steps_of s) i 0)) ≡ 180
  scfsi-bits = total-same 96 0 _ (ninety 2) (λ i h. bits-ninety scfsi_bits 2 i _ refl refl (steps-ninety i (omega arith))) ∙ ninety-scfsi

  factor-bits : total 96 0 (λ i. factor_bits (get_or (steps_of s) i 0)) ≡ 1620
  factor-bits = total-same 96 0 _ (ninety 18) (λ i h. bits-ninety factor_bits 18 i _ refl refl (steps-ninety i (omega arith))) ∙ ninety-factors

  samples-bits : total 96 0 (λ i. sample_bits (get_or (own_of s) i 0)) ≡ 4320
  samples-bits = total-same 96 0 _ (ninety 48) (λ i h. bits-ninety sample_bits 48 i _ refl sample-bits (own-ninety i (omega arith))) ∙ ninety-samples

  predictor-bits : total 48 0 (λ q. predictor_bits (count_at s.status.mc_prediction (q / 6) (q % 6))) ≡ 1296
  unfolding total settings_of longest_loan tab
  predictor-bits = refl

  pub longest-bits : payload_bits s ≡ longest
  unfolding payload_bits settings_of longest_loan
  longest-bits = rw (scfsi-bits, predictor-bits, factor-bits, samples-bits, all-granules)
