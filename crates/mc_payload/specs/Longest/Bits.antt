-- How long a payload can be under given settings: the sum of its fields' widths where it sends three scalefactors at each place.
use Rattle.std.specs.Prelude.{cond, List, ℕ, ◌+◌, ◌/◌, ◌%◌, eqb, ltb, get_or}
use Rattle.bits.specs.Total.{total}
use Rattle.bitalloc.specs.Classes.{grouped, bits_per_codeword}
use Rattle.mc_fields.specs.Head.{bits_if, count_at}
use Rattle.mc_payload.specs.declared.McSettings.{McSettings}
use Rattle.mc_payload.specs.Places.{steps_of, own_of}

-- the scfsi code, and three scalefactors, of a place with n steps
abbrev pub scfsi_bits : ℕ → ℕ
scfsi_bits n = cond (eqb n 0) 0 2

abbrev pub factor_bits : ℕ → ℕ
factor_bits n = cond (eqb n 0) 0 18

-- a predictor with n coefficients
abbrev pub predictor_bits : ℕ → ℕ
predictor_bits n = cond (eqb n 0) 0 (3 + (8 + (bits_if (ltb 1 n) 8 + bits_if (ltb 2 n) 8)))

-- the samples of a place with n steps in a granule
abbrev pub sample_bits : ℕ → ℕ
sample_bits n = cond (eqb n 0) 0 (cond (grouped n) (bits_per_codeword n) (bits_per_codeword n + (bits_per_codeword n + bits_per_codeword n)))

abbrev pub granule_bits : ℕ → List ℕ → ℕ
granule_bits lfe own = bits_if (ltb 0 lfe) (lfe + 1) + total 96 0 (λ i. sample_bits (get_or own i 0))

unfoldable pub payload_bits : McSettings → ℕ
payload_bits s =
    total 96 0 (λ i. scfsi_bits (get_or (steps_of s) i 0))
    + (total 48 0 (λ q. predictor_bits (count_at s.status.mc_prediction (q / 6) (q % 6)))
    + (cond (eqb s.lfe_allocation 0) 0 6
    + (total 96 0 (λ i. factor_bits (get_or (steps_of s) i 0)) + total 12 0 (λ _. granule_bits s.lfe_allocation (own_of s)))))
