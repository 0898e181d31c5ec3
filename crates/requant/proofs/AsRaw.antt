-- The values of the standards are the raw formula of `floats`, c * ((code - 2 ^ (n - 1)) / 2 ^ (n - 1) + d).
use Rattle.std.specs.Prelude.{◌≡◌, ℕ, ◌-◌, ◌^◌, ◌≤◌, ◌<◌, ℤ, Float}
use Rattle.std.proofs.Common.{ap}
use Rattle.std.specs.Float.{binary64}
use Rattle.std.specs.Float.Ieee.{add, mul, div, of_int}
use Rattle.floats.specs.Raw.{centred, raw}
use Rattle.bitalloc.specs.declared.QuantClass.{QuantClass}
use Rattle.requant.specs.Requant.{whole, fraction, requantized, lfe_c, lfe_d, lfe_of}
use Rattle.requant.proofs.Flip.{inverted-minus}

pub fraction-centred : (n code : ℕ) → 1 ≤ n → code < 2 ^ n → fraction n code ≡ centred (n - 1) code
unfolding fraction centred
fraction-centred n code N K = ap (λ (v : ℤ). div binary64 (of_int binary64 v) (whole (2 ^ (n - 1)))) (inverted-minus n code N K)

pub requantized-raw : (class : QuantClass) (code : ℕ) → 1 ≤ class.bits_per_sample → code < 2 ^ class.bits_per_sample → requantized class code ≡ raw class.c class.d (class.bits_per_sample - 1) code
unfolding requantized raw
requantized-raw class code N K = ap (λ (x : Float). mul binary64 class.c (add binary64 x class.d)) (fraction-centred class.bits_per_sample code N K)

pub lfe-raw : (nb code : ℕ) → 1 ≤ nb → code < 2 ^ nb → lfe_of nb code ≡ raw (lfe_c nb) (lfe_d nb) (nb - 1) code
unfolding lfe_of raw
lfe-raw nb code N K = ap (λ (x : Float). mul binary64 (lfe_c nb) (add binary64 x (lfe_d nb))) (fraction-centred nb code N K)
