-- The values are f64s: they are equal where their 64 bits are, by `floats`.
use Rattle.std.specs.Prelude.{ℕ, ◌+◌, T}
use Rattle.std.specs.Float.{binary64}
use Rattle.std.specs.Float.Ieee.{fits, add, sub}
use Rattle.std.specs.Float.Ieee.Fits.{mul-fits, div-fits}
use Rattle.tables.specs.Scalefactor.{scalefactor_of}
use Rattle.bitalloc.specs.declared.QuantClass.{QuantClass}
use Rattle.requant.specs.Requant.{whole, fraction, requantized, lfe_of, lfe_sample_of, coefficient_of}

pub requantized-fits : (class : QuantClass) (code : ℕ) → T (fits binary64 (requantized class code))
unfolding requantized
requantized-fits class code = mul-fits binary64 class.c (add binary64 (fraction class.bits_per_sample code) class.d)

pub lfe-sample-fits : (allocation index code : ℕ) → T (fits binary64 (lfe_sample_of allocation index code))
unfolding lfe_sample_of
lfe-sample-fits allocation index code = mul-fits binary64 (lfe_of (allocation + 1) code) (scalefactor_of index)

pub coefficient-fits : (byte : ℕ) → T (fits binary64 (coefficient_of byte))
unfolding coefficient_of
coefficient-fits byte = div-fits binary64 (sub binary64 (whole byte) (whole 127)) (whole 32)
