-- The values of codes: a class's samples, grouped codes, LFE samples, prediction coefficients. Definitions only.
-- Each operation on floats rounds once to an f64, in the order of the Rust.
use Rattle.std.specs.Prelude.{◌≡◌, false, cond, List, [], ◌∷◌, ℕ, ◌+◌, ◌-◌, ◌*◌, ◌/◌, ◌%◌, ◌^◌, ℤ, pos, ltb, Float, get_or}
use Rattle.std.specs.Int.Bits.{bit_xor}
use Rattle.std.specs.Float.{binary64}
use Rattle.std.specs.Float.Ieee.{minus, round, add, sub, mul, div, of_int}
use Rattle.tables.specs.Scalefactor.{scalefactor_of}
use Rattle.bitalloc.specs.declared.QuantClass.{QuantClass}
use Rattle.bitalloc.specs.Classes.{class_of}

-- a whole number as an f64
abbrev pub whole : ℕ → Float
whole n = of_int binary64 (pos n)

-- ---- ISO/IEC 11172-3, 2.4.3.3.4: a sample's code of n bits

-- "The first bit of each of the three codes has to be inverted"
abbrev pub inverted : ℕ → ℕ → ℕ
inverted n code = bit_xor code (2 ^ (n - 1))

-- n bits in two's complement: the first bit stands for -2 ^ (n - 1)
abbrev pub twos_complement : ℕ → ℕ → ℤ
twos_complement n x = cond (ltb x (2 ^ (n - 1))) (pos x) (minus x (2 ^ n))

-- "the resulting numbers should be regarded as two's complement fractional numbers, where the MSB represents the value -1"
unfoldable pub fraction : ℕ → ℕ → Float
unfolding div of_int
fraction n code = div binary64 (of_int binary64 (twos_complement n (inverted n code))) (whole (2 ^ (n - 1)))

-- s'' = C * (s''' + D)
unfoldable pub requantized : QuantClass → ℕ → Float
unfolding fraction add mul
requantized class code = mul binary64 class.c (add binary64 (fraction class.bits_per_sample code) class.d)

-- the raw value of a code of the class with this number of steps
abbrev pub raw_of : ℕ → ℕ → Float
raw_of steps code = requantized (class_of steps) code

-- ---- the same clause: the three samples of a grouped code c, s[i] = c % nlevels; c = c DIV nlevels
unfoldable pub degrouped : ℕ → ℕ → List ℕ
degrouped nlevels c = c % nlevels ∷ c / nlevels % nlevels ∷ c / nlevels / nlevels % nlevels ∷ []

-- what c is after that: the excess, which is 0 for a code below the cube of nlevels
unfoldable pub excess_of : ℕ → ℕ → ℕ
excess_of nlevels c = c / nlevels / nlevels / nlevels

-- the number that three digits write
unfoldable pub number_of : ℕ → List ℕ → ℕ
number_of nlevels digits = (get_or digits 2 0 * nlevels + get_or digits 1 0) * nlevels + get_or digits 0 0

-- any code, for any number of steps, is its digits' number and the cube of the steps times its excess
abbrev pub Whole : Type 0
Whole = (nlevels c : ℕ) → number_of nlevels (degrouped nlevels c) + nlevels ^ 3 * excess_of nlevels c ≡ c

-- ---- ISO/IEC 13818-3, 2.5.3.2.4: the low frequency enhancement channel, nb bits to a sample

-- 2 ^ nb / (2 ^ nb - 1)
unfoldable pub lfe_c : ℕ → Float
unfolding div sub of_int
lfe_c nb = div binary64 (whole (2 ^ nb)) (sub binary64 (whole (2 ^ nb)) (whole 1))

-- 2 ^ (1 - nb), which is exact
unfoldable pub lfe_d : ℕ → Float
unfolding round
lfe_d nb = round binary64 false 1 (2 ^ (nb - 1))

unfoldable pub lfe_of : ℕ → ℕ → Float
unfolding lfe_c lfe_d fraction add mul
lfe_of nb code = mul binary64 (lfe_c nb) (add binary64 (fraction nb code) (lfe_d nb))

-- under an allocation from 1 to 15 a sample has one bit more, and it is scaled
unfoldable pub lfe_sample_of : ℕ → ℕ → ℕ → Float
unfolding lfe_of mul scalefactor_of
lfe_sample_of allocation index code = mul binary64 (lfe_of (allocation + 1) code) (scalefactor_of index)

-- ---- ISO/IEC 13818-3, 2.5.3.2.1.3: a prediction coefficient, (byte - 127) / 32
unfoldable pub coefficient_of : ℕ → Float
unfolding div sub of_int
coefficient_of byte = div binary64 (sub binary64 (whole byte) (whole 127)) (whole 32)
