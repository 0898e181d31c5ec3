-- What is said of a channel's values, a value as millionths, and a number's digits. Definitions only.
use Rattle.std.specs.Prelude.{ℕ, cond, List, from_bits, Float, fold, count_by}
use Rattle.std.specs.Float.{binary64}
use Rattle.std.specs.Float.Ieee.{neg, lt, ne, to_unsigned}
use Rattle.encoding.specs.Encoding.{hash_floats}
use Rattle.floats.specs.Binary64.{◌⊗◌, zero64}
use Rattle.frame_summary.specs.declared.summary.Summary.{Summary}

abbrev pub magnitude : Float → Float
magnitude x = cond (lt x zero64) (neg x) x

abbrev pub larger : Float → Float → Float
larger a b = cond (lt a b) b a

-- the largest magnitude, 0 of none
abbrev pub peak_of : List Float → Float
peak_of xs = fold (λ m x. larger m (magnitude x)) zero64 xs

-- how many values are not 0
abbrev pub nonzero_of : List Float → ℕ
nonzero_of xs = count_by (λ x. ne x zero64) xs

-- the hash begins as FNV-1a does
abbrev pub summary_of : List Float → Summary
summary_of xs = record { peak = peak_of xs; nonzero = nonzero_of xs; hash = hash_floats 0xCBF29CE484222325 xs }

-- the whole part of a value above -1 and below 2^64, else 0
abbrev pub whole_of : Float → ℕ
whole_of x = cond (lt (neg (from_bits binary64 0x3FF0000000000000)) x) (cond (lt x (from_bits binary64 0x43F0000000000000)) (to_unsigned 64 x) 0) 0

-- of the magnitude times 1000000, the product rounded once
abbrev pub millionths_of : Float → ℕ
millionths_of x = whole_of (magnitude x ⊗ from_bits binary64 0x412E848000000000)
