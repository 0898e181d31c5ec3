-- The float literals of the source are whole numbers.
use mathlib.Core.Path.{◌≡◌, refl}
use lib.Ieee.{binary64, of_bits, of_int}
use Rattle.requant.specs.Requant.{whole}

pub literal-1 : of_bits binary64 4607182418800017408 ≡ whole 1
unfolding of_bits of_int
literal-1 = refl

pub literal-32 : of_bits binary64 4629700416936869888 ≡ whole 32
unfolding of_bits of_int
literal-32 = refl

pub literal-127 : of_bits binary64 4638637247447433216 ≡ whole 127
unfolding of_bits of_int
literal-127 = refl
