-- The raw value of a code k of h + 1 bits, c * ((k - 2 ^ h) / 2 ^ h + d), each operation rounded once to an f64. Definitions only.
use Rattle.std.specs.Prelude.{ℕ, ◌^◌, pos, Float}
use Rattle.std.specs.Float.{binary64}
use Rattle.std.specs.Float.Ieee.{minus, add, mul, div, of_int}

-- (k - 2 ^ h) / 2 ^ h
unfoldable pub centred : ℕ → ℕ → Float
unfolding div of_int
centred h k = div binary64 (of_int binary64 (minus k (2 ^ h))) (of_int binary64 (pos (2 ^ h)))

unfoldable pub shifted : Float → ℕ → ℕ → Float
unfolding centred add
shifted d h k = add binary64 (centred h k) d

unfoldable pub raw : Float → Float → ℕ → ℕ → Float
unfolding shifted mul
raw c d h k = mul binary64 c (shifted d h k)
