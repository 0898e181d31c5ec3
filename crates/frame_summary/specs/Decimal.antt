-- A value as a decimal number, and a number's digits, as bytes of text. Definitions only.
use Rattle.std.specs.Prelude.{ℕ, zero, suc, ◌+◌, ◌/◌, ◌%◌, cond, List, [], ◌∷◌, ◌++◌, nat_lt, Float, codes}
use Rattle.std.specs.Float.Ieee.{lt}
use Rattle.std.specs.Fmt.{decimal}
use Rattle.floats.specs.Binary64.{zero64}
use Rattle.frame_summary.specs.Summary.{millionths_of}

-- the ASCII code of a digit below 16: `0` to `9`, then `a` to `f`
abbrev pub hex_digit_ascii : ℕ → ℕ
hex_digit_ascii d = cond (nat_lt d 10) (48 + d) (87 + d)

-- the last k digits of n in base b, the most significant first
abbrev pub last_digits : ℕ → ℕ → ℕ → List ℕ
last_digits b zero n = []
last_digits b (suc k) n = last_digits b k (n / b) ++ (hex_digit_ascii (n % b) ∷ [])

-- a sign, the whole part and six places of the value's millionths
abbrev pub decimal_of : Float → List ℕ
decimal_of x = cond (lt x zero64) (codes "-") [] ++ decimal (millionths_of x / 1000000) ++ codes "." ++ last_digits 10 6 (millionths_of x)
