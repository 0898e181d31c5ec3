-- The f64 that a decimal number stands for. Definitions only.
use Rattle.std.specs.Prelude.{ℕ, ◌^◌, false, Float}
use Rattle.std.specs.Float.{binary64}
use Rattle.std.specs.Float.Ieee.{round}

-- the f64 nearest to m / 10 ^ e
abbrev pub decimal : ℕ → ℕ → Float
decimal e m = round binary64 false m (10 ^ e)
