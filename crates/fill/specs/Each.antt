-- A test of the first numbers.
use Rattle.std.specs.Prelude.{Bool, ◌&&◌, ℕ, zero, suc}

-- the test holds of each of the first n numbers
unfoldable pub each : (ℕ → Bool) → ℕ → Bool
each test zero = Bool.true
each test (suc n) = each test n && test n
