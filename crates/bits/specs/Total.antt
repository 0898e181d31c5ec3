-- The sum of a number over the turns of a loop.
use Rattle.std.specs.Prelude.{ℕ, zero, suc, ◌+◌}

-- w i, .., w (i + n - 1) together
unfoldable pub total : ℕ → ℕ → (ℕ → ℕ) → ℕ
total zero i w = 0
total (suc n) i w = w i + total n (suc i) w
