-- Sums over turns: their order, and when they are equal.
use Rattle.std.specs.Prelude.{◌≡◌, refl, ℕ, zero, suc, ◌+◌, ◌≤◌, ◌<◌}
use Rattle.std.proofs.Common.{arith}
use Rattle.bits.specs.Total.{total}

pub total-le : (n i : ℕ) (w w' : ℕ → ℕ) → ((j : ℕ) → j < i + n → w j ≤ w' j) → total n i w ≤ total n i w'
unfolding total
total-le zero i w w' h = omega arith
total-le (suc n) i w w' h = omega (arith, h i (omega arith), total-le n (suc i) w w' (λ j l. h j (omega arith)))

pub total-same : (n i : ℕ) (w w' : ℕ → ℕ) → ((j : ℕ) → j < i + n → w j ≡ w' j) → total n i w ≡ total n i w'
unfolding total
total-same zero i w w' h = refl
total-same (suc n) i w w' h = rw (h i (omega arith), total-same n (suc i) w w' (λ j l. h j (omega arith)))
