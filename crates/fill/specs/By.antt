-- A list whose elements are results for their indices.
use Rattle.std.specs.Prelude.{List, ℕ, ◌<◌, get_or}

-- each of the first n elements is a result for its index
pub record FilledBy {A : Type 0} (gives : ℕ → A → Type 0) (list : List A) (n : ℕ) : Type 0 where
  pub each : (k : ℕ) → k < n → (z : A) → gives k (get_or list k z)
