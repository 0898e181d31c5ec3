-- What a buffer holds in and after a loop that fills it: lists by their elements, and lists whose first elements were written.
use Rattle.std.specs.Prelude.{List, [], ◌∷◌, ◌++◌, ℕ, zero, suc, drop}

module _ {A : Type 0} where
  -- f 0, .., f (n - 1)
  unfoldable pub tab : (ℕ → A) → ℕ → List A
  tab f zero = []
  tab f (suc n) = tab f n ++ (f n ∷ [])

  -- d with its first n elements overwritten by f 0, .., f (n - 1)
  abbrev pub filled : (ℕ → A) → ℕ → List A → List A
  filled f n d = tab f n ++ drop n d
