-- Places of a buffer at equal distances, which one loop writes.
use Rattle.std.specs.Prelude.{List, ℕ, zero, suc, ◌+◌, ◌*◌, set}

module _ {A : Type 0} where
  -- d with n of its places at, at + step, at + 2 step, .. overwritten by f 0, f 1, f 2, ..
  unfoldable pub strided : ℕ → (ℕ → A) → ℕ → ℕ → List A → List A
  strided step f at zero d = d
  strided step f at (suc n) d = set (strided step f at n d) (at + step * n) (f n)
