-- Three entries of a table stored in a row.
use Rattle.std.specs.Prelude.{List, ℕ, ◌+◌, set}

-- x, y and z at i and the two places after it
unfoldable pub set3 : List ℕ → ℕ → ℕ → ℕ → ℕ → List ℕ
set3 s i x y z = set (set (set s i x) (i + 1) y) (i + 2) z
