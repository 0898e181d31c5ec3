-- A list in an array of n entries, in which a filler follows the list.
use Rattle.std.specs.Prelude.{List, ◌++◌, ℕ, ◌-◌, length, replicate}

-- the list, and fillers up to n entries
abbrev pub padded : ℕ → ℕ → List ℕ → List ℕ
padded n filler xs = xs ++ replicate (n - length xs) filler
