-- The one column of a class that is a flag: 1 or 0, and 0 of a number of steps that is no class's. Definitions only.
use Rattle.std.specs.Prelude.{cond, ℕ}
use Rattle.bitalloc.specs.Classes.{grouped}

abbrev pub grouping_leaf : ℕ → ℕ
grouping_leaf steps = cond (grouped steps) 1 0
