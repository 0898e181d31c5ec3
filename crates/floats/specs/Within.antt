-- A float that is finite and bounded in size, and a sum in order. Definitions only.
use Rattle.std.specs.Prelude.{List, [], ◌∷◌, ℕ, ◌*◌, ◌≤◌, Float}
use Rattle.std.specs.Float.{nan, inf, fin, binary64}
use Rattle.std.specs.Float.Ieee.{up, down, add}

-- x is finite, and p / c at most in size, whatever its sign: |x| is m * up e / down e
abbrev pub Within : Float → ℕ → ℕ → Type 0
Within nan p c = ⊥
Within (inf t) p c = ⊥
Within (fin t m e) p c = m * up e * c ≤ p * down e

-- each of the list
abbrev pub EachWithin : List Float → ℕ → ℕ → Type 0
EachWithin [] p c = Unit {0}
EachWithin (x ∷ xs) p c = Within x p c × EachWithin xs p c

-- a plus the first, plus the second, and so on, each sum rounded
abbrev pub fold : Float → List Float → Float
fold a [] = a
fold a (x ∷ xs) = fold (add binary64 a x) xs
