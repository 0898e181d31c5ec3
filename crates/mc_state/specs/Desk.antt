-- The eight desks that take turns on one state, and their tallies of accepted frames.
use Rattle.std.specs.Prelude.{Bool, cond, List, ℕ, ◌+◌, leb, ltb, get_or, set}

-- 0 to 7; else refusal 14
abbrev pub desk_fits : ℕ → Bool
desk_fits desk = leb desk 7

-- the top of 32 bits
abbrev pub top : ℕ
top = 4294967295

-- a tally stays at the top
abbrev pub one_more : ℕ → ℕ
one_more n = cond (ltb n top) (n + 1) top

-- a desk's own
abbrev pub tally_at : List ℕ → ℕ → ℕ
tally_at tallies desk = get_or tallies desk 0

-- an accepted frame counts for its desk only
abbrev pub tallied : ℕ → List ℕ → List ℕ
tallied desk tallies = set tallies desk (one_more (tally_at tallies desk))
