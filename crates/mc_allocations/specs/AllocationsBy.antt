-- The allocations as the code tests them: each transmitted step count beside that of the samples in its place.
use Rattle.std.specs.Prelude.{Bool, not, ◌&&◌, ◌||◌, List, ℕ, ◌+◌, ◌*◌, ◌/◌, ◌%◌, eqb, get_or}
use Rattle.bitalloc.specs.Classes.{is_class}

-- a transmitted step count beside that of the samples in its place
unfoldable pub allocation_by : ℕ → ℕ → Bool
allocation_by n own = eqb n 0 || (is_class n && not (eqb own 0))

-- all 96, channel and subband at k, place at 3 sb + m
abbrev pub allocation_at : List ℕ → List ℕ → ℕ → Bool
allocation_at steps own k = allocation_by (get_or steps k 0) (get_or own (3 * (k % 32) + k / 32) 0)
