-- The history as the code makes it, from the base channels that stand for both: a line of nine for each channel and subband.
use Rattle.std.specs.Prelude.{List, ℕ, ◌+◌, ◌*◌, ◌/◌, ◌%◌, Float, get_or}
use Rattle.std.specs.Float.{nan}
use Rattle.mc_base.specs.Base.{chosen}

-- slot 27 + k of a subband
abbrev pub line_by : List Float → ℕ → ℕ → Float
line_by base sb k = get_or base (32 * (27 + k) + sb) nan

abbrev pub history_by : List Float → List Float → ℕ → Float
history_by left right i = get_or (chosen (i / 288) left right) (32 * (27 + i % 9) + i % 288 / 9) nan
