-- What a state holds of the layout, and which frames may follow on it. It holds a count of channels, 0 for nothing, and the layout by number, 0 where only
-- the count is known.
use Rattle.std.specs.Prelude.{Bool, ◌&&◌, ◌||◌, cond, List, ◌++◌, ℕ, ◌+◌, ◌*◌, ◌/◌, ◌%◌, eqb, leb, length}
use Rattle.mc_config.specs.Config.{surround_of, config_of, front_channels, surround_channels}
use Rattle.mc_config.specs.Reading.{by_reading}
use Rattle.mc_config.specs.declared.McHeader.{McHeader}
use Rattle.mc_payload.specs.declared.McSettings.{McSettings}
use Rattle.mc_output.specs.Output.{channels}

-- ---- layouts by number: 10 times the front, and the surround code, of which 3 is a second stereo programme

-- fronts 1 to 3, codes 0 to 3
abbrev pub is_layout : ℕ → Bool
is_layout n = leb 10 n && (leb n 33 && leb (n % 10) 3)

-- the output channels in order, by front and surround code
abbrev pub channels_by : ℕ → ℕ → List ℕ
channels_by front surround = front_channels front ++ surround_channels (surround_of surround) (eqb surround 3)

abbrev pub layout_at : ℕ → List ℕ
layout_at n = channels_by (n / 10) (n % 10)

-- of a header over one or two base channels
abbrev pub layout_by : McHeader → ℕ → ℕ
layout_by h base_channels = 10 * (config_of h base_channels).front + h.surround

-- of a frame
abbrev pub layout_for : McSettings → ℕ
layout_for s = layout_by s.header s.base_channels

-- ---- what is held

-- a count of at most five, and no layout or one of that count; else refusal 6
abbrev pub held_fits : ℕ → ℕ → Bool
held_fits count layout = leb count 5 && (eqb layout 0 || (is_layout layout && eqb count (length (layout_at layout))))

-- a frame of n channels and the layout `own` has the layout that is held, or, where that is not known, its count
abbrev pub same_layout : ℕ → ℕ → ℕ → ℕ → Bool
same_layout count layout n own = cond (eqb layout 0) (eqb count n) (eqb layout own)

-- it may follow where nothing is held; else reading 1 compares counts, and reading 2 the layout
abbrev pub follows_by : ℕ → ℕ → ℕ → ℕ → ℕ → Bool
follows_by reading count layout n own = eqb count 0 || by_reading reading (eqb count n) (same_layout count layout n own)

-- else refusal 5
unfoldable pub follows : ℕ → ℕ → McSettings → Bool
follows count layout s = follows_by s.reading count layout (channels s) (layout_for s)

-- the layout that is held after an accepted frame: reading 1 leaves it, reading 2 stores the frame's
abbrev pub layout_after : ℕ → ℕ → ℕ → ℕ
layout_after reading layout own = by_reading reading layout own
