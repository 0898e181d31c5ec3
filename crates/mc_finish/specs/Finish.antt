-- What finishing takes: the record and the base as they are lent, the tables of the places, and what is asked of them.
use Rattle.std.specs.Prelude.{◌≡◌, cond, List, [], ℕ, ◌≤◌, ◌<◌, eqb, Float, length, get_or}
use Rattle.mc_payload.specs.declared.McSettings.{McSettings}
use Rattle.mc_payload.specs.Places.{steps_of, sources_of, bases_of}
use Rattle.mc_payload.specs.Record.{Record}
use Rattle.mc_base.specs.Base.{Base}

-- the record, but for the LFE samples and the excesses, which take no part
abbrev pub record_from : List Float → List ℕ → List (List ℕ) → List (List (List Float)) → Record
record_from raw scalefactor delay coef = record { raw = raw; scalefactor = scalefactor; delay = delay; coef = coef; lfe = []; excess = [] }

-- the tables are those of the settings
pub record Tables (s : McSettings) (steps source base : List ℕ) : Type 0 where
  pub steps_are : steps ≡ steps_of s
  pub source_are : source ≡ sources_of s
  pub base_are : base ≡ bases_of s

-- 1152 values to a channel, and none for a second channel that is not there
pub record BaseFits (s : McSettings) (b : Base) : Type 0 where
  pub raw_left_long : length b.raw_left ≡ 1152
  pub raw_right_long : length b.raw_right ≡ cond (eqb s.base_channels 1) 0 1152
  pub scaled_left_long : length b.scaled_left ≡ 1152
  pub scaled_right_long : length b.scaled_right ≡ cond (eqb s.base_channels 1) 0 1152

-- scalefactor indices below 63, and delays of three bits
pub record RecordFits (r : Record) : Type 0 where
  pub raw_long : length r.raw ≡ 3456
  pub listed : (i : ℕ) → i < 288 → get_or r.scalefactor i 0 < 63
  pub small : (g px : ℕ) → g < 8 → px < 6 → get_or (get_or r.delay g []) px 0 ≤ 7
