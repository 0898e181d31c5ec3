-- Scaling as the code does it, by the tables of the places: place 3 sb + m is channel m in subband sb.
use Rattle.std.specs.Prelude.{◌≡◌, cond, List, ℕ, ◌+◌, ◌*◌, ◌/◌, ◌≤◌, ◌<◌, eqb, Float, get_or, length}
use Rattle.std.specs.Float.{nan}
use Rattle.fill.specs.Tab.{tab}
use Rattle.floats.specs.Binary64.{◌⊗◌, zero64}
use Rattle.tables.specs.Scalefactor.{scalefactor_of}
use Rattle.mc_crosstalk.specs.Crosstalk.{T, B}
use Rattle.mc_base.specs.Base.{chosen}
use Rattle.mc_scale.specs.Code.Column.{column_at, place_of, slot_of}

-- the factors, three to a place
unfoldable pub factors_of : List ℕ → List Float
factors_of scalefactor = tab (λ (i : ℕ). scalefactor_of (get_or scalefactor i 0)) 288

-- a slot of the values that src has from `from` on, times the factor of a place
abbrev pub times_factor : List Float → ℕ → List Float → ℕ → ℕ → Float
times_factor src from factors place slot = get_or src (from + 32 * slot) nan ⊗ get_or factors (3 * place + slot / 12) nan

-- a slot of a place whose source is given, and the base channel that it copies where that is B
abbrev pub unscaled_by : ℕ → ℕ → List Float → List Float → List Float → ℕ → ℕ → Float
unscaled_by source ch raw left right place slot =
    cond (eqb source T) (get_or raw (column_at place + 32 * slot) nan)
    (cond (eqb source B) (get_or (chosen ch left right) (place / 3 + 32 * slot) nan) (get_or raw (1152 * source + place / 3 + 32 * slot) nan))

-- the same scaled
abbrev pub scaled_from : ℕ → ℕ → List Float → List Float → List Float → List Float → ℕ → ℕ → Float
scaled_from source ch factors raw left right place slot = unscaled_by source ch raw left right place slot ⊗ get_or factors (3 * place + slot / 12) nan

-- a slot of a place, by the step counts, sources and base channels of all places; +0 where the step count is 0
abbrev pub place_scaled : List ℕ → List ℕ → List ℕ → List Float → List Float → List Float → List Float → ℕ → ℕ → Float
place_scaled steps source base factors raw left right i slot =
    cond (eqb (get_or steps i 0) 0) zero64 (scaled_from (get_or source i 0) (get_or base i 0) factors raw left right i slot)

-- sources are channels, T or B; a base channel that may be copied is there; scalefactor indices are below 63
pub record PlacesFit (source base scalefactor : List ℕ) (left right : List Float) : Type 0 where
  pub source_small : (i : ℕ) → i < 96 → get_or source i 0 ≤ 4
  pub base_long : (i : ℕ) → i < 96 → length (chosen (get_or base i 0) left right) ≡ 1152
  pub factor_listed : (i : ℕ) → i < 288 → get_or scalefactor i 0 < 63

-- the whole buffer
unfoldable pub scaled_by_place : List ℕ → List ℕ → List ℕ → List Float → List Float → List Float → List Float → List Float
scaled_by_place steps source base factors raw left right =
    tab (λ (k : ℕ). place_scaled steps source base factors raw left right (place_of k) (slot_of k)) 3456
