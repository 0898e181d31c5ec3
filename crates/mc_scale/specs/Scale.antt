-- Crosstalk and scaling (ISO/IEC 13818-3, 2.5.3.2.1.2 and 2.5.3.2.3): a channel's values, times its own scalefactors.
use Rattle.std.specs.Prelude.{cond, List, ℕ, ◌+◌, ◌*◌, ◌/◌, ◌%◌, eqb, Float, get_or}
use Rattle.std.specs.Float.{nan}
use Rattle.floats.specs.Binary64.{◌⊗◌, zero64}
use Rattle.fill.specs.Tab.{tab}
use Rattle.tables.specs.Scalefactor.{scalefactor_of}
use Rattle.mc_base.specs.Base.{Base, chosen}
use Rattle.mc_crosstalk.specs.Crosstalk.{T, B}
use Rattle.mc_payload.specs.declared.McSettings.{McSettings}
use Rattle.mc_payload.specs.Places.{source_at, base_at, steps_at}
use Rattle.mc_payload.specs.Record.{Record}

-- the raw value of channel m
abbrev pub raw_at : Record → ℕ → ℕ → ℕ → Float
raw_at r m slot sb = get_or r.raw ((36 * m + slot) * 32 + sb) nan

-- what channel m has or copies: its own raw value, a base channel's, or an earlier channel's
abbrev pub unscaled_from : McSettings → Record → Base → ℕ → ℕ → ℕ → ℕ → Float
unscaled_from s r base m slot sb source =
    cond (eqb source T) (raw_at r m slot sb)
    (cond (eqb source B) (get_or (chosen (base_at s m sb) base.raw_left base.raw_right) (32 * slot + sb) nan) (raw_at r source slot sb))

-- the factor of channel m in the third of the frame that the slot lies in
abbrev pub factor_at : Record → ℕ → ℕ → ℕ → Float
factor_at r m slot sb = scalefactor_of (get_or r.scalefactor (3 * (3 * sb + m) + slot / 12) 0)

-- the scaled value; +0 where the step count is 0
unfoldable pub scaled_at : McSettings → Record → Base → ℕ → ℕ → ℕ → Float
scaled_at s r base m slot sb =
    cond (eqb (steps_at s m sb) 0) zero64 (unscaled_from s r base m slot sb (source_at s m sb) ⊗ factor_at r m slot sb)

-- channel m, slot and subband at (36 m + slot) 32 + sb
unfoldable pub scaled_of : McSettings → Record → Base → List Float
scaled_of s r base = tab (λ (k : ℕ). scaled_at s r base (k / 1152) (k / 32 % 36) (k % 32)) 3456
