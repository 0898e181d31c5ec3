-- The history that the next frame predicts from (ISO/IEC 13818-3, 2.5.3.2.1.3). Definitions only.
use Rattle.std.specs.Prelude.{List, ℕ, ◌+◌, ◌/◌, ◌%◌, Float}
use Rattle.fill.specs.Tab.{tab}
use Rattle.mc_payload.specs.declared.McSettings.{McSettings}
use Rattle.mc_base.specs.Base.{Base}
use Rattle.mc_predict.specs.Predict.{base_value}

-- the last nine slots of the base, oldest first; one base channel in both places
unfoldable pub history_at : McSettings → Base → ℕ → Float
history_at s base i = base_value s base (i / 288) (27 + i % 9) (i % 288 / 9)

unfoldable pub history_of : McSettings → Base → List Float
history_of s base = tab (history_at s base) 576
