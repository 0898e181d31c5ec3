-- Work, and the output by channel, slot and subband (ISO/IEC 13818-3, 2.5.3.2.1).
use Rattle.std.specs.Prelude.{Bool, ◌&&◌, cond, List, ℕ, ◌+◌, ◌-◌, ◌*◌, ◌/◌, ◌%◌, ltb, leb, Float, get_or, length}
use Rattle.std.specs.Float.{nan}
use Rattle.floats.specs.Binary64.{zero64}
use Rattle.fill.specs.Tab.{tab}
use Rattle.mc_config.specs.Config.{main_of, layout_of}
use Rattle.mc_config.specs.Groups.{sbgr_of}
use Rattle.mc_payload.specs.declared.McSettings.{McSettings}
use Rattle.mc_payload.specs.Places.{config, pair, msblimit}
use Rattle.mc_payload.specs.Record.{Record}
use Rattle.mc_base.specs.Base.{Base}
use Rattle.mc_predict.specs.Predict.{base_value, work_at}
use Rattle.mc_dematrix.specs.Dematrix.{dematrixed}

-- channel m, slot and subband at (36 m + slot) 32 + sb
unfoldable pub work_of : McSettings → Record → Base → List Float → List Float
work_of s r base history = tab (λ (k : ℕ). work_at s r base history (k / 1152) (k / 32 % 36) (k % 32)) 3456

-- main channel m as dematrixing takes it
abbrev pub main_at : McSettings → List Float → ℕ → ℕ → ℕ → Float
main_at s work m slot sb =
    cond (ltb m (main_of (pair s)) && ltb sb (msblimit s.rate)) (get_or work ((36 * m + slot) * 32 + sb) nan) zero64

abbrev pub mixed_at : McSettings → Base → List Float → ℕ → ℕ → List Float
mixed_at s base work slot sb =
    dematrixed (pair s) s.header.dematrix_procedure (get_or s.status.tc_allocation (sbgr_of sb) 0)
    (base_value s base 0 slot sb)
    (base_value s base 1 slot sb)
    (main_at s work 0 slot sb)
    (main_at s work 1 slot sb)
    (main_at s work 2 slot sb)

-- how many output channels there are
abbrev pub channels : McSettings → ℕ
channels s = length (layout_of (config s))

-- a second stereo programme takes the last two output channels below the subband limit, and is not dematrixed
abbrev pub second : McSettings → ℕ → ℕ → Bool
second s ch sb = (config s).second_stereo && (ltb sb (msblimit s.rate) && leb (channels s) (ch + 2))

-- output channel ch; +0 beyond the layout
unfoldable pub output_at : McSettings → Base → List Float → ℕ → ℕ → ℕ → Float
output_at s base work ch slot sb =
    cond (ltb ch (channels s))
    (cond (second s ch sb) (get_or work ((36 * (main_of (pair s) + (ch + 2 - channels s)) + slot) * 32 + sb) nan)
    (get_or (mixed_at s base work slot sb) ch zero64))
    zero64

-- channel ch, slot and subband at (36 ch + slot) 32 + sb
unfoldable pub output_of : McSettings → Base → List Float → List Float
output_of s base work = tab (λ (k : ℕ). output_at s base work (k / 1152) (k / 32 % 36) (k % 32)) 5760
