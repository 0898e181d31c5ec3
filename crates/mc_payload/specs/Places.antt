-- Which channels and subbands the extension carries, where each takes its step count and samples from, and the step counts (ISO/IEC 13818-3, 2.5.2.13, 2.5.2.15 and 2.5.2.17).
use Rattle.std.specs.Prelude.{Bool, not, ◌&&◌, cond, List, ℕ, ◌+◌, ◌*◌, ◌/◌, ◌%◌, eqb, ltb, leb, get_or}
use Rattle.fill.specs.Tab.{tab}
use Rattle.mc_crosstalk.specs.Crosstalk
use Rattle.mc_config.specs.declared.McConfig.{McConfig}
use Rattle.mc_config.specs.Config.{config_of, pair_of, main_of}
use Rattle.mc_config.specs.Groups.{sbgr_of}
use Rattle.mc_config.specs.Reading.{phantom_of}
use Rattle.mc_crosstalk.specs.Crosstalk.{T, B}
use Rattle.mc_roles.specs.Roles.{base_of}
use Rattle.mc_fields.specs.Head.{mode_at, second_at}
use Rattle.mc_payload.specs.declared.McSettings.{McSettings}

abbrev pub config : McSettings → McConfig
config s = config_of s.header s.base_channels

abbrev pub pair : McSettings → ℕ
pair s = pair_of (config s)

-- subbands from here on carry nothing (msblimit, 2.5.2.17)
abbrev pub msblimit : ℕ → ℕ
msblimit rate = cond (eqb rate 48000) 27 30

-- a phantom centre has no subbands from here on (2.5.2.13)
abbrev pub phantom_limit : ℕ
phantom_limit = 12

-- that limit bars the first channel of the extension, where the reading has it do so
abbrev pub limited : McSettings → ℕ → ℕ → Bool
limited s m sb = phantom_of s.reading (config s) && (eqb m 0 && leb phantom_limit sb)

-- channel m is there in subband sb; the phantom centre's bar stands before crosstalk
unfoldable pub carried : McSettings → ℕ → ℕ → Bool
carried s m sb = ltb m (config s).nmch && (ltb sb (msblimit s.rate) && not (limited s m sb))

-- where channel m takes its step count and samples from: a main channel by its group's code, and the second channel of a second stereo programme
-- from its first where its group's bit is set
unfoldable pub source_at : McSettings → ℕ → ℕ → ℕ
source_at s m sb =
    let cross = s.status.dyn_cross in
    let main = main_of (pair s) in
    cond (ltb m main) (get_or (Crosstalk.sources_of (pair s) (mode_at cross (sbgr_of sb))) m T)
    (cond (eqb m (main + 1) && eqb (second_at cross (sbgr_of sb)) 1) main T)

-- its own step count and samples are transmitted
unfoldable pub transmitted : McSettings → ℕ → ℕ → Bool
transmitted s m sb = carried s m sb && eqb (source_at s m sb) T

-- the base channel that channel m copies where its source is B
unfoldable pub base_at : McSettings → ℕ → ℕ → ℕ
base_at s m sb = base_of (pair s) (get_or s.status.tc_allocation (sbgr_of sb) 0) m s.status.dyn_cross_lr s.base_channels

-- the step count of a source
abbrev pub steps_from : McSettings → ℕ → ℕ → ℕ → ℕ
steps_from s m sb source =
    cond (eqb source T) (get_or s.nb_steps (32 * m + sb) 0)
    (cond (eqb source B) (get_or s.base_nb_steps (32 * base_at s m sb + sb) 0) (get_or s.nb_steps (32 * source + sb) 0))

-- a crossed channel takes its source's step count
unfoldable pub steps_at : McSettings → ℕ → ℕ → ℕ
steps_at s m sb = cond (carried s m sb) (steps_from s m sb (source_at s m sb)) 0

-- the step count of samples that are in the payload
unfoldable pub own_at : McSettings → ℕ → ℕ → ℕ
own_at s m sb = cond (transmitted s m sb) (get_or s.nb_steps (32 * m + sb) 0) 0

-- ---- places, in the order of the payload: place 3 sb + m is channel m in subband sb

abbrev pub place : (ℕ → ℕ → ℕ) → ℕ → ℕ
place f i = f (i % 3) (i / 3)

unfoldable pub steps_of : McSettings → List ℕ
steps_of s = tab (place (steps_at s)) 96

unfoldable pub own_of : McSettings → List ℕ
own_of s = tab (place (own_at s)) 96

unfoldable pub sources_of : McSettings → List ℕ
sources_of s = tab (place (source_at s)) 96

unfoldable pub bases_of : McSettings → List ℕ
bases_of s = tab (place (base_at s)) 96
