-- Places as the code builds them: limits by channel, sources and base channels by subband group, then the tables by place.
use Rattle.std.specs.Prelude.{Bool, ◌&&◌, cond, List, ℕ, ◌+◌, ◌*◌, ◌/◌, ◌%◌, eqb, ltb, get_or}
use Rattle.fill.specs.Tab.{tab}
use Rattle.mc_crosstalk.specs.Crosstalk
use Rattle.mc_config.specs.Config.{main_of}
use Rattle.mc_config.specs.Groups.{sbgr_of}
use Rattle.mc_crosstalk.specs.Crosstalk.{T, B}
use Rattle.mc_roles.specs.Roles.{base_of}
use Rattle.mc_fields.specs.Head.{mode_at, second_at}
use Rattle.mc_payload.specs.declared.McSettings.{McSettings}
use Rattle.mc_places.specs.declared.places.Places.{Places}
use Rattle.mc_payload.specs.Places.{phantom_limit, place, steps_of, own_of, sources_of, bases_of}

-- all four tables
unfoldable pub places_of : McSettings → Places
places_of s = record { steps = steps_of s; own = own_of s; source = sources_of s; base = bases_of s }

-- the first subband that channel m no longer has, by the number of channels, whether a phantom centre limits, and the subband limit; 0 for a
-- channel that is not there
unfoldable pub limit_by : ℕ → Bool → ℕ → ℕ → ℕ
limit_by nmch phantom limit m = cond (ltb m nmch) (cond (phantom && eqb m 0) phantom_limit limit) 0

unfoldable pub limits_by : ℕ → Bool → ℕ → List ℕ
limits_by nmch phantom limit = tab (limit_by nmch phantom limit) 3

-- channel m in subband sb
unfoldable pub carried_by : List ℕ → ℕ → ℕ → Bool
carried_by limits m sb = ltb sb (get_or limits m 0)

-- the source of channel m by the crosstalk code and the second stereo bit of a group
unfoldable pub source_by : ℕ → ℕ → ℕ → ℕ → ℕ
source_by pair mode second m =
    cond (ltb m (main_of pair)) (get_or (Crosstalk.sources_of pair mode) m T) (cond (eqb m (main_of pair + 1) && eqb second 1) (main_of pair) T)

-- by group g and channel m, at 3 g + m
unfoldable pub group_sources : ℕ → List ℕ → List ℕ
group_sources pair cross = tab (λ k. source_by pair (mode_at cross (k / 3)) (second_at cross (k / 3)) (k % 3)) 36

unfoldable pub group_bases : ℕ → List ℕ → Bool → ℕ → List ℕ
group_bases pair tc lr base_channels = tab (λ k. base_of pair (get_or tc (k / 3) 0) (k % 3) lr base_channels) 36

-- the entry of such a table for channel m in subband sb
abbrev pub group_at : List ℕ → ℕ → ℕ → ℕ
group_at t m sb = get_or t (3 * sbgr_of sb + m) 0

-- step counts by source and base channel
unfoldable pub steps_by : List ℕ → List ℕ → Bool → ℕ → ℕ → ℕ → ℕ → ℕ
steps_by steps base_steps there source base m sb =
    cond there
    (cond (eqb source T) (get_or steps (32 * m + sb) 0) (cond (eqb source B) (get_or base_steps (32 * base + sb) 0) (get_or steps (32 * source + sb) 0)))
    0

unfoldable pub own_by : List ℕ → Bool → ℕ → ℕ → ℕ → ℕ
own_by steps there source m sb = cond (there && eqb source T) (get_or steps (32 * m + sb) 0) 0

unfoldable pub places_by : List ℕ → List ℕ → List ℕ → List ℕ → List ℕ → Places
places_by limits sources bases steps base_steps =
    record {
      steps = tab (place (λ m sb. steps_by steps base_steps (carried_by limits m sb) (group_at sources m sb) (group_at bases m sb) m sb)) 96;
      own = tab (place (λ m sb. own_by steps (carried_by limits m sb) (group_at sources m sb) m sb)) 96;
      source = tab (place (group_at sources)) 96;
      base = tab (place (group_at bases)) 96;
    }
