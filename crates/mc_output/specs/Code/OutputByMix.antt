-- The output as the code makes it: the five channels of a slot and subband at a time, slot and subband at j = 32 slot + sb.
use Rattle.std.specs.Prelude.{◌≡◌, true, ◌&&◌, cond, List, [], ◌∷◌, ℕ, ◌+◌, ◌-◌, ◌*◌, ◌/◌, ◌%◌, ◌≤◌, ltb, leb, Float, get_or, set}
use Rattle.std.specs.Float.{nan}
use Rattle.fill.specs.Tab.{tab}
use Rattle.floats.specs.Binary64.{zero64}
use Rattle.mc_config.specs.Config.{main_of}
use Rattle.mc_config.specs.Groups.{sbgr_of}
use Rattle.mc_payload.specs.declared.McSettings.{McSettings}
use Rattle.mc_payload.specs.Places.{config, pair, msblimit}
use Rattle.mc_output.specs.declared.output.Mix.{Mix}
use Rattle.mc_dematrix.specs.Dematrix.{dematrixed}
use Rattle.mc_output.specs.Output.{channels}

abbrev pub mix_of : McSettings → Mix
mix_of s =
    record {
      pair = pair s;
      procedure = s.header.dematrix_procedure;
      main = main_of (pair s);
      channels = channels s;
      second_stereo = (config s).second_stereo;
      limit = msblimit s.rate;
    }

-- tc_allocation by subband
unfoldable pub tcs_of : List ℕ → List ℕ
tcs_of tc = tab (λ (sb : ℕ). get_or tc (sbgr_of sb) 0) 32

-- main channel m as dematrixing takes it
abbrev pub main_by : Mix → List Float → ℕ → ℕ → Float
main_by x work m j = cond (ltb m x.main && ltb (j % 32) x.limit) (get_or work (1152 * m + j) nan) zero64

abbrev pub mixed_by : Mix → ℕ → List Float → List Float → List Float → ℕ → List Float
mixed_by x tc left right work j =
    dematrixed x.pair x.procedure tc (get_or left j nan) (get_or right j nan) (main_by x work 0 j) (main_by x work 1 j) (main_by x work 2 j)

-- a second stereo programme takes the last two channels below the subband limit
unfoldable pub second_by : Mix → List Float → List Float → ℕ → List Float
second_by x mixed work j =
    cond (x.second_stereo && ltb (j % 32) x.limit)
    (set (set mixed (x.channels - 2) (get_or work (1152 * x.main + j) nan)) (x.channels - 1) (get_or work (1152 * (x.main + 1) + j) nan))
    mixed

-- where there is one, there are channels for it
pub record SecondFits (x : Mix) : Type 0 where
  pub fits : x.second_stereo ≡ true → (2 ≤ x.channels) × (x.channels ≤ 5) × (x.main ≤ 1)

-- channel ch; +0 beyond the layout
abbrev pub channel_by : Mix → List Float → ℕ → Float
channel_by x values ch = cond (ltb ch x.channels) (get_or values ch nan) zero64

-- the element k of the output
abbrev pub output_by_at : Mix → List ℕ → List Float → List Float → List Float → ℕ → Float
output_by_at x tcs left right work k =
    let j = k % 1152 in
    channel_by x (second_by x (mixed_by x (get_or tcs (j % 32) 0) left right work j) work j) (k / 1152)

unfoldable pub output_by : Mix → List ℕ → List Float → List Float → List Float → List Float
output_by x tcs left right work = tab (output_by_at x tcs left right work) 5760

-- ---- the same in three passes: all five dematrixed values, then a second stereo programme over two channels, then +0 beyond the layout

abbrev pub mixed_of_at : Mix → List ℕ → List Float → List Float → List Float → ℕ → Float
mixed_of_at x tcs left right work k =
    let j = k % 1152 in
    get_or (mixed_by x (get_or tcs (j % 32) 0) left right work j) (k / 1152) nan

unfoldable pub mixed_of : Mix → List ℕ → List Float → List Float → List Float → List Float
mixed_of x tcs left right work = tab (mixed_of_at x tcs left right work) 5760

-- the element k: a programme whose channels follow on the first main ones, from the first of the last two channels on, below the subband limit
abbrev pub with_second_at : ℕ → ℕ → ℕ → List Float → List Float → ℕ → Float
with_second_at channels main limit work d k =
    let at = 1152 * (channels - 2) in
    cond (leb at k && (ltb k (at + 2304) && ltb (k % 32) limit)) (get_or work (1152 * main + (k - at)) nan) (get_or d k nan)

unfoldable pub with_second : Mix → List Float → List Float → List Float
with_second x work d = tab (with_second_at x.channels x.main x.limit work d) 5760

abbrev pub beyond_at : ℕ → List Float → ℕ → Float
beyond_at channels d k = cond (ltb k (1152 * channels)) (get_or d k nan) zero64

unfoldable pub beyond : ℕ → List Float → List Float
beyond channels d = tab (beyond_at channels d) 5760

-- the five values where the output is the base alone, and the element k of that output
abbrev pub base_by : List Float → List Float → ℕ → List Float
base_by left right j = get_or left j nan ∷ get_or right j nan ∷ zero64 ∷ zero64 ∷ zero64 ∷ []

abbrev pub base_alone_at : Mix → List Float → List Float → ℕ → Float
base_alone_at x left right k = channel_by x (base_by left right (k % 1152)) (k / 1152)

unfoldable pub base_alone : Mix → List Float → List Float → List Float
base_alone x left right = tab (base_alone_at x left right) 5760
