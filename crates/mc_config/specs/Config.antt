-- The channel configuration that a header gives (ISO/IEC 13818-3, 2.5.2.13 and 2.5.2.15 A to G).
use Rattle.std.specs.Prelude.{Bool, ◌||◌, cond, List, [], ◌∷◌, ◌++◌, ℕ, ◌+◌, ◌*◌, eqb}
use Rattle.mc_config.specs.declared.McHeader.{McHeader}
use Rattle.mc_config.specs.declared.McConfig.{McConfig}

-- centre: 1 is present and 3 is bandwidth limited ("phantom"); 0, and 2 which is not defined, count as none
abbrev pub has_centre : ℕ → Bool
has_centre centre = eqb centre 1 || eqb centre 3

abbrev pub front_of : ℕ → ℕ → ℕ
front_of base_channels centre = cond (eqb base_channels 1) 1 (cond (has_centre centre) 3 2)

-- surround: 3 is a second stereo programme, and no surround
abbrev pub surround_of : ℕ → ℕ
surround_of surround = cond (eqb surround 3) 0 surround

-- front and surround as one number: 3/2 is 32
abbrev pub pair_of : McConfig → ℕ
pair_of c = 10 * c.front + c.surround

-- by configuration: 3/2, 3/1, 3/0, 2/2, 2/1, and any other
abbrev pub by_pair {ℓ} : {X : Type ℓ} → X → X → X → X → X → X → ℕ → X
by_pair x32 x31 x30 x22 x21 other pair =
    cond (eqb pair 32) x32 (cond (eqb pair 31) x31 (cond (eqb pair 30) x30 (cond (eqb pair 22) x22 (cond (eqb pair 21) x21 other))))

-- channels of the extension that belong to the main programme
abbrev pub main_of : ℕ → ℕ
main_of pair = by_pair 3 2 1 2 1 0 pair

-- bits of a tc_allocation and of a dyn_cross_mode
abbrev pub tc_bits_of : ℕ → ℕ
tc_bits_of pair = by_pair 3 3 2 2 2 0 pair

abbrev pub cross_bits_of : ℕ → ℕ
cross_bits_of pair = by_pair 4 3 1 3 1 0 pair

-- the configuration of a header over one or two base channels
unfoldable pub config_of : McHeader → ℕ → McConfig
config_of h base_channels =
    let front = front_of base_channels h.centre in
    let surround = surround_of h.surround in
    let pair = 10 * front + surround in
    record {
      front = front;
      surround = surround;
      second_stereo = eqb h.surround 3;
      nmch = main_of pair + cond (eqb h.surround 3) 2 0;
      tc_allocation_bits = tc_bits_of pair;
      dyn_cross_bits = cross_bits_of pair;
      phantom_centre = eqb h.centre 3;
    }

-- ---- the audio channels and the layout

abbrev pub left : ℕ
left = 0

abbrev pub right : ℕ
right = 1

abbrev pub centre : ℕ
centre = 2

abbrev pub left_surround : ℕ
left_surround = 3

abbrev pub right_surround : ℕ
right_surround = 4

abbrev pub mono_surround : ℕ
mono_surround = 5

abbrev pub second_left : ℕ
second_left = 6

abbrev pub second_right : ℕ
second_right = 7

abbrev pub front_channels : ℕ → List ℕ
front_channels front = cond (eqb front 1) (left ∷ []) (cond (eqb front 3) (left ∷ right ∷ centre ∷ []) (left ∷ right ∷ []))

abbrev pub surround_channels : ℕ → Bool → List ℕ
surround_channels surround second =
    cond (eqb surround 2) (left_surround ∷ right_surround ∷ [])
    (cond (eqb surround 1) (mono_surround ∷ []) (cond second (second_left ∷ second_right ∷ []) []))

-- the output channels in order: front, then surround, or else the second stereo programme
unfoldable pub layout_of : McConfig → List ℕ
layout_of c = front_channels c.front ++ surround_channels c.surround c.second_stereo
