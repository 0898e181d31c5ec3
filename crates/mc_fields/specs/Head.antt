-- The head string: mc_header(), mc_error_check() and mc_composite_status_info() (ISO/IEC 13818-3, 2.5.1.13 to 2.5.1.15), as one program of fields.
use Rattle.std.specs.Prelude.{Bool, ◌&&◌, cond, List, ℕ, zero, suc, ◌+◌, ◌*◌, eqb, ltb, get_or, set, replicate, Option, Some, None}
use Rattle.bits.specs.Syntax.{plain, Syntax, done, refuse, field, bind, both, times}
use Rattle.mc_config.specs.declared.McHeader.{McHeader}
use Rattle.mc_config.specs.declared.McConfig.{McConfig}
use Rattle.mc_config.specs.Config.{config_of, pair_of}
use Rattle.mc_config.specs.Reading.{centre_stops}
use Rattle.mc_crosstalk.specs.Crosstalk.{listed, predictors_of}
use Rattle.mc_fields.specs.declared.McStatus.{McStatus}

-- the bits of a field that is there only where the test holds; a field of no bits reads as 0
abbrev pub bits_if : Bool → ℕ → ℕ
bits_if there n = cond there n 0

-- mc_header() (2.5.1.13)
unfoldable pub mc_header : Syntax McHeader
mc_header =
    field 1
    (λ ext. field (bits_if (eqb ext 1) 8)
    (λ bytes. field 2
    (λ centre. field 2
    (λ surround. field 1
    (λ lfe. field 1
    (λ mix. field 2
    (λ procedure. field 3
    (λ lingual. field 1
    (λ half. field 1
    (λ layer3. field 1
    (λ bit. field 1
    (λ start. done
    (record {
      ext_bit_stream_present = eqb ext 1;
      n_ad_bytes = bytes;
      centre = centre;
      surround = surround;
      lfe = eqb lfe 1;
      audio_mix = eqb mix 1;
      dematrix_procedure = procedure;
      no_of_multi_lingual_ch = lingual;
      multi_lingual_fs_half = eqb half 1;
      multi_lingual_layer3 = eqb layer3 1;
      copyright_identification_bit = eqb bit 1;
      copyright_identification_start = eqb start 1;
    })))))))))))))

-- mc_error_check() (2.5.1.14): the check word is read and not verified
unfoldable pub mc_error_check : Syntax ℕ
mc_error_check = field 16 (λ word. done word)

-- ---- mc_composite_status_info() (2.5.1.15)

-- tc_allocation of group g
unfoldable pub tc_at : ℕ → ℕ → List ℕ → Syntax (List ℕ)
tc_at bits g a = field bits (λ v. done (set a g v))

-- once for all twelve groups, or for each
unfoldable pub tc_allocation : Bool → ℕ → Syntax (List ℕ)
tc_allocation once bits = cond once (field bits (λ v. done (replicate 12 v))) (times 12 0 (tc_at bits) (replicate 12 0))

-- crosstalk of group g: its code, then its second stereo bit
unfoldable pub dyn_cross_at : ℕ → ℕ → ℕ → List ℕ → Syntax (List ℕ)
dyn_cross_at mode_bits second_bits g a =
    field mode_bits (λ mode. field second_bits (λ second. done (set (set a (2 * g) mode) (2 * g + 1) second)))

unfoldable pub dyn_cross : ℕ → ℕ → Syntax (List ℕ)
dyn_cross mode_bits second_bits = times 12 0 (dyn_cross_at mode_bits second_bits) (replicate 24 0)

-- the crosstalk code and the second stereo bit of group g
abbrev pub mode_at : List ℕ → ℕ → ℕ
mode_at cross g = get_or cross (2 * g) 0

abbrev pub second_at : List ℕ → ℕ → ℕ
second_at cross g = get_or cross (2 * g + 1) 0

-- prediction of group g: its flag, then a coefficient count for each of its predictors
unfoldable pub predsi_at : ℕ → ℕ → List ℕ → Syntax (List ℕ)
predsi_at g px a = field 2 (λ n. done (set a (7 * g + 1 + px) n))

unfoldable pub prediction_at : Bool → (ℕ → ℕ) → ℕ → List ℕ → Syntax (List ℕ)
prediction_at on predictors g a =
    field (bits_if on 1) (λ flag. times (cond (eqb flag 1) (predictors g) 0) 0 (predsi_at g) (set a (7 * g) flag))

unfoldable pub prediction : Bool → (ℕ → ℕ) → Syntax (List ℕ)
prediction on predictors = times 8 0 (prediction_at on predictors) (replicate 56 0)

-- the prediction flag of group g, and the coefficient count of its predictor px
abbrev pub flag_at : List ℕ → ℕ → ℕ
flag_at t g = get_or t (7 * g) 0

abbrev pub count_at : List ℕ → ℕ → ℕ → ℕ
count_at t g px = get_or t (7 * g + 1 + px) 0

-- the lowest of n groups from g on whose code is not listed; past the last where all are
unfoldable pub first_forbidden : ℕ → List ℕ → ℕ → ℕ → ℕ
first_forbidden pair cross zero g = g
first_forbidden pair cross (suc n) g = cond (listed pair (mode_at cross g)) (first_forbidden pair cross n (suc g)) g

-- the lowest of the twelve groups whose code is not listed
abbrev pub forbidden_group : ℕ → List ℕ → Option ℕ
forbidden_group pair cross = let g = first_forbidden pair cross 12 0 in cond (ltb g 12) (Some g) None

-- forbidden crosstalk, refusal 2, names the lowest such group and its code
unfoldable pub check_modes : {A : Type 0} → ℕ → List ℕ → A → Syntax A
check_modes pair cross a =
    let g = first_forbidden pair cross 12 0 in
    cond (ltb g 12) (refuse (record { number = 2; group = g; code = mode_at cross g })) (done a)

unfoldable pub mc_composite_status_info : McConfig → Syntax McStatus
mc_composite_status_info c =
    field 1
    (λ once. field 1
    (λ cross. field 1
    (λ predict. bind (tc_allocation (eqb once 1) c.tc_allocation_bits)
    (λ tc. field (bits_if (eqb cross 1) 1)
    (λ lr. bind (dyn_cross (bits_if (eqb cross 1) c.dyn_cross_bits) (bits_if (eqb cross 1 && c.second_stereo) 1))
    (λ modes. bind (prediction (eqb predict 1) (λ g. predictors_of (pair_of c) (mode_at modes g)))
    (λ counts. check_modes (pair_of c) modes
    (record {
      tc_sbgr_select = eqb once 1;
      dyn_cross_on = eqb cross 1;
      mc_prediction_on = eqb predict 1;
      tc_allocation = tc;
      dyn_cross_lr = eqb lr 1;
      dyn_cross = modes;
      mc_prediction = counts;
    }))))))))

-- what follows a header over one or two base channels
abbrev pub after_header : McHeader → ℕ → Syntax (ℕ × McStatus)
after_header h base_channels = both mc_error_check (λ word. mc_composite_status_info (config_of h base_channels))

-- the whole head; a centre code that has no meaning under the reading stops it after the header, refusal 13
unfoldable pub head : ℕ → ℕ → Syntax (McHeader × (ℕ × McStatus))
head reading base_channels = both mc_header (λ h. cond (centre_stops reading h.centre) (refuse (plain 13)) (after_header h base_channels))
