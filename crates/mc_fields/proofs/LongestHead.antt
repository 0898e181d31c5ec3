-- A head of 232 bits, the longest: 3/2 with n_ad_bytes, tc by group, crosstalk codes 0, and six predictors of three coefficients in each of eight groups.
use Rattle.std.specs.Prelude.{◌≡◌, refl, true, false, List, [], ◌∷◌, ◌++◌, ℕ, zero, suc, replicate}
use Rattle.std.proofs.Common.{◌∙◌, arith, lit≤}
use Rattle.bits.specs.Bits.{bit_at, value_at}
use Rattle.bits.specs.Syntax.{plain, accepted, refused, run, bind, both, times}
use Rattle.bits.proofs.Cut.{CUT-bits}
use Rattle.mc_config.specs.Config.{config_of}
use Rattle.mc_config.proofs.ReadingLaws.{others-known}
use Rattle.mc_crosstalk.specs.Crosstalk.{sources3, listed, sources_of, predicted_of, predictors_of}
use Rattle.mc_config.specs.declared.McHeader.{McHeader}
use Rattle.mc_fields.specs.Head.{mc_header, mc_error_check, tc_at, tc_allocation, dyn_cross_at, dyn_cross, predsi_at, prediction_at, prediction, first_forbidden, check_modes, mc_composite_status_info, head}
use Rattle.mc_fields.proofs.ReadingLaws.{centre-known}
use Rattle.mc_fields.specs.declared.McStatus.{McStatus}

unfoldable pub longest : List ℕ
longest = 128 ∷ 48 ∷ 0 ∷ 0 ∷ 0 ∷ 96 ∷ replicate 10 0 ++ replicate 13 255

unfoldable pub longest_header : McHeader
longest_header =
    record {
      ext_bit_stream_present = true;
      n_ad_bytes = 0;
      centre = 1;
      surround = 2;
      lfe = false;
      audio_mix = false;
      dematrix_procedure = 0;
      no_of_multi_lingual_ch = 0;
      multi_lingual_fs_half = false;
      multi_lingual_layer3 = false;
      copyright_identification_bit = false;
      copyright_identification_start = false;
    }

-- n groups with their flag and six counts of 3
unfoldable pub all_predicted : ℕ → List ℕ
all_predicted zero = []
all_predicted (suc n) = 1 ∷ replicate 6 3 ++ all_predicted n

unfoldable pub longest_status : McStatus
longest_status =
    record {
      tc_sbgr_select = false;
      dyn_cross_on = true;
      mc_prediction_on = true;
      tc_allocation = replicate 12 0;
      dyn_cross_lr = false;
      dyn_cross = replicate 24 0;
      mc_prediction = all_predicted 8;
    }

longest-first : run (head 1 2) longest 232 0 ≡ accepted (longest_header, (0, longest_status)) 232
unfolding longest longest_header longest_status all_predicted head both bind times run mc_header mc_error_check mc_composite_status_info tc_allocation tc_at dyn_cross dyn_cross_at prediction prediction_at predsi_at check_modes first_forbidden config_of bit_at value_at predictors_of predicted_of sources_of sources3 listed
longest-first = refl

header_read : run mc_header longest 232 0 ≡ accepted longest_header 24
unfolding longest longest_header bind run mc_header bit_at value_at
header_read = refl

-- under every reading
pub longest-used : (reading : ℕ) → run (head reading 2) longest 232 0 ≡ accepted (longest_header, (0, longest_status)) 232
unfolding longest_header
longest-used reading = centre-known reading 2 longest 232 0 longest_header 24 header_read (others-known reading 1 (λ z. omega arith)) ∙ longest-first

-- one bit fewer is short
pub longest-cut : (reading : ℕ) → run (head reading 2) longest 231 0 ≡ refused (plain 1)
longest-cut reading = CUT-bits (head reading 2) longest 232 231 (longest_header, (0, longest_status)) 232 (longest-used reading) (lit≤ tt)
