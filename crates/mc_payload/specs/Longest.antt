-- The longest payload: no accepted one uses more than 55,134 bits, and one uses so many.
use Rattle.std.specs.Prelude.{◌≡◌, true, false, cond, List, ℕ, ◌-◌, ◌%◌, ◌≤◌, eqb, ltb, replicate}
use Rattle.bits.specs.Syntax.{plain, accepted, refused}
use Rattle.fill.specs.Tab.{tab}
use Rattle.mc_config.specs.Reading.{reading_fits}
use Rattle.mc_config.specs.declared.McHeader.{McHeader}
use Rattle.mc_fields.specs.declared.McStatus.{McStatus}
use Rattle.mc_payload.specs.Payload.{Codes}
use Rattle.mc_payload.specs.Unpack.{Loan, unpack_of}
pub mod Bits

-- the most bits that a payload uses
abbrev pub longest : ℕ
longest = 55134

abbrev pub NoneLonger : Type 0
NoneLonger = (l : Loan) (b : List ℕ) (n : ℕ) (c : Codes) (u : ℕ) → unpack_of l b n ≡ accepted c u → u ≤ longest

-- ---- a loan under which some payload uses them

-- 3/2 without phantom centre, with LFE
abbrev pub longest_header : McHeader
longest_header =
    record {
      ext_bit_stream_present = false;
      n_ad_bytes = 0;
      centre = 1;
      surround = 2;
      lfe = true;
      audio_mix = false;
      dematrix_procedure = 0;
      no_of_multi_lingual_ch = 0;
      multi_lingual_fs_half = false;
      multi_lingual_layer3 = false;
      copyright_identification_bit = false;
      copyright_identification_start = false;
    }

-- no crosstalk; in each group a prediction flag and six predictors with three coefficients
abbrev pub longest_status : McStatus
longest_status =
    record {
      tc_sbgr_select = true;
      dyn_cross_on = false;
      mc_prediction_on = true;
      tc_allocation = replicate 12 0;
      dyn_cross_lr = false;
      dyn_cross = replicate 24 0;
      mc_prediction = tab (λ (k : ℕ). cond (eqb (k % 7) 0) 1 3) 56;
    }

-- 44,100 Hz, two base channels, 65,535 steps in 30 subbands of three channels; under any reading
unfoldable pub longest_loan : ℕ → Loan
longest_loan reading =
    record {
      reading = reading;
      rate = 44100;
      base_channels = 2;
      header = longest_header;
      status = longest_status;
      lfe = 15;
      steps = tab (λ (k : ℕ). cond (ltb (k % 32) 30) 65535 0) 96;
      base_steps = replicate 64 0;
    }

-- under either reading some payload uses the most bits, and with one bit fewer it is short
abbrev pub Reached : Type 0
Reached =
    (reading : ℕ)
    → reading_fits reading ≡ true
    → (b : List ℕ)
    × (c : Codes)
    × (unpack_of (longest_loan reading) b longest ≡ accepted c longest)
    × (unpack_of (longest_loan reading) b (longest - 1) ≡ refused (plain 1))
