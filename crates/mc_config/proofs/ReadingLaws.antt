-- Laws of the readings: which centre codes stop a frame, and over which base a phantom centre limits.
use Rattle.std.specs.Prelude.{◌≡◌, refl, Bool, true, false, cond, ℕ, eqb}
use Rattle.std.proofs.Math.Bool.{and-true, and-false, or-true}
use Rattle.std.proofs.Common.{ne_eqb}
use Rattle.mc_config.proofs.CaseLaws.{cond-all, cond-split}
use Rattle.mc_config.specs.Config.{config_of}
use Rattle.mc_config.specs.Reading.{centre_stops, phantom_of}
use Rattle.mc_config.specs.declared.McHeader.{McHeader}
use Rattle.mc_config.specs.declared.McConfig.{McConfig}

-- ---- centre codes that stop

-- under reading 1 none does
pub first-knows : (centre : ℕ) → centre_stops 1 centre ≡ false
first-knows centre = refl

-- under reading 2 code 2 does
pub second-stops : centre_stops 2 2 ≡ true
second-stops = refl

-- no other code does, whatever the reading
pub others-known : (reading centre : ℕ) → (centre ≡ 2 → ⊥) → centre_stops reading centre ≡ false
others-known reading centre n = rw (ne_eqb centre 2 n) (cond-all (λ (stops : Bool). stops ≡ false) (eqb reading 2) refl refl)

-- ---- the phantom centre

-- under reading 1 it limits wherever it is
pub phantom-first : (c : McConfig) → phantom_of 1 c ≡ c.phantom_centre
phantom-first c = and-true c.phantom_centre

-- over two base channels it makes the front three, so it limits whatever the reading
pub phantom-stereo : (reading : ℕ) (h : McHeader) (base_channels : ℕ) → (base_channels ≡ 1 → ⊥) → phantom_of reading (config_of h base_channels) ≡ eqb h.centre 3
unfolding config_of
phantom-stereo reading h base_channels n = go (eqb h.centre 3) refl
  where
    go : (phantom : Bool) → eqb h.centre 3 ≡ phantom → phantom_of reading (config_of h base_channels) ≡ eqb h.centre 3
    go true e = rw (e, ne_eqb base_channels 1 n, or-true (eqb h.centre 1)) (cond-all (λ (limits : Bool). limits ≡ true) (eqb reading 2) refl refl)
    go false e = rw e

-- over one base channel the front is one, so under reading 2 it limits nothing
pub phantom-mono : (h : McHeader) → phantom_of 2 (config_of h 1) ≡ false
unfolding config_of
phantom-mono h = and-false (eqb h.centre 3)

-- a header with centre code 1 in place of 3
abbrev pub without_phantom : McHeader → McHeader
without_phantom h =
    record {
      ext_bit_stream_present = h.ext_bit_stream_present;
      n_ad_bytes = h.n_ad_bytes;
      centre = cond (eqb h.centre 3) 1 h.centre;
      surround = h.surround;
      lfe = h.lfe;
      audio_mix = h.audio_mix;
      dematrix_procedure = h.dematrix_procedure;
      no_of_multi_lingual_ch = h.no_of_multi_lingual_ch;
      multi_lingual_fs_half = h.multi_lingual_fs_half;
      multi_lingual_layer3 = h.multi_lingual_layer3;
      copyright_identification_bit = h.copyright_identification_bit;
      copyright_identification_start = h.copyright_identification_start;
    }

-- so it is under reading 1 what the header is under reading 2
pub phantom-without : (h : McHeader) → phantom_of 1 (config_of (without_phantom h) 1) ≡ false
unfolding config_of
phantom-without h = rw (cond-split (λ (centre : ℕ). eqb centre 3 ≡ false) (eqb h.centre 3) (λ e. refl) (λ e. e))
