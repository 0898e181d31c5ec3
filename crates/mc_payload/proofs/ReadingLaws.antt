-- What a reading changes in a payload: over two base channels nothing, and over one the phantom centre's limit.
use Rattle.std.specs.Prelude.{◌≡◌, false, ◌&&◌, List, ℕ, eqb, leb}
use Rattle.std.proofs.Math.Path.{refl}
use Rattle.mc_config.specs.Config.{config_of, layout_of}
use Rattle.mc_config.proofs.ReadingLaws.{phantom-first, phantom-stereo, phantom-mono, phantom-without, without_phantom}
use Rattle.mc_config.specs.declared.McHeader.{McHeader}
use Rattle.mc_fields.specs.declared.McStatus.{McStatus}
use Rattle.mc_payload.specs.declared.McSettings.{McSettings}
use Rattle.mc_payload.specs.Places.{config, pair, phantom_limit, limited, carried}
use Rattle.mc_payload.specs.Unpack.{loan_by, settings_of}
use Rattle.mc_payload.proofs.Alike.{Alike}

module _ (s : McSettings) (m sb : ℕ) where
  -- under reading 1 a phantom centre bars the first channel, as before there were readings
  pub limited-first : s.reading ≡ 1 → limited s m sb ≡ ((config s).phantom_centre && (eqb m 0 && leb phantom_limit sb))
  limited-first e = cc (e, phantom-first (config s))

  -- over one base channel reading 2 bars nothing
  pub limited-mono : s.reading ≡ 2 → s.base_channels ≡ 1 → limited s m sb ≡ false
  limited-mono e b = cc (e, b, phantom-mono s.header)

module _ (rate : ℕ) (status : McStatus) (lfe : ℕ) (steps base_steps : List ℕ) where
  abbrev under : ℕ → ℕ → McHeader → McSettings
  under reading base_channels h = settings_of (loan_by reading rate base_channels h status lfe steps base_steps)

  -- settings that are lent alike but for reading and header
  module _ (reading reading' base_channels : ℕ) (h h' : McHeader) where
    abbrev one : McSettings
    one = under reading base_channels h

    abbrev other : McSettings
    other = under reading' base_channels h'

    alike-by : ((m sb : ℕ) → carried one m sb ≡ carried other m sb)
        → pair one ≡ pair other → layout_of (config one) ≡ layout_of (config other) → (config one).second_stereo ≡ (config other).second_stereo
        → h.lfe ≡ h'.lfe → h.multi_lingual_layer3 ≡ h'.multi_lingual_layer3 → h.dematrix_procedure ≡ h'.dematrix_procedure
        → Alike one other
    unfolding settings_of
    alike-by carries pairs layouts seconds lfes layers procedures =
        record {
          carries = carries;
          pairs = pairs;
          layouts = layouts;
          seconds = seconds;
          lfes = lfes;
          layers = layers;
          procedures = procedures;
          rates = refl;
          bases = refl;
          statuses = refl;
          allocations = refl;
          counts = refl;
          base_counts = refl;
        }

  -- over two base channels the readings agree on every place
  pub alike-stereo : (reading base_channels : ℕ) (h : McHeader) → (base_channels ≡ 1 → ⊥) → Alike (under reading base_channels h) (under 1 base_channels h)
  unfolding settings_of carried
  alike-stereo reading base_channels h n =
      alike-by reading 1 base_channels h h (λ m sb. cc (phantom-stereo reading h base_channels n, phantom-stereo 1 h base_channels n)) refl refl refl refl refl refl

  -- over one reading 2 has the places that reading 1 has with centre code 1 in place of 3
  pub alike-mono : (h : McHeader) → Alike (under 2 1 h) (under 1 1 (without_phantom h))
  unfolding settings_of carried config_of layout_of
  alike-mono h = alike-by 2 1 1 h (without_phantom h) (λ m sb. cc (phantom-mono h, phantom-without h)) refl refl refl refl refl refl
