-- What a reading changes in a head: reading 1 is the head as it was before there were readings, and another differs at the centre code alone.
use Rattle.std.specs.Prelude.{◌≡◌, refl, true, false, ◌&&◌, cond, List, ℕ}
use Rattle.std.proofs.Common.{sym, ◌∙◌}
use Rattle.bits.specs.Syntax.{Refusal, plain, accepted, refused, run, both, and_then}
use Rattle.bits.proofs.SyntaxLaws.{run-both}
use Rattle.mc_config.specs.Config.{config_of}
use Rattle.mc_config.specs.Reading.{centre_stops}
use Rattle.mc_config.proofs.ReadingLaws.{without_phantom}
use Rattle.mc_config.specs.declared.McHeader.{McHeader}
use Rattle.mc_fields.specs.Head.{mc_header, mc_error_check, mc_composite_status_info, after_header, head}
use Rattle.mc_fields.specs.Lent.{string_fits, base_fits, head_fits, head_of}

-- ---- reading 1, by computation

pub head_first : (base_channels : ℕ) → head 1 base_channels ≡ both mc_header (λ h. both mc_error_check (λ word. mc_composite_status_info (config_of h base_channels)))
unfolding head
head_first base_channels = refl

pub lent-first : (bytes : List ℕ) (bits base_channels : ℕ)
    → head_of 1 bytes bits base_channels ≡ cond (string_fits bytes bits && base_fits base_channels) (run (head 1 base_channels) bytes bits 0) (refused (plain 6))
unfolding head_of head_fits
lent-first bytes bits base_channels = refl

-- ---- any reading

module _ (reading base_channels : ℕ) (bytes : List ℕ) (bits p : ℕ) where
  -- a header that is refused is refused so under every reading
  pub header_refused : (x : Refusal) → run mc_header bytes bits p ≡ refused x → run (head reading base_channels) bytes bits p ≡ refused x
  unfolding head and_then
  header_refused x e = run-both mc_header _ bytes bits p ∙ rw e

  module _ (h : McHeader) (u : ℕ) (e : run mc_header bytes bits p ≡ accepted h u) where
    -- a centre code that stops the frame is the head's end, whatever follows the header
    pub centre-stopped : centre_stops reading h.centre ≡ true → run (head reading base_channels) bytes bits p ≡ refused (plain 13)
    unfolding head and_then run
    centre-stopped t = run-both mc_header _ bytes bits p ∙ rw (e, t)

    -- under any other the head is that of reading 1
    pub centre-known : centre_stops reading h.centre ≡ false → run (head reading base_channels) bytes bits p ≡ run (head 1 base_channels) bytes bits p
    unfolding head and_then
    centre-known t = run-both mc_header _ bytes bits p ∙ rw (e, t) (sym (run-both mc_header _ bytes bits p ∙ rw e))

-- over one base channel centre code 1 in place of 3 changes nothing that follows the header
pub after-without : (h : McHeader) → after_header (without_phantom h) 1 ≡ after_header h 1
unfolding mc_composite_status_info config_of
after-without h = refl
