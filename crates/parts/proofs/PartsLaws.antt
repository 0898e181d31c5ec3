-- The bytes that the code makes are those of the definition, and each case of a head's answer leaves what the definition says.
use Rattle.std.specs.Prelude.{◌≡◌, refl, Bool, true, false, List, [], ◌∷◌, ℕ, ◌*◌, ◌/◌, ◌%◌, Result, Ok, Err}
use Rattle.std.proofs.Common.{sym, ap, ◌∙◌, eq-eqb, ne_eqb}
use mir.Val.{bool_byte}
use Rattle.bits.specs.Syntax.{refused, plain}
use Rattle.fill.specs.Tab.{tab}
use Rattle.mc_config.specs.declared.McHeader.{McHeader}
use Rattle.mc_error.specs.Error.{refusal_of, packed_refusal}
use Rattle.mc_error.specs.declared.McError.{McError}
use Rattle.mc_head.specs.Answer.{outcome_of}
use Rattle.mc_fields.specs.Lent.{head_of}
use Rattle.mc_head.specs.declared.McHead.{McHead}
use Rattle.mc_fields.specs.declared.McStatus.{McStatus}
use Rattle.part_tables.specs.Parts.{Head, flag, first_bytes, byte_of, head_byte, head_for, packed_head, bytes_after}

flag-byte : (b : Bool) → bool_byte b ≡ flag b
flag-byte true = refl
flag-byte false = refl

module _ (h : McHeader) (word : ℕ) (s : McStatus) where
  -- the bytes as the code makes them
  pub first-bytes :
      ◌≡◌ {A = List ℕ} (bool_byte h.ext_bit_stream_present
      ∷ h.n_ad_bytes
      ∷ h.centre
      ∷ h.surround
      ∷ bool_byte h.lfe
      ∷ bool_byte h.audio_mix
      ∷ h.dematrix_procedure
      ∷ h.no_of_multi_lingual_ch
      ∷ bool_byte h.multi_lingual_fs_half
      ∷ bool_byte h.multi_lingual_layer3
      ∷ bool_byte h.copyright_identification_bit
      ∷ bool_byte h.copyright_identification_start
      ∷ word / 256
      ∷ word % 256
      ∷ bool_byte s.tc_sbgr_select
      ∷ bool_byte s.dyn_cross_on
      ∷ bool_byte s.mc_prediction_on
      ∷ [])
      (first_bytes h word s)
  first-bytes =
      rw (flag-byte h.ext_bit_stream_present, flag-byte h.lfe, flag-byte h.audio_mix, flag-byte h.multi_lingual_fs_half, flag-byte h.multi_lingual_layer3, flag-byte h.copyright_identification_bit, flag-byte h.copyright_identification_start, flag-byte s.tc_sbgr_select, flag-byte s.dyn_cross_on, flag-byte s.mc_prediction_on)

  pub all-bytes : (first out : List ℕ) → first ≡ first_bytes h word s
      → out ≡ tab (byte_of first s.tc_allocation (bool_byte s.dyn_cross_lr) s.dyn_cross s.mc_prediction) 110 → out ≡ tab (head_byte h word s) 110
  all-bytes first out e q = q ∙ (rw (e, flag-byte s.dyn_cross_lr))

module _ (r : Result McHead McError) where
  pub packs-accepted : (h : McHead) → r ≡ Ok h → h.used % 16777216 * 256 ≡ packed_head (outcome_of r)
  packs-accepted h q = rw q

  pub packs-refused : (e : McError) (n : ℕ) → r ≡ Err e → n ≡ packed_refusal (refusal_of e) → n ≡ packed_head (outcome_of r)
  packs-refused e n q en = rw q en

  pub writes-accepted : (h : McHead) (old out : List ℕ) → r ≡ Ok h → out ≡ tab (head_byte h.header h.check_word h.status) 110 → out ≡ bytes_after (outcome_of r) old
  writes-accepted h old out q e = rw q e

  pub writes-refused : (x : McError) (old : List ℕ) → r ≡ Err x → old ≡ bytes_after (outcome_of r) old
  writes-refused x old q = rw q

module _ (reading : ℕ) (bytes : List ℕ) (bits base room : ℕ) where
  head-roomy : room ≡ 110 → head_for reading bytes bits base room ≡ head_of reading bytes bits base
  unfolding head_for
  head-roomy h = simp (eq-eqb _ _ h)

  head-wrong : (room ≡ 110 → ⊥) → head_for reading bytes bits base room ≡ refused (plain 6)
  unfolding head_for
  head-wrong h = simp (ne_eqb _ _ h)

  -- room for other than 110 bytes
  pub wrong-room : (room ≡ 110 → ⊥) → (n : ℕ) → n ≡ packed_refusal (plain 6) → (old : List ℕ) → (n ≡ packed_head (head_for reading bytes bits base room)) × (old ≡ bytes_after (head_for reading bytes bits base room) old)
  wrong-room h n en old = let e = head-wrong h in (rw e en, rw e)

  -- room for 110 bytes
  pub right-room : room ≡ 110 → (r : Result McHead McError) → outcome_of r ≡ head_of reading bytes bits base → (n : ℕ) → n ≡ packed_head (outcome_of r) → (old out : List ℕ) → out ≡ bytes_after (outcome_of r) old
      → (n ≡ packed_head (head_for reading bytes bits base room)) × (out ≡ bytes_after (head_for reading bytes bits base room) old)
  right-room h r e n en old out eo = let q = e ∙ sym (head-roomy h) in (en ∙ ap packed_head q, eo ∙ ap (λ (o : Head). bytes_after o old) q)
