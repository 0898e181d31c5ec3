-- What the exported head reading answers, and what it writes: one byte for each field, in the order of the wire. Definitions only.
use Rattle.std.specs.Prelude.{Bool, cond, List, [], ◌∷◌, ℕ, ◌*◌, ◌-◌, ◌/◌, ◌%◌, eqb, ltb, get_or}
use Rattle.bits.specs.Syntax.{Outcome, accepted, refused, plain}
use Rattle.mc_error.specs.Error.{packed_refusal}
use Rattle.fill.specs.Tab.{tab}
use Rattle.mc_config.specs.declared.McHeader.{McHeader}
use Rattle.mc_fields.specs.Lent.{head_of}
use Rattle.mc_fields.specs.declared.McStatus.{McStatus}

abbrev pub flag : Bool → ℕ
flag b = cond b 1 0

-- mc_header(), the check word's two bytes, and the three flags that open mc_composite_status_info()
abbrev pub first_bytes : McHeader → ℕ → McStatus → List ℕ
first_bytes h word s =
    flag h.ext_bit_stream_present
    ∷ h.n_ad_bytes
    ∷ h.centre
    ∷ h.surround
    ∷ flag h.lfe
    ∷ flag h.audio_mix
    ∷ h.dematrix_procedure
    ∷ h.no_of_multi_lingual_ch
    ∷ flag h.multi_lingual_fs_half
    ∷ flag h.multi_lingual_layer3
    ∷ flag h.copyright_identification_bit
    ∷ flag h.copyright_identification_start
    ∷ word / 256
    ∷ word % 256
    ∷ flag s.tc_sbgr_select
    ∷ flag s.dyn_cross_on
    ∷ flag s.mc_prediction_on
    ∷ []

-- byte k of 17 first ones, 12 of tc_allocation, dyn_cross_lr, 24 of dyn_cross, 56 of mc_prediction
abbrev pub byte_of : List ℕ → List ℕ → ℕ → List ℕ → List ℕ → ℕ → ℕ
byte_of first tc lr cross prediction k =
    cond (ltb k 17) (get_or first k 0)
    (cond (ltb k 29) (get_or tc (k - 17) 0)
    (cond (ltb k 30) lr
    (cond (ltb k 54) (get_or cross (k - 30) 0)
    (get_or prediction (k - 54) 0))))

abbrev pub head_byte : McHeader → ℕ → McStatus → ℕ → ℕ
head_byte h word s = byte_of (first_bytes h word s) s.tc_allocation (flag s.dyn_cross_lr) s.dyn_cross s.mc_prediction

abbrev pub Head : Type 0
Head = Outcome (McHeader × (ℕ × McStatus))

-- room for other than 110 bytes is a wrong loan, refusal 6
unfoldable pub head_for : ℕ → List ℕ → ℕ → ℕ → ℕ → Head
head_for reading bytes bits base_channels room = cond (eqb room 110) (head_of reading bytes bits base_channels) (refused (plain 6))

-- a refusal; or number 0 with the used bits in the place of the group
abbrev pub packed_head : Head → ℕ
packed_head (accepted values used) = used % 16777216 * 256
packed_head (refused x) = packed_refusal x

-- what the lent bytes hold after the call: after a refusal what they held before
abbrev pub bytes_after : Head → List ℕ → List ℕ
bytes_after (accepted values used) old = tab (head_byte values.0 values.1.0 values.1.1) 110
bytes_after (refused x) old = old
