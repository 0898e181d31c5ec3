-- Head strings, field by field: mc_header(), mc_error_check(), mc_composite_status_info() (ISO/IEC 13818-3, 2.5.1.13 to 2.5.1.15). Definitions only.
use Rattle.std.specs.Prelude.{List, [], ◌∷◌, ℕ}
use Rattle.boundary_run.specs.declared.string.Bits.{Bits}
use Rattle.boundary_run.specs.String.{nothing, field_of, fields_of}

-- fields one after the other, each a width and a value
unfoldable pub written : Bits → List (ℕ × ℕ) → Bits
written b [] = b
written b (f ∷ rest) = written (field_of b f.0 f.1) rest

-- mc_header() from `centre` on: centre, surround, lfe, audio_mix, dematrix_procedure, no_of_multi_lingual_ch, multi_lingual_fs,
-- multi_lingual_layer, both copyright bits
unfoldable pub header_of : Bits → ℕ → ℕ → ℕ → ℕ → Bits
header_of start centre surround lfe layer3 =
    written start ((2, centre) ∷ (2, surround) ∷ (1, lfe) ∷ (1, 0) ∷ (2, 0) ∷ (3, 0) ∷ (1, 0) ∷ (1, layer3) ∷ (2, 0) ∷ [])

-- nothing crossed, nothing predicted, one tc for all groups: after the check word three flags and tc_allocation
unfoldable pub plain_head : ℕ → ℕ → ℕ → ℕ → ℕ → Bits
plain_head centre surround tc_bits lfe layer3 =
    written (header_of (written nothing ((1, 0) ∷ [])) centre surround lfe layer3) ((16, 0) ∷ (1, 1) ∷ (1, 0) ∷ (1, 0) ∷ (tc_bits, 0) ∷ [])

-- 3/2 with a crosstalk code after so many groups of code 0, and so many more behind it
unfoldable pub crossed_head : ℕ → ℕ → ℕ → Bits
crossed_head before code after =
    let start = written (header_of (written nothing ((1, 0) ∷ [])) 1 2 0 0) ((16, 0) ∷ (1, 1) ∷ (1, 1) ∷ (1, 0) ∷ (3, 0) ∷ (1, 0) ∷ []) in
    fields_of (field_of (fields_of start before 4 0) 4 code) after 4 0

-- 3/2 with every field that a head can have
unfoldable pub longest_head : Bits
longest_head =
    let start = written (header_of (written nothing ((1, 1) ∷ (8, 255) ∷ [])) 1 2 1 0) ((16, 0) ∷ (1, 0) ∷ (1, 1) ∷ (1, 1) ∷ []) in
    fields_of (fields_of (field_of (fields_of start 12 3 0) 1 0) 12 4 0) 8 13 8191
