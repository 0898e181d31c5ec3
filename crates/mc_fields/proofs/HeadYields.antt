-- What every accepted head yields, and what a head is refused as.
use Rattle.std.specs.Prelude.{◌≡◌, refl, Bool, true, false, ◌&&◌, List, ◌⊎◌, ℕ, ◌+◌, ◌*◌, ◌/◌, ◌%◌, ◌^◌, ◌≤◌, ◌<◌, eqb, length, get_or}
use Rattle.std.proofs.Common.{inl, inr, lt_of_lt_of_le, arith, pow_mono}
use Rattle.bits.specs.Syntax.{Refusal, plain, accepted, refused, run}
use Rattle.bits.proofs.Yields.{Yields, yields-done, yields_field, yields-refuse, yields-cond, yields-bind, yields_both, yields-weaken, accepted-yields, refused-yields}
use Rattle.mc_config.specs.declared.McHeader.{McHeader}
use Rattle.mc_config.specs.declared.McConfig.{McConfig}
use Rattle.mc_config.specs.Config.{config_of, pair_of}
use Rattle.mc_config.specs.Reading.{centre_stops}
use Rattle.mc_config.proofs.ConfigLaws.{tc-bits-config, cross-bits-config}
use Rattle.mc_crosstalk.specs.Crosstalk.{listed, predictors_of}
use Rattle.mc_crosstalk.proofs.CrosstalkLaws.{predictors-most}
use Rattle.mc_fields.proofs.BitsIfLaws.{if-below}
use Rattle.mc_fields.specs.Head.{bits_if, mc_header, mc_error_check, mode_at, second_at, flag_at, count_at, mc_composite_status_info, head}
use Rattle.mc_fields.proofs.StatusYields.{Forbids, tc-yields, cross-yields, prediction-yields, check-yields}
use Rattle.mc_fields.specs.declared.McStatus.{McStatus}

-- ---- mc_header()

pub record HeaderFits (h : McHeader) : Type 0 where
  pub ad-bytes : h.n_ad_bytes < 256
  pub centre : h.centre ≤ 3
  pub surround : h.surround ≤ 3
  pub procedure : h.dematrix_procedure ≤ 3
  pub lingual : h.no_of_multi_lingual_ch ≤ 7

header-yields : {R : Refusal → Type 0} → Yields mc_header HeaderFits R
unfolding mc_header
header-yields =
    yields_field
    (λ ext h₁. yields_field
    (λ bytes h₂. yields_field
    (λ centre h₃. yields_field
    (λ surround h₄. yields_field
    (λ lfe h₅. yields_field
    (λ mix h₆. yields_field
    (λ procedure h₇. yields_field
    (λ lingual h₈. yields_field
    (λ half h₉. yields_field
    (λ layer3 h₁₀. yields_field
    (λ bit h₁₁. yields_field
    (λ start h₁₂. yields-done
    (record {
      ad-bytes = if-below (eqb ext 1) 8 h₂;
      centre = omega arith;
      surround = omega arith;
      procedure = omega arith;
      lingual = omega arith;
    })))))))))))))

-- ---- mc_composite_status_info()

pub record StatusFits (c : McConfig) (s : McStatus) : Type 0 where
  pub tc-length : length s.tc_allocation ≡ 12
  pub cross-length : length s.dyn_cross ≡ 24
  pub prediction-length : length s.mc_prediction ≡ 56
  -- each value is as small as its field; one of no bits is 0
  pub tc-small : (g : ℕ) → get_or s.tc_allocation g 0 < 2 ^ c.tc_allocation_bits
  pub mode_small : (g : ℕ) → mode_at s.dyn_cross g < 2 ^ bits_if s.dyn_cross_on c.dyn_cross_bits
  pub second-small : (g : ℕ) → second_at s.dyn_cross g < 2 ^ bits_if (s.dyn_cross_on && c.second_stereo) 1
  pub flag_small : (g : ℕ) → flag_at s.mc_prediction g < 2 ^ bits_if s.mc_prediction_on 1
  pub count_small : (g px : ℕ) → px < 6 → count_at s.mc_prediction g px ≤ 3
  pub lr-off : s.dyn_cross_on ≡ false → s.dyn_cross_lr ≡ false
  -- the code of every group is listed
  pub mode-listed : (g : ℕ) → g < 12 → listed (pair_of c) (mode_at s.dyn_cross g) ≡ true
  -- no counts past a group's predictors, and none without its flag
  pub count_past : (g px : ℕ) → px < 6 → predictors_of (pair_of c) (mode_at s.dyn_cross g) ≤ px → count_at s.mc_prediction g px ≡ 0
  pub count-off : (g px : ℕ) → px < 6 → flag_at s.mc_prediction g ≡ 0 → count_at s.mc_prediction g px ≡ 0

lr-was-off : (there : Bool) (lr : ℕ) → lr < 2 ^ bits_if there 1 → there ≡ false → eqb lr 1 ≡ false
lr-was-off true lr h e = let z : ◌≡◌ {A = ℕ} 0 1 = cc in absurd (omega arith)
lr-was-off false lr h e = let z : lr ≡ 0 = omega arith in rw z

status-yields : (c : McConfig) → Yields (mc_composite_status_info c) (StatusFits c) Forbids
unfolding mc_composite_status_info
status-yields c =
    yields_field
    (λ once h₁. yields_field
    (λ cross h₂. yields_field
    (λ predict h₃. yields-bind (tc-yields (eqb once 1) c.tc_allocation_bits)
    (λ tc t. yields_field
    (λ lr h₄. yields-bind (cross-yields (bits_if (eqb cross 1) c.dyn_cross_bits) (bits_if (eqb cross 1 && c.second_stereo) 1))
    (λ modes m. yields-bind (prediction-yields (eqb predict 1) (λ g. predictors_of (pair_of c) (mode_at modes g)) (λ g. predictors-most (pair_of c) (mode_at modes g)))
    (λ counts p. check-yields (pair_of c) modes _
    (λ l. record {
      tc-length = t.sized;
      cross-length = m.sized;
      prediction-length = p.table.sized;
      tc-small = t.entry;
      mode_small = λ g. (m.entry (2 * g)).0 (omega arith);
      second-small = λ g. (m.entry (2 * g + 1)).1 (omega arith);
      flag_small = λ g. (p.table.entry (7 * g)).0 (omega arith);
      count_small = λ g px b. ((p.table.entry (7 * g + 1 + px)).1 (λ e. omega arith)).0;
      lr-off = lr-was-off (eqb cross 1) lr h₄;
      mode-listed = l;
      count_past = λ g px b n. ((p.table.entry (7 * g + 1 + px)).1 (λ e. omega arith)).1 (past modes g px b n);
      count-off = p.off;
    }))))))))
  where
    past : (modes : List ℕ) (g px : ℕ) → px < 6 → predictors_of (pair_of c) (mode_at modes g) ≤ px
        → predictors_of (pair_of c) (mode_at modes ((7 * g + 1 + px) / 7)) < (7 * g + 1 + px) % 7
    past modes g px b n = let d : (7 * g + 1 + px) / 7 ≡ g = omega arith in rw d (omega arith)

-- ---- the whole head

-- the refusals that a head states: a centre code, and its lowest forbidden code
abbrev pub Stops : Refusal → Type 0
Stops x = (x ≡ plain 13) ⊎ Forbids x

head-yields : (reading base_channels : ℕ)
    → Yields (head reading base_channels) (λ r. HeaderFits r.0 × ((r.1.0 < 65536) × StatusFits (config_of r.0 base_channels) r.1.1)) Stops
unfolding head mc_error_check
head-yields reading base_channels =
    yields_both header-yields
    (λ h f. yields-cond (centre_stops reading h.centre) (λ e. yields-refuse (inl refl))
    (λ e. yields_both (yields_field (λ word b. yields-done b)) (λ word b. yields-weaken (status-yields (config_of h base_channels)) (λ s p. p) (λ x p. inr p))))

module _ (reading base_channels : ℕ) (bytes : List ℕ) (bits p : ℕ) where
  -- a head is refused as short, for its centre code, or for its lowest forbidden code
  pub head-refused : (x : Refusal) → run (head reading base_channels) bytes bits p ≡ refused x → (x ≡ plain 1) ⊎ Stops x
  head-refused x e = refused-yields (head-yields reading base_channels) bytes bits p x e

  -- an accepted head
  module _ (h : McHeader) (word : ℕ) (s : McStatus) (used : ℕ) (e : run (head reading base_channels) bytes bits p ≡ accepted (h, (word, s)) used) where
    pub header-fits : HeaderFits h
    header-fits = (accepted-yields (head-yields reading base_channels) bytes bits p (h, (word, s)) used e).0

    pub word_fits : word < 65536
    word_fits = (accepted-yields (head-yields reading base_channels) bytes bits p (h, (word, s)) used e).1.0

    pub status-fits : StatusFits (config_of h base_channels) s
    status-fits = (accepted-yields (head-yields reading base_channels) bytes bits p (h, (word, s)) used e).1.1

    pub tc-below : (g : ℕ) → get_or s.tc_allocation g 0 < 8
    tc-below g = lt_of_lt_of_le (status-fits.tc-small g) (pow_mono (tc-bits-config h base_channels))

    pub mode-below : (g : ℕ) → mode_at s.dyn_cross g < 16
    mode-below g = lt_of_lt_of_le (if-below s.dyn_cross_on (config_of h base_channels).dyn_cross_bits (status-fits.mode_small g)) (pow_mono (cross-bits-config h base_channels))

    pub second_below : (g : ℕ) → second_at s.dyn_cross g < 2
    second_below g = if-below (s.dyn_cross_on && (config_of h base_channels).second_stereo) 1 (status-fits.second-small g)

    pub flag-below : (g : ℕ) → flag_at s.mc_prediction g < 2
    flag-below g = if-below s.mc_prediction_on 1 (status-fits.flag_small g)
