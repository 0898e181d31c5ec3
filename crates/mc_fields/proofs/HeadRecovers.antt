-- The value of each field of a head is found in what it yields, so that equal heads come of the same bits.
use Rattle.std.specs.Prelude.{◌≡◌, refl, Bool, true, false, ◌&&◌, cond, List, ℕ, ◌+◌, ◌*◌, ◌≤◌, eqb, ltb, get_or, set, replicate}
use Rattle.std.proofs.Common.{arith}
use Rattle.bits.specs.Syntax.{Syntax}
use Rattle.bits.specs.Recovers.{Finds, Recovers}
use Rattle.bits.proofs.Unique.{finds-done, finds-refuse, finds-field, finds-cond, finds-weaken, finds-bind, finds-times, finds-along, recovers-both, flag-value}
use Rattle.bits.proofs.TableFill.{Filling, fill-up, fill-set, recovers-loop}
use Rattle.mc_config.specs.Config.{config_of, pair_of}
use Rattle.mc_config.specs.Reading.{centre_stops}
use Rattle.mc_crosstalk.specs.Crosstalk.{predictors_of}
use Rattle.mc_crosstalk.proofs.CrosstalkLaws.{predictors-most}
use Rattle.mc_config.specs.declared.McConfig.{McConfig}
use Rattle.mc_fields.proofs.BitsIfLaws.{flag-if}
use Rattle.mc_fields.specs.Head.{bits_if, mc_header, mc_error_check, tc_at, tc_allocation, dyn_cross_at, dyn_cross, mode_at, predsi_at, prediction_at, prediction, first_forbidden, check_modes, mc_composite_status_info, head}
use Rattle.mc_fields.specs.declared.McStatus.{McStatus}

-- the value of a flag that is kept as a truth value
value_of : Bool → ℕ
value_of t = cond t 1 0

-- ---- mc_header()

header-recovers : Recovers mc_header
unfolding mc_header value_of
header-recovers =
    finds-field (λ r. value_of r.ext_bit_stream_present)
    (λ ext h₁. finds-field (λ r. r.n_ad_bytes)
    (λ bytes h₂. finds-field (λ r. r.centre)
    (λ centre h₃. finds-field (λ r. r.surround)
    (λ surround h₄. finds-field (λ r. value_of r.lfe)
    (λ lfe h₅. finds-field (λ r. value_of r.audio_mix)
    (λ mix h₆. finds-field (λ r. r.dematrix_procedure)
    (λ procedure h₇. finds-field (λ r. r.no_of_multi_lingual_ch)
    (λ lingual h₈. finds-field (λ r. value_of r.multi_lingual_fs_half)
    (λ half h₉. finds-field (λ r. value_of r.multi_lingual_layer3)
    (λ layer3 h₁₀. finds-field (λ r. value_of r.copyright_identification_bit)
    (λ bit h₁₁. finds-field (λ r. value_of r.copyright_identification_start)
    (λ start h₁₂. finds-done (
      (((((((((((tt, flag-value ext h₁), refl), refl), refl), flag-value lfe h₅), flag-value mix h₆), refl), refl), flag-value half h₉), flag-value layer3 h₁₀), flag-value bit h₁₁),
      flag-value start h₁₂,
    )))))))))))))

-- ---- mc_composite_status_info()

tc-recovers : (once : Bool) (bits : ℕ) → Recovers (tc_allocation once bits)
unfolding tc_allocation tc_at
tc-recovers once bits =
    finds-cond once
    (λ e. finds-field (λ r. get_or r 0 0) (λ v h. finds-done (tt, refl)))
    (λ e. recovers-loop 12 12 (λ g. g) (tc_at bits) (replicate 12 0) refl
    (λ g a L b q. finds-field (λ r. get_or r g 0) (λ v h. finds-done (fill-set a g v (omega arith) (omega arith) q (λ r l e. (l, e))))))

cross-recovers : (mode_bits second_bits : ℕ) → Recovers (dyn_cross mode_bits second_bits)
unfolding dyn_cross dyn_cross_at
cross-recovers mode_bits second_bits =
    recovers-loop 24 12 (λ g. 2 * g) (dyn_cross_at mode_bits second_bits) (replicate 24 0) refl
    (λ g a L b q. finds-field (λ r. get_or r (2 * g) 0)
    (λ mode h. finds-field (λ r. get_or r (2 * g + 1) 0)
    (λ second h'. finds-done
    (fill-set (set a (2 * g) mode) (2 * g + 1) second (omega arith) (omega arith)
    (fill-set a (2 * g) mode {P = λ r. L r × (get_or r (2 * g) 0 ≡ mode)} (omega arith) (omega arith) q (λ r l e. (l, e)))
    (λ r l e. (l, e))))))

counted : (flag : Bool) (n : ℕ) → n ≤ 6 → cond flag n 0 ≤ 6
counted true n h = h
counted false n h = omega arith

prediction-recovers : (on : Bool) (predictors : ℕ → ℕ) → ((g : ℕ) → predictors g ≤ 6) → Recovers (prediction on predictors)
unfolding prediction prediction_at predsi_at
prediction-recovers on predictors h6 =
    recovers-loop 56 8 (λ g. 7 * g) (prediction_at on predictors) (replicate 56 0) refl
    (λ g a L b q. finds-field (λ r. get_or r (7 * g) 0)
    (λ flag h.
    let n = cond (eqb flag 1) (predictors g) 0 in
    let most : n ≤ 6 = counted (eqb flag 1) (predictors g) (h6 g) in
    finds-weaken
    (finds-times n 0 (λ px. Filling 56 (7 * g + 1 + px)) (fill-set a (7 * g) flag (omega arith) (omega arith) q (λ r l e. (l, e)))
    (λ px t M below p. finds-field (λ r. get_or r (7 * g + 1 + px) 0)
    (λ v hv. finds-done (fill-set t (7 * g + 1 + px) v (omega arith) (omega arith) p (λ r l e. (l, e))))))
    (λ t M p. fill-up (omega arith) p)))

status-recovers : (c : McConfig) → Recovers (mc_composite_status_info c)
unfolding mc_composite_status_info check_modes value_of
status-recovers c =
    finds-field (λ s. value_of s.tc_sbgr_select)
    (λ once h₁. finds-field (λ s. value_of s.dyn_cross_on)
    (λ cross h₂. finds-field (λ s. value_of s.mc_prediction_on)
    (λ predict h₃. finds-bind (along (λ s. s.tc_allocation) (tc-recovers (eqb once 1) c.tc_allocation_bits))
    (λ tc L₁ q₁. finds-field (λ s. value_of s.dyn_cross_lr)
    (λ lr h₄. finds-bind
    (along (λ s. s.dyn_cross) (cross-recovers (bits_if (eqb cross 1) c.dyn_cross_bits) (bits_if (eqb cross 1 && c.second_stereo) 1)))
    (λ modes L₂ q₂. finds-bind
    (along (λ s. s.mc_prediction)
    (prediction-recovers (eqb predict 1) (λ g. predictors_of (pair_of c) (mode_at modes g)) (λ g. predictors-most (pair_of c) (mode_at modes g))))
    (λ counts L₃ q₃. finds-cond (ltb (first_forbidden (pair_of c) modes 12 0) 12) (λ e. finds-refuse)
    (λ e. finds-done
    (q₃ _
    (q₂ _ (q₁ _ (((tt, flag-value once h₁), flag-value cross h₂), flag-value predict h₃) refl, flag-if (eqb cross 1) lr h₄) refl)
    refl)))))))))
  where
    -- a part that recovers its own result, which the status holds at π
    along : (π : McStatus → List ℕ) {m : Syntax (List ℕ)} {M : McStatus → Type 0} → Recovers m → Finds m M (λ a M'. (s : McStatus) → M s → π s ≡ a → M' s)
    along π {m} {M} o = finds-along π M M (λ s n. n) o

-- ---- the whole head

pub head-recovers : (reading base_channels : ℕ) → Recovers (head reading base_channels)
unfolding head mc_error_check
head-recovers reading base_channels =
    recovers-both header-recovers
    (λ h. finds-cond (centre_stops reading h.centre) (λ e. finds-refuse)
    (λ e. recovers-both (finds-field (λ word. word) (λ word b. finds-done (tt, refl))) (λ word. status-recovers (config_of h base_channels))))
