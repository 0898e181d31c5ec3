-- No accepted head uses more than 232 bits.
use Rattle.std.specs.Prelude.{◌≡◌, Bool, true, false, ◌&&◌, cond, List, ℕ, ◌+◌, ◌*◌, ◌≤◌, eqb, ltb, replicate}
use Rattle.std.proofs.Common.{arith, lit≤}
use Rattle.bits.specs.Syntax.{accepted, run}
use Rattle.bits.proofs.Width.{AtMost, most-done, most-refuse, most-le, most-field, most-cond, most-bind, most-both, most-times, used-most}
use Rattle.mc_config.proofs.CaseLaws.{cond-all}
use Rattle.mc_config.specs.Config.{has_centre, front_of, cross_bits_of, pair_of, config_of}
use Rattle.mc_config.specs.Reading.{centre_stops}
use Rattle.mc_config.proofs.ConfigLaws.{tc-bits-config, cross-bits-most}
use Rattle.mc_crosstalk.specs.Crosstalk.{predictors_of}
use Rattle.mc_crosstalk.proofs.CrosstalkLaws.{predictors-most}
use Rattle.mc_config.specs.declared.McConfig.{McConfig}
use Rattle.mc_config.specs.declared.McHeader.{McHeader}
use Rattle.mc_fields.proofs.BitsIfLaws.{if-most}
use Rattle.mc_fields.specs.Head.{bits_if, mc_header, mc_error_check, tc_at, tc_allocation, dyn_cross_at, dyn_cross, mode_at, predsi_at, prediction_at, prediction, first_forbidden, check_modes, mc_composite_status_info, head}
use Rattle.mc_fields.specs.declared.McStatus.{McStatus}

header-most : AtMost mc_header 24
unfolding mc_header
header-most =
    most-field 23 (lit≤ tt)
    (λ ext h₁. most-field 15 (omega (arith, if-most (eqb ext 1) 8))
    (λ bytes h₂. most-field 13 (lit≤ tt)
    (λ centre h₃. most-field 11 (lit≤ tt)
    (λ surround h₄. most-field 10 (lit≤ tt)
    (λ lfe h₅. most-field 9 (lit≤ tt)
    (λ mix h₆. most-field 7 (lit≤ tt)
    (λ procedure h₇. most-field 4 (lit≤ tt)
    (λ lingual h₈. most-field 3 (lit≤ tt)
    (λ half h₉. most-field 2 (lit≤ tt)
    (λ layer3 h₁₀. most-field 1 (lit≤ tt)
    (λ bit h₁₁. most-field 0 (lit≤ tt)
    (λ start h₁₂. most-done))))))))))))

tc-most : (once : Bool) (bits : ℕ) → bits ≤ 3 → AtMost (tc_allocation once bits) 36
unfolding tc_allocation tc_at
tc-most once bits h =
    most-cond once (most-field 0 (omega arith) (λ v b. most-done))
    (most-times 12 0 (replicate 12 0) {w = 3} (λ g a. most-field 0 (omega arith) (λ v b. most-done)))

cross-most : (mode_bits second_bits : ℕ) → mode_bits + second_bits ≤ 4 → AtMost (dyn_cross mode_bits second_bits) 48
unfolding dyn_cross dyn_cross_at
cross-most mode_bits second_bits h =
    most-times 12 0 (replicate 24 0) {w = 4}
    (λ g a. most-field second_bits (omega arith) (λ mode b. most-field 0 (omega arith) (λ second b. most-done)))

-- a flag, and two bits for each of at most six predictors
prediction-most : (on : Bool) (predictors : ℕ → ℕ) → ((g : ℕ) → predictors g ≤ 6) → AtMost (prediction on predictors) 104
unfolding prediction prediction_at predsi_at
prediction-most on predictors h =
    most-times 8 0 (replicate 56 0) {w = 13}
    (λ g a. most-field 12 (omega (arith, if-most on 1))
    (λ flag b. most-le (counts (eqb flag 1) g) (most-times (cond (eqb flag 1) (predictors g) 0) 0 _ {w = 2} (λ px a. most-field 0 (lit≤ tt) (λ n b. most-done)))))
  where
    counts : (flag : Bool) (g : ℕ) → cond flag (predictors g) 0 * 2 ≤ 12
    counts true g = omega (arith, h g)
    counts false g = lit≤ tt

status-most : (c : McConfig) → c.tc_allocation_bits ≤ 3 → ((on : Bool) → bits_if on c.dyn_cross_bits + bits_if (on && c.second_stereo) 1 ≤ 4)
    → AtMost (mc_composite_status_info c) 192
unfolding mc_composite_status_info check_modes
status-most c tc cross =
    most-field 191 (lit≤ tt)
    (λ once h₁. most-field 190 (lit≤ tt)
    (λ on h₂. most-field 189 (lit≤ tt)
    (λ predict h₃. most-bind 153 (lit≤ tt) (tc-most (eqb once 1) c.tc_allocation_bits tc)
    (λ table. most-field 152 (omega (arith, if-most (eqb on 1) 1))
    (λ lr h₄. most-bind 104 (lit≤ tt)
    (cross-most (bits_if (eqb on 1) c.dyn_cross_bits) (bits_if (eqb on 1 && c.second_stereo) 1) (cross (eqb on 1)))
    (λ modes. most-bind 0 (lit≤ tt)
    (prediction-most (eqb predict 1) (λ g. predictors_of (pair_of c) (mode_at modes g)) (λ g. predictors-most (pair_of c) (mode_at modes g)))
    (λ counts. most-cond (ltb (first_forbidden (pair_of c) modes 12 0) 12) most-refuse most-done)))))))

-- a code of four bits and a second stereo bit do not go together
cross-second-most : (h : McHeader) (base_channels : ℕ) (on : Bool)
    → bits_if on (config_of h base_channels).dyn_cross_bits + bits_if (on && (config_of h base_channels).second_stereo) 1 ≤ 4
unfolding config_of
cross-second-most h base_channels false = lit≤ tt
cross-second-most h base_channels true = most (eqb h.surround 3)
  where
    most : (second : Bool) → cross_bits_of (10 * front_of base_channels h.centre + cond second 0 h.surround) + bits_if second 1 ≤ 4
    most true =
        cond-all (λ front. cross_bits_of (10 * front + 0) + 1 ≤ 4) (eqb base_channels 1) (lit≤ tt)
        (cond-all (λ front. cross_bits_of (10 * front + 0) + 1 ≤ 4) (has_centre h.centre) (lit≤ tt) (lit≤ tt))
    most false = omega (arith, cross-bits-most (10 * front_of base_channels h.centre + h.surround))

pub head-most : (reading base_channels : ℕ) → AtMost (head reading base_channels) 232
unfolding head mc_error_check
head-most reading base_channels =
    most-both 208 (lit≤ tt) header-most
    (λ h. most-cond (centre_stops reading h.centre) most-refuse
    (most-both {w = 16} 192 (lit≤ tt) (most-field 0 (lit≤ tt) (λ word b. most-done))
    (λ word. status-most (config_of h base_channels) (tc-bits-config h base_channels) (cross-second-most h base_channels))))

pub head-used : (reading base_channels : ℕ) (bytes : List ℕ) (bits : ℕ) (r : McHeader × (ℕ × McStatus)) (used : ℕ)
    → run (head reading base_channels) bytes bits 0 ≡ accepted r used → used ≤ 232
head-used reading base_channels bytes bits r used e = omega (arith, used-most bytes bits 0 r used e (head-most reading base_channels))
