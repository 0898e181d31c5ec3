-- Laws of the configuration: what holds for every front and surround, and for every header.
use Rattle.std.specs.Prelude.{◌≡◌, Bool, ℕ, ◌+◌, ◌*◌, ◌-◌, ◌≤◌, eqb, length}
use Rattle.std.proofs.Math.Path.{refl}
use Rattle.std.proofs.Math.Bool.{true, false, cond}
use Rattle.std.proofs.Common.{arith, lit≤, length-append}
use Rattle.mc_config.proofs.CaseLaws.{Other, by_pair-all, by_pair-other, cond-all}
use Rattle.mc_config.specs.Config.{main_of, tc_bits_of, cross_bits_of, pair_of, config_of, front_channels, surround_channels, layout_of, has_centre, front_of, surround_of}
use Rattle.mc_config.specs.declared.McHeader.{McHeader}
use Rattle.mc_config.specs.declared.McConfig.{McConfig}

pub main-other : {pair : ℕ} → Other pair → main_of pair ≡ 0
main-other o = by_pair-other {X = ℕ} 3 2 1 2 1 0 o

pub main-most : (pair : ℕ) → main_of pair ≤ 3
main-most = by_pair-all (λ n. n ≤ 3) (lit≤ tt) (lit≤ tt) (lit≤ tt) (lit≤ tt) (lit≤ tt) (lit≤ tt)

pub tc-bits-most : (pair : ℕ) → tc_bits_of pair ≤ 3
tc-bits-most = by_pair-all (λ n. n ≤ 3) (lit≤ tt) (lit≤ tt) (lit≤ tt) (lit≤ tt) (lit≤ tt) (lit≤ tt)

pub cross-bits-most : (pair : ℕ) → cross_bits_of pair ≤ 4
cross-bits-most = by_pair-all (λ n. n ≤ 4) (lit≤ tt) (lit≤ tt) (lit≤ tt) (lit≤ tt) (lit≤ tt) (lit≤ tt)

-- ---- the layout: one to five channels

pub front_length : (front : ℕ) → (1 ≤ length (front_channels front)) × (length (front_channels front) ≤ 3)
front_length front =
    cond-all (λ xs. (1 ≤ length xs) × (length xs ≤ 3)) (eqb front 1) (omega arith)
    (cond-all (λ xs. (1 ≤ length xs) × (length xs ≤ 3)) (eqb front 3) (omega arith) (omega arith))

pub surround-length : (surround : ℕ) (second : Bool) → length (surround_channels surround second) ≤ 2
surround-length surround second =
    cond-all (λ xs. length xs ≤ 2) (eqb surround 2) (lit≤ tt)
    (cond-all (λ xs. length xs ≤ 2) (eqb surround 1) (lit≤ tt) (cond-all (λ xs. length xs ≤ 2) second (lit≤ tt) (lit≤ tt)))

pub layout-length : (c : McConfig) → (1 ≤ length (layout_of c)) × (length (layout_of c) ≤ 5)
unfolding layout_of
layout-length c =
    let front = front_length c.front in
    let surround = surround-length c.surround c.second_stereo in
    rw (length-append (front_channels c.front) (surround_channels c.surround c.second_stereo)) (omega arith)

-- ---- the configuration of any header

module _ (h : McHeader) (base_channels : ℕ) where
  -- the channels of the extension: the main ones, and two of a second stereo programme
  pub nmch-config : (config_of h base_channels).nmch ≡ main_of (pair_of (config_of h base_channels)) + cond (config_of h base_channels).second_stereo 2 0
  unfolding config_of
  nmch-config = refl

  -- so the main channels can be had by subtraction
  pub main-config : (config_of h base_channels).nmch - cond (config_of h base_channels).second_stereo 2 0 ≡ main_of (pair_of (config_of h base_channels))
  main-config = omega (arith, nmch-config)

  pub nmch-most : (config_of h base_channels).nmch ≤ 3
  unfolding config_of
  nmch-most = most (eqb h.surround 3)
    where
      most : (second : Bool) → main_of (10 * front_of base_channels h.centre + cond second 0 h.surround) + cond second 2 0 ≤ 3
      most true =
          cond-all (λ front. main_of (10 * front + 0) + 2 ≤ 3) (eqb base_channels 1) (lit≤ tt)
          (cond-all (λ front. main_of (10 * front + 0) + 2 ≤ 3) (has_centre h.centre) (lit≤ tt) (lit≤ tt))
      most false = omega (arith, main-most (10 * front_of base_channels h.centre + h.surround))

  pub tc-bits-config : (config_of h base_channels).tc_allocation_bits ≤ 3
  unfolding config_of
  tc-bits-config = tc-bits-most (10 * front_of base_channels h.centre + surround_of h.surround)

  pub cross-bits-config : (config_of h base_channels).dyn_cross_bits ≤ 4
  unfolding config_of
  cross-bits-config = cross-bits-most (10 * front_of base_channels h.centre + surround_of h.surround)
