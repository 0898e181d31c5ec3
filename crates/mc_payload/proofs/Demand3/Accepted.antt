-- What is known of an accepted payload: what was lent fits, and its codes were read from its bits.
use Rattle.std.specs.Prelude.{◌≡◌, refl, Bool, true, false, ◌&&◌, ◌||◌, cond, List, ℕ, zero, suc, ◌+◌, ◌*◌, ◌/◌, ◌%◌, ◌≤◌, ◌<◌, leb, get_or}
use Rattle.std.proofs.Common.{eq-or-lt_of_le, le_of_suc-le-suc, arith, ⊎_elim, leb-true, ne_eqb}
use Rattle.bits.specs.Syntax.{Refusal, Outcome, accepted, refused, run}
use Rattle.fill.proofs.TabLaws.{get_or-tab}
use Rattle.bitalloc.specs.Classes.{is_class}
use Rattle.mc_config.specs.Reading.{reading_fits}
use Rattle.mc_fields.specs.Lent.{string_fits, base_fits}
use Rattle.mc_payload.specs.declared.McSettings.{McSettings}
use Rattle.mc_payload.specs.Places.{transmitted, steps_at, own_at, place, steps_of, own_of}
use Rattle.mc_payload.specs.Payload.{Codes}
use Rattle.fill.specs.Each.{each}
use Rattle.mc_payload.specs.Unpack.{rate_fits, loan_fits, allocation_fits, allocations_fit, payload_of, Loan, settings_of, unpack_of}

-- ---- tests

pub both_true : (s t : Bool) → (s && t) ≡ true → (s ≡ true) × (t ≡ true)
both_true true t e = (refl, e)
both_true false t e = let z : ◌≡◌ {A = ℕ} 0 1 = cc in absurd (omega arith)

pub second-true : (s t : Bool) → (s || t) ≡ true → s ≡ false → t ≡ true
second-true true t e f = let z : ◌≡◌ {A = ℕ} 0 1 = cc in absurd (omega arith)
second-true false t e f = e

pub each_at : (test : ℕ → Bool) (n k : ℕ) → each test n ≡ true → k < n → test k ≡ true
unfolding each
each_at test zero k e h = absurd (omega arith)
each_at test (suc n) k e h =
    let s = both_true (each test n) (test n) e in
    ⊎_elim (λ q. rw q s.1) (λ l. each_at test n k s.0 l) (eq-or-lt_of_le (le_of_suc-le-suc h))

-- what was tested before acceptance holds
passed : {A : Type 0} (t : Bool) (o : Outcome A) (x : Refusal) (a : A) (u : ℕ) → cond t o (refused x) ≡ accepted a u → (t ≡ true) × (o ≡ accepted a u)
passed true o x a u e = (refl, e)
passed false o x a u e = let z : ◌≡◌ {A = ℕ} 0 1 = cc in absurd (omega arith)

-- ---- an accepted payload

-- reading, rate, base channel count, LFE allocation and step counts may be lent
abbrev pub Lent : Loan → Type 0
Lent l = loan_fits l.reading l.rate l.base_channels l.lfe l.steps l.base_steps ≡ true

pub record Accepted (l : Loan) (b : List ℕ) (n : ℕ) (c : Codes) (u : ℕ) : Type 0 where
  pub string : string_fits b n ≡ true
  pub lent : Lent l
  pub allocated : allocations_fit (settings_of l) ≡ true
  pub ran : run (payload_of (settings_of l)) b n 0 ≡ accepted c u

module _ (l : Loan) (b : List ℕ) (n : ℕ) where
  pub unpack-accepts : (c : Codes) (u : ℕ) → unpack_of l b n ≡ accepted c u → Accepted l b n c u
  unfolding unpack_of
  unpack-accepts c u e =
      let outer = passed _ _ _ c u e in
      let inner = passed _ _ _ c u outer.1 in
      let loan = both_true _ _ outer.0 in
      record { string = loan.0; lent = loan.1; allocated = inner.0; ran = inner.1 }

  -- a string that may be lent is run
  pub unpack-runs : string_fits b n ≡ true → Lent l → allocations_fit (settings_of l) ≡ true → unpack_of l b n ≡ run (payload_of (settings_of l)) b n 0
  unfolding unpack_of
  unpack-runs s k a = rw (s, k, a)

-- the LFE allocation is at most 15
pub lfe-low : (l : Loan) → Lent l → l.lfe ≤ 15
unfolding loan_fits
lfe-low l e =
    let reading = both_true (reading_fits l.reading) _ e in
    let rate = both_true (rate_fits l.rate) _ reading.1 in
    let base = both_true (base_fits l.base_channels) _ rate.1 in
    leb-true l.lfe 15 (both_true (leb l.lfe 15) _ base.1).0

-- ---- the tables of step counts, by place

module _ (s : McSettings) (j : ℕ) (h : j < 96) where
  pub steps-at : get_or (steps_of s) j 0 ≡ steps_at s (j % 3) (j / 3)
  unfolding steps_of
  steps-at = get_or-tab 0 (place (steps_at s)) 96 j h

  pub own-at : get_or (own_of s) j 0 ≡ own_at s (j % 3) (j / 3)
  unfolding own_of
  own-at = get_or-tab 0 (place (own_at s)) 96 j h

-- samples in the payload are of one of the 17 classes
pub own-class : (s : McSettings) (m sb : ℕ) → allocations_fit s ≡ true → m < 3 → sb < 32 → (own_at s m sb ≡ 0 → ⊥) → is_class (own_at s m sb) ≡ true
unfolding allocations_fit own_at
own-class s m sb e hm hs = go (transmitted s m sb)
  where
    fits : allocation_fits s (32 * m + sb) ≡ true
    fits = each_at (allocation_fits s) 96 (32 * m + sb) (both_true _ _ e).0 (omega arith)

    go : (t : Bool) → (cond t (get_or s.nb_steps (32 * m + sb) 0) 0 ≡ 0 → ⊥) → is_class (cond t (get_or s.nb_steps (32 * m + sb) 0) 0) ≡ true
    go true k = (both_true _ _ (second-true _ _ fits (ne_eqb _ 0 k))).0
    go false k = absurd (k refl)
