-- The values that the code makes of an accepted payload are those of its record, and its codes are as the values need them.
use Rattle.std.specs.Prelude.{◌≡◌, Bool, true, false, cond, List, [], ◌∷◌, ℕ, zero, suc, ◌+◌, ◌*◌, ◌/◌, ◌%◌, ◌≤◌, ◌<◌, ltb}
use Rattle.std.proofs.Math.Path.{refl, ap}
use Rattle.std.proofs.Common.{◌∙◌, lt_of_lt_of_le, pow_mono, ne_eqb}
use native.Mathlib.Omega.{arith}
use Rattle.std.specs.Float.{nan}
use Rattle.std.proofs.Math.ListN.{get_or}
use Rattle.fill.specs.Tab.{tab}
use Rattle.fill.proofs.TabLaws.{get_or-tab, tab-same}
use Rattle.bitalloc.specs.Classes.{is_class, class_of, grouped}
use Rattle.bitalloc.specs.declared.QuantClass.{QuantClass}
use Rattle.bitalloc.proofs.Places.{class-steps, class-none}
use Rattle.requant.specs.Requant
use Rattle.requant.specs.Requant.{requantized, degrouped}
use Rattle.mc_fields.specs.Head.{bits_if}
use Rattle.mc_payload.specs.declared.McSettings.{McSettings}
use Rattle.mc_payload.specs.Places.{own_at, place, own_of}
use Rattle.mc_payload.specs.Payload.{Codes}
use Rattle.mc_payload.specs.Record.{delays_of, coefs_of, sample_code_of, excess_at, raw_at, raw_of, lfe_at, lfe_of, excesses_of}
use Rattle.mc_values.specs.Values.{delays_in, delays_from, coef_by, coefs_in, coefs_from, three_codes, three_values, first_at, values_at, raw_by, raw_in, raw_from, code_excess, excess_by, excess_in, excesses_from, lfe_by, lfe_from, SamplesFit, LfeFits}
use Rattle.mc_payload.proofs.Demand3.Widths.{CodesFit}

-- ---- predictors and LFE samples

pub delays-record : (c : Codes) → delays_from c.1.0 ≡ delays_of c
unfolding delays_from delays_in delays_of
delays-record c = refl

pub coefs-record : (predsi : List ℕ) (c : Codes) → coefs_from predsi c.1.0 ≡ coefs_of predsi c
unfolding coefs_from coefs_in coef_by coefs_of
coefs-record predsi c = refl

pub lfe-record : (lfe : ℕ) (c : Codes) → lfe_from lfe c.1.1.0 c.1.1.1.1 ≡ lfe_of lfe c
unfolding lfe_from lfe_by lfe_of lfe_at
lfe-record lfe c = refl

-- ---- raw values

-- a step count that groups is that of a class
grouped-steps : (n : ℕ) → grouped n ≡ true → (class_of n).nb_steps ≡ n
grouped-steps n g = go (is_class n) refl
  where
    go : (t : Bool) → is_class n ≡ t → (class_of n).nb_steps ≡ n
    go true e = class-steps n (rw e tt)
    go false e =
        let f = ap (λ (q : QuantClass). q.grouping) (class-none n (rw e tt)) in
        let z : ◌≡◌ {A = ℕ} 0 1 = cc in
        absurd (omega arith)

three-at : (class : QuantClass) (x y z k : ℕ) → k < 3
    → get_or (three_values class x y z) k nan ≡ requantized class (get_or (three_codes class.grouping class.nb_steps x y z) k 0)
unfolding three_values
three-at class x y z zero h = refl
three-at class x y z (suc zero) h = refl
three-at class x y z (suc (suc zero)) h = refl
three-at class x y z (suc (suc (suc k))) h = absurd (omega arith)

-- the code k of the three of place i in granule gr
module _ (n : ℕ) (granules : List ℕ) (gr i : ℕ) where
  code_at : (k : ℕ) → k < 3
      → get_or (three_codes (grouped n) (class_of n).nb_steps (get_or granules (first_at gr i) 0) (get_or granules (first_at gr i + 1) 0) (get_or granules (first_at gr i + 2) 0)) k 0
      ≡ cond (grouped n) (get_or (degrouped n (get_or granules (first_at gr i + 0) 0)) k 0) (get_or granules (first_at gr i + k) 0)
  unfolding three_codes
  code_at k h = go (grouped n) refl k h
    where
      e : first_at gr i + 0 ≡ first_at gr i
      e = omega arith

      go : (g : Bool) → grouped n ≡ g → (k : ℕ) → k < 3
          → get_or (cond g (degrouped (class_of n).nb_steps (get_or granules (first_at gr i) 0)) (get_or granules (first_at gr i) 0 ∷ get_or granules (first_at gr i + 1) 0 ∷ get_or granules (first_at gr i + 2) 0 ∷ [])) k 0
          ≡ cond g (get_or (degrouped n (get_or granules (first_at gr i + 0) 0)) k 0) (get_or granules (first_at gr i + k) 0)
      go true g k h = rw (e, grouped-steps n g)
      go false g zero h = rw e
      go false g (suc zero) h = refl
      go false g (suc (suc zero)) h = refl
      go false g (suc (suc (suc k))) h = absurd (omega arith)

module _ (s : McSettings) (c : Codes) where
  raw-by : (n m slot sb : ℕ) → raw_by n c.1.1.1.1 (3 * sb + m) slot ≡ Requant.raw_of n (sample_code_of n c m slot sb)
  unfolding raw_by values_at
  raw-by n m slot sb =
      let h : slot % 3 < 3 = omega arith in
      three-at (class_of n) _ _ _ (slot % 3) h ∙ ap (requantized (class_of n)) (code_at n c.1.1.1.1 (slot / 3) (3 * sb + m) (slot % 3) h)

  raw-at : (m slot sb : ℕ) → m < 3 → sb < 32 → raw_in (own_of s) c.1.1.1.1 m slot sb ≡ raw_at s c m slot sb
  unfolding raw_in raw_at own_of
  raw-at m slot sb hm hs =
      let i : (3 * sb + m) % 3 ≡ m = omega arith in
      let j : (3 * sb + m) / 3 ≡ sb = omega arith in
      let own : get_or (tab (place (own_at s)) 96) (3 * sb + m) 0 ≡ own_at s m sb = get_or-tab 0 (place (own_at s)) 96 (3 * sb + m) (omega arith) ∙ rw (i, j) in
      rw (own, raw-by (own_at s m sb) m slot sb)

  pub raw-record : raw_from (own_of s) c.1.1.1.1 ≡ raw_of s c
  unfolding raw_from raw_of
  raw-record = tab-same 3456 (λ k h. raw-at (k / 1152) (k / 32 % 36) (k % 32) (omega arith) (omega arith))

  -- ---- excesses of group codes

  excess-at : (k : ℕ) → k < 1152 → excess_in (own_of s) c.1.1.1.1 k ≡ excess_at s c (k % 12) (k / 12 % 3) (k / 36)
  unfolding excess_in excess_by code_excess excess_at own_of
  excess-at k h =
      let own : get_or (tab (place (own_at s)) 96) (k / 12) 0 ≡ own_at s (k / 12 % 3) (k / 12 / 3) = get_or-tab 0 (place (own_at s)) 96 (k / 12) (omega arith) in
      let sb : k / 12 / 3 ≡ k / 36 = omega arith in
      let at : first_at (k % 12) (k / 12) ≡ 289 * (k % 12) + 1 + 3 * (3 * (k / 36) + k / 12 % 3) + 0 = omega arith in
      rw (own, sb, at)

  pub excess-record : excesses_from (own_of s) c.1.1.1.1 ≡ excesses_of s c
  unfolding excesses_from excesses_of
  excess-record = tab-same 1152 (λ k h. excess-at k h)

-- ---- the codes of an accepted payload

module _ (lfe : ℕ) (predsi steps own : List ℕ) (c : Codes) (f : CodesFit lfe predsi steps own c) where
  pub samples-fit : SamplesFit own c.1.1.1.1
  samples-fit =
      record {
        place = λ i h n gr k hg hk g.
            let o : (first_at gr i + k) % 289 ≡ suc (3 * i + k) = omega arith in
            let d : (3 * i + k) / 3 ≡ i = omega arith in
            rw (o, d, ne_eqb (get_or own i 0) 0 n, g) at (f.granules.entry (first_at gr i + k));
      }

  pub lfe-fits : LfeFits lfe c.1.1.1.1
  lfe-fits =
      record {
        code = λ gr h.
            let o : 289 * gr % 289 ≡ 0 = omega arith in
            lt_of_lt_of_le (rw o at (f.granules.entry (289 * gr))) (pow_mono (most (ltb 0 lfe)));
      }
    where
      most : (t : Bool) → bits_if t (lfe + 1) ≤ lfe + 1
      most true = omega arith
      most false = omega arith
