-- The record, with the excesses of its group codes, decides the codes of an accepted payload.
use Rattle.std.specs.Prelude.{◌≡◌, refl, Bool, false, cond, List, ℕ, zero, suc, ◌+◌, ◌*◌, ◌/◌, ◌%◌, ◌^◌, ◌≤◌, ◌<◌, eqb, get_or}
use Rattle.std.proofs.Common.{sym, ap, ◌∙◌}
use Rattle.std.proofs.Math.Bool.{true}
use native.Mathlib.Omega.{arith}
use Rattle.std.proofs.Math.Decide.{ℕ_discrete}
use Rattle.std.proofs.Math.Dec.{ltb}
use borrow.Author.Tests.{eqb-true, ltb-true, eq-eqb, ne_eqb}
use Rattle.bits.proofs.TableFits.{fits-same}
use Rattle.bitalloc.specs.Classes.{grouped, is_class}
use Rattle.requant.specs.Requant.{raw_of, degrouped}
use Rattle.mc_fields.specs.Head.{bits_if, count_at}
use Rattle.mc_payload.specs.declared.McSettings.{McSettings}
use Rattle.mc_payload.specs.Places.{own_at, own_of}
use Rattle.mc_payload.specs.Payload.{Codes}
use Rattle.mc_payload.specs.Record.{code_of, excess_at, raw_at, lfe_at}
use Rattle.mc_payload.specs.Unpack.{allocations_fit}
use Rattle.mc_payload.specs.Demand3.{SameFloat, SameRecord, SameWhole}
use Rattle.mc_payload.proofs.Demand3.Accepted.{steps-at, own-at, own-class}
use Rattle.mc_payload.proofs.Demand3.Widths.{Fitting, predictor_width, sample_width, granule_width}
use Rattle.mc_payload.proofs.Demand3.Values.{single-one, group-one, lfe-one, coefficient-one}

-- ---- where a width is not 0

some-steps : (n w : ℕ) → 0 < cond (eqb n 0) 0 w → n ≡ 0 → ⊥
some-steps n w h e = let z : 0 < 0 = rw (eq-eqb n 0 e) at h in omega arith

some-if : (t : Bool) (w : ℕ) → 0 < bits_if t w → t ≡ true
some-if true w h = refl
some-if false w h = absurd (omega arith)

-- ---- a raw value, by its granule and its place in it

raw-at : (s : McSettings) (c : Codes) (m gr sb k : ℕ) (t : Bool) → grouped (own_at s m sb) ≡ t → k < 3 → (own_at s m sb ≡ 0 → ⊥)
    → raw_at s c m (3 * gr + k) sb ≡ raw_of (own_at s m sb) (cond t (get_or (degrouped (own_at s m sb) (code_of c gr m sb 0)) k 0) (code_of c gr m sb k))
unfolding raw_at
raw-at s c m gr sb k t e h some =
    let n = own_at s m sb in
    let q : (3 * gr + k) / 3 ≡ gr = omega arith in
    let r : (3 * gr + k) % 3 ≡ k = omega arith in
    rw (ne_eqb n 0 some, q, r) (ap (λ (t : Bool). raw_of n (cond t (get_or (degrouped n (code_of c gr m sb 0)) k 0) (code_of c gr m sb k))) e)

-- ---- two accepted payloads under the same settings, whose records are equal

module _ (s : McSettings) (c c' : Codes) (alloc : allocations_fit s ≡ true) (low : s.lfe_allocation ≤ 15) (f : Fitting s c) (f' : Fitting s c')
    (same : SameWhole s c c')
  where
    abbrev r : SameRecord s c c'
    r = same.entries

    abbrev predsi : List ℕ
    predsi = s.status.mc_prediction

    abbrev lfe : ℕ
    lfe = s.lfe_allocation

    same-scfsi : c.0 ≡ c'.0
    same-scfsi =
        fits-same f.scfsi f'.scfsi
        (λ j h w. let e : 3 * (j / 3) + j % 3 ≡ j = omega arith in
        rw e at (r.scfsi (j % 3) (j / 3) (omega arith) (omega arith) (λ z. some-steps _ 2 w (steps-at s j h ∙ z))))

    same-scalefactors : c.1.1.1.0 ≡ c'.1.1.1.0
    same-scalefactors =
        fits-same f.scalefactors f'.scalefactors
        (λ j h w. let i = j / 3 in
        let e : 3 * (3 * (j / 3 / 3) + j / 3 % 3) + j % 3 ≡ j = omega arith in
        rw e at (r.scalefactors (j / 3 % 3) (j / 3 / 3) (j % 3) (omega arith) (omega arith) (omega arith) (λ z. some-steps _ 6 w (steps-at s (j / 3) (omega arith) ∙ z))))

    same-lf_scalefactor : c.1.1.0 ≡ c'.1.1.0
    same-lf_scalefactor = go (ℕ_discrete lfe 0)
      where
        go : Dec (lfe ≡ 0) → c.1.1.0 ≡ c'.1.1.0
        go (yes e) = f.no_lf_scalefactor e ∙ sym (f'.no_lf_scalefactor e)
        go (no e) = r.lf_scalefactor e

    same-predictor : (j k : ℕ) → j < 192 → j % 4 ≡ k → 0 < predictor_width (count_at predsi (j / 4 / 6) (j / 4 % 6)) k → get_or c.1.0 j 0 ≡ get_or c'.1.0 j 0
    same-predictor j zero h e w =
        let some : 0 < count_at predsi (j / 4 / 6) (j / 4 % 6) = ltb-true _ _ (some-if _ 3 w) in
        let at : 4 * (6 * (j / 4 / 6) + j / 4 % 6) ≡ j = omega arith in
        rw at at (r.delays (j / 4 / 6) (j / 4 % 6) (omega arith) (omega arith) (λ z. omega arith))
    same-predictor j (suc k) h e w =
        let t : ltb k (count_at predsi (j / 4 / 6) (j / 4 % 6)) ≡ true = some-if _ 8 w in
        let at : 4 * (6 * (j / 4 / 6) + j / 4 % 6) + 1 + k ≡ j = omega arith in
        coefficient-one _ _ (rw (e, t) at (f.predictors.entry j)) (rw (e, t) at (f'.predictors.entry j))
        (rw (t, at) at (r.coefficients (j / 4 / 6) (j / 4 % 6) k (omega arith) (omega arith) (omega arith) (ltb-true _ _ t)))

    same-predictors : c.1.0 ≡ c'.1.0
    same-predictors = fits-same f.predictors f'.predictors (λ j h w. same-predictor j (j % 4) h refl w)

    -- the LFE code of a granule
    same-lfe : (gr : ℕ) → gr < 12 → 0 < granule_width lfe (own_of s) 0 → get_or c.1.1.1.1 (289 * gr) 0 ≡ get_or c'.1.1.1.1 (289 * gr) 0
    unfolding lfe_at
    same-lfe gr h w =
        let t : ltb 0 lfe ≡ true = some-if _ (lfe + 1) w in
        let some : 1 ≤ lfe = ltb-true 0 lfe t in
        let none : lfe ≡ 0 → ⊥ = λ z. omega arith in
        let first : 289 * gr % 289 ≡ 0 = omega arith in
        lfe-one lfe c.1.1.0 _ _ some low f.lf_scalefactor
        (rw (first, t) at (f.granules.entry (289 * gr)))
        (rw (first, t) at (f'.granules.entry (289 * gr)))
        (rw (ne_eqb lfe 0 none, ← same-lf_scalefactor) at (r.lfe gr h none))

    -- the codes of a place in a granule
    module _ (gr m sb : ℕ) (hg : gr < 12) (hm : m < 3) (hs : sb < 32) (some : own_at s m sb ≡ 0 → ⊥) where
      abbrev n : ℕ
      n = own_at s m sb

      same-raw : (t : Bool) → grouped n ≡ t → (k : ℕ) → k < 3
          → SameFloat (raw_of n (cond t (get_or (degrouped n (code_of c gr m sb 0)) k 0) (code_of c gr m sb k)))
          (raw_of n (cond t (get_or (degrouped n (code_of c' gr m sb 0)) k 0) (code_of c' gr m sb k)))
      same-raw t e k h = rw (← raw-at s c m gr sb k t e h some, ← raw-at s c' m gr sb k t e h some) (r.raw m (3 * gr + k) sb hm (omega arith) hs some)

      class : is_class n ≡ true
      class = own-class s m sb alloc hm hs some

      same-group : grouped n ≡ true → code_of c gr m sb 0 ≡ code_of c' gr m sb 0
      unfolding excess_at
      same-group g = group-one n class _ _ (same-raw true g) (rw g at (same.excess gr m sb hg hm hs g))

      same_code : (k : ℕ) → k < 3 → 0 < sample_width n k → code_of c gr m sb k < 2 ^ sample_width n k → code_of c' gr m sb k < 2 ^ sample_width n k
          → code_of c gr m sb k ≡ code_of c' gr m sb k
      same_code k h w b b' = go (grouped n) refl
        where
          z : eqb n 0 ≡ false
          z = ne_eqb n 0 some

          go : (g : Bool) → grouped n ≡ g → code_of c gr m sb k ≡ code_of c' gr m sb k
          go true g = let first : k ≡ 0 = eqb-true k 0 (some-if (eqb k 0) _ (rw (z, g) at w)) in rw first (same-group g)
          go false g = single-one n class _ _ g (rw (z, g) at b) (rw (z, g) at b') (same-raw false g k h)

    same-entry : (j o : ℕ) → j < 3468 → j % 289 ≡ o → 0 < granule_width lfe (own_of s) o → get_or c.1.1.1.1 j 0 ≡ get_or c'.1.1.1.1 j 0
    same-entry j zero h e w = let at : 289 * (j / 289) ≡ j = omega arith in rw at at (same-lfe (j / 289) (omega arith) w)
    same-entry j (suc o) h e w =
        let own = own-at s (o / 3) (omega arith) in
        let at : 289 * (j / 289) + 1 + 3 * (3 * (o / 3 / 3) + o / 3 % 3) + o % 3 ≡ j = omega arith in
        rw at at (same_code (j / 289) (o / 3 % 3) (o / 3 / 3) (omega arith) (omega arith) (omega arith) (some-steps _ _ (rw own at w))
        (o % 3) (omega arith) (rw own at w)
        (rw at (rw (e, own) at (f.granules.entry j)))
        (rw at (rw (e, own) at (f'.granules.entry j))))

    same-granules : c.1.1.1.1 ≡ c'.1.1.1.1
    same-granules = fits-same f.granules f'.granules (λ j h w. same-entry j (j % 289) h refl w)

    pub same_codes : c ≡ c'
    same_codes = λ i. (same-scfsi i, (same-predictors i, (same-lf_scalefactor i, (same-scalefactors i, same-granules i))))
