-- Laws of what a state holds: the numbers of layouts are those of headers, and no two are alike; what each reading compares and stores; each way through
-- the tests.
use Rattle.std.specs.Prelude.{◌≡◌, Bool, true, false, not, ◌&&◌, ◌||◌, cond, List, ◌⊎◌, eqb, leb, length, get_or}
use Rattle.std.proofs.Math.Path.{refl}
use Rattle.std.proofs.Common.{sym, ap, ◌∙◌, inl, inr, Fits, length-append}
use Rattle.std.proofs.Math.Bool.{and-true}
use Prim.Native.Nat.{ℕ, zero, suc, ◌+◌, ◌*◌, ◌/◌, ◌%◌, ◌≤◌}
use Rattle.std.proofs.Math.Decide.{ℕ_discrete}
use native.Mathlib.Omega.{arith}
use Rattle.std.specs.Int.{w8}
use borrow.Author.Tests.{leb-true, eq-eqb, ne_eqb, eqb-true}
use Rattle.mc_config.proofs.CaseLaws.{cond-all}
use Rattle.mc_config.specs.Config.{has_centre, surround_of, config_of, front_channels, surround_channels, layout_of}
use Rattle.mc_config.specs.declared.McHeader.{McHeader}
use Rattle.mc_config.proofs.ConfigLaws.{front_length, surround-length}
use Rattle.mc_fields.proofs.HeadYields.{HeaderFits}
use Rattle.mc_fields.specs.Lent.{base_fits}
use Rattle.mc_payload.specs.declared.McSettings.{McSettings}
use Rattle.mc_payload.specs.Places.{config}
use Rattle.mc_payload.proofs.Demand3.Accepted.{both_true, second-true}
use Rattle.mc_output.specs.Output.{channels}
use Rattle.mc_state.specs.Held.{channels_by, is_layout, layout_at, layout_by, layout_for, held_fits, same_layout, follows_by, follows, layout_after}

-- ---- the number of a frame's layout

layout-fits : (surround : ℕ) → surround ≤ 3
    → (is_layout (10 * 1 + surround) ≡ true) × ((is_layout (10 * 2 + surround) ≡ true) × (is_layout (10 * 3 + surround) ≡ true))
layout-fits zero h = (refl, (refl, refl))
layout-fits (suc zero) h = (refl, (refl, refl))
layout-fits (suc (suc zero)) h = (refl, (refl, refl))
layout-fits (suc (suc (suc zero))) h = (refl, (refl, refl))
layout-fits (suc (suc (suc (suc n)))) h = absurd (omega arith)

-- a layout has a front
pub layout-long : (n : ℕ) → 1 ≤ length (layout_at n)
layout-long n = rw (length-append (front_channels (n / 10)) (surround_channels (surround_of (n % 10)) (eqb (n % 10) 3))) (omega (arith, front_length (n / 10)))

module _ (s : McSettings) (h : s.header.surround ≤ 3) where
  front-most : (config s).front ≤ 3
  unfolding config_of
  front-most =
      cond-all (λ n. n ≤ 3) (eqb s.base_channels 1) (omega arith) (cond-all (λ n. n ≤ 3) (has_centre s.header.centre) (omega arith) (omega arith))

  parts : (front surround : ℕ) → surround ≤ 3 → ((10 * front + surround) / 10 ≡ front) × ((10 * front + surround) % 10 ≡ surround)
  parts front surround b = (omega arith, omega arith)

  -- its channels are those of the layout
  pub layout-for : layout_at (layout_for s) ≡ layout_of (config s)
  unfolding layout_of config_of
  layout-for = let e = parts (config s).front s.header.surround h in rw (e.0, e.1)

  -- it is one of the twelve
  pub layout_is : is_layout (layout_for s) ≡ true
  unfolding config_of
  layout_is =
      let f = layout-fits s.header.surround h in
      cond-all (λ front. is_layout (10 * front + s.header.surround) ≡ true) (eqb s.base_channels 1) f.0
      (cond-all (λ front. is_layout (10 * front + s.header.surround) ≡ true) (has_centre s.header.centre) f.1.1 f.1.0)

  pub layout-small : layout_for s ≤ 33
  layout-small = omega (arith, front-most)

-- ---- the twelve numbers

record InParts (n : ℕ) : Type 0 where
  front_low : 1 ≤ n / 10
  front_high : n / 10 ≤ 3
  surround_high : n % 10 ≤ 3
  whole : 10 * (n / 10) + n % 10 ≡ n

in_parts : (n : ℕ) → is_layout n ≡ true → InParts n
in_parts n e =
    let a = both_true (leb 10 n) _ e in
    let b = both_true (leb n 33) _ a.1 in
    let low : 10 ≤ n = leb-true 10 n a.0 in
    let high : n ≤ 33 = leb-true n 33 b.0 in
    record { front_low = omega arith; front_high = omega arith; surround_high = leb-true (n % 10) 3 b.1; whole = omega arith }

-- each is that of a header, its fields within their widths, over one or two base channels
pub record Given (n : ℕ) : Type 0 where
  pub header : McHeader
  pub fits : HeaderFits header
  pub base_channels : ℕ
  pub base : base_fits base_channels ≡ true
  pub number : layout_by header base_channels ≡ n

unfoldable header_of : ℕ → ℕ → McHeader
header_of centre surround =
    record {
      ext_bit_stream_present = false;
      n_ad_bytes = 0;
      centre = centre;
      surround = surround;
      lfe = false;
      audio_mix = false;
      dematrix_procedure = 0;
      no_of_multi_lingual_ch = 0;
      multi_lingual_fs_half = false;
      multi_lingual_layer3 = false;
      copyright_identification_bit = false;
      copyright_identification_start = false;
    }

module _ (surround : ℕ) (h : surround ≤ 3) where
  header-fits : (centre : ℕ) → centre ≤ 3 → HeaderFits (header_of centre surround)
  unfolding header_of
  header-fits centre c = record { ad-bytes = omega arith; centre = c; surround = h; procedure = omega arith; lingual = omega arith }

  given_by : (front : ℕ) → 1 ≤ front → front ≤ 3 → Given (10 * front + surround)
  unfolding config_of header_of
  given_by zero a b = absurd (omega arith)
  given_by (suc zero) a b = record { header = header_of 0 surround; fits = header-fits 0 (omega arith); base_channels = 1; base = refl; number = refl }
  given_by (suc (suc zero)) a b = record { header = header_of 0 surround; fits = header-fits 0 (omega arith); base_channels = 2; base = refl; number = refl }
  given_by (suc (suc (suc zero))) a b = record { header = header_of 1 surround; fits = header-fits 1 (omega arith); base_channels = 2; base = refl; number = refl }
  given_by (suc (suc (suc (suc front)))) a b = absurd (omega arith)

pub layout-given : (n : ℕ) → is_layout n ≡ true → Given n
layout-given n e = let p = in_parts n e in rw p.whole at (given_by (n % 10) p.surround_high (n / 10) p.front_low p.front_high)

-- no two have the same channels

unfoldable number_of : List ℕ → ℕ
number_of xs =
    let front : ℕ = cond (eqb (get_or xs 1 9) 1) (cond (eqb (get_or xs 2 9) 2) 3 2) 1 in
    let more : ℕ = get_or xs front 9 in
    10 * front + cond (eqb more 5) 1 (cond (eqb more 3) 2 (cond (eqb more 6) 3 0))

twelve : (k sur : ℕ) → 1 ≤ k → k ≤ 3 → sur ≤ 3 → number_of (layout_at (10 * k + sur)) ≡ 10 * k + sur
unfolding number_of
twelve zero sur a b c = absurd (omega arith)
twelve (suc zero) zero a b c = refl
twelve (suc zero) (suc zero) a b c = refl
twelve (suc zero) (suc (suc zero)) a b c = refl
twelve (suc zero) (suc (suc (suc zero))) a b c = refl
twelve (suc (suc zero)) zero a b c = refl
twelve (suc (suc zero)) (suc zero) a b c = refl
twelve (suc (suc zero)) (suc (suc zero)) a b c = refl
twelve (suc (suc zero)) (suc (suc (suc zero))) a b c = refl
twelve (suc (suc (suc zero))) zero a b c = refl
twelve (suc (suc (suc zero))) (suc zero) a b c = refl
twelve (suc (suc (suc zero))) (suc (suc zero)) a b c = refl
twelve (suc (suc (suc zero))) (suc (suc (suc zero))) a b c = refl
twelve (suc (suc (suc (suc k)))) sur a b c = absurd (omega arith)
twelve (suc zero) (suc (suc (suc (suc sur)))) a b c = absurd (omega arith)
twelve (suc (suc zero)) (suc (suc (suc (suc sur)))) a b c = absurd (omega arith)
twelve (suc (suc (suc zero))) (suc (suc (suc (suc sur)))) a b c = absurd (omega arith)

number-of : (n : ℕ) → is_layout n ≡ true → number_of (layout_at n) ≡ n
number-of n e =
    let p = in_parts n e in
    rw p.whole at (twelve (n / 10) (n % 10) p.front_low p.front_high p.surround_high)

pub layouts-apart : (n m : ℕ) → is_layout n ≡ true → is_layout m ≡ true → layout_at n ≡ layout_at m → n ≡ m
layouts-apart n m en em e = sym (number-of n en) ∙ ap number_of e ∙ number-of m em

-- ---- what each reading compares, and stores

-- reading 1 compares counts, and leaves the layout
pub counts-follow : (count layout n own : ℕ) → follows_by 1 count layout n own ≡ (eqb count 0 || eqb count n)
counts-follow count layout n own = refl

pub layout-kept : (layout own : ℕ) → layout_after 1 layout own ≡ layout
layout-kept layout own = refl

-- 2/2 after 3/1: four channels each
pub two-two-first : follows_by 1 4 31 4 22 ≡ true
two-two-first = refl

pub two-two-second : follows_by 2 4 31 4 22 ≡ false
two-two-second = refl

-- where only a count is known every reading compares that
pub lone-follows : (reading count n own : ℕ) → follows_by reading count 0 n own ≡ (eqb count 0 || eqb count n)
lone-follows reading count n own = go (eqb reading 2)
  where
    go : (t : Bool) → (eqb count 0 || cond t (eqb count n) (eqb count n)) ≡ (eqb count 0 || eqb count n)
    go true = refl
    go false = refl

module _ (count layout : ℕ) (fits : held_fits count layout ≡ true) (known : layout ≡ 0 → ⊥) where
  held : (is_layout layout ≡ true) × (count ≡ length (layout_at layout))
  held =
      let a = both_true (leb count 5) _ fits in
      let b = both_true (is_layout layout) _ (second-true (eqb layout 0) _ a.1 (ne_eqb layout 0 known)) in
      (b.0, eqb-true count (length (layout_at layout)) b.1)

  pub held-some : count ≡ 0 → ⊥
  held-some z = let e = held.1 in let long = layout-long layout in absurd (omega arith)

  -- reading 2 takes a frame on a layout that is known exactly if the frame's is the same
  module _ (s : McSettings) (h : s.header.surround ≤ 3) (e : s.reading ≡ 2) where
    compared : follows count layout s ≡ eqb layout (layout_for s)
    unfolding follows
    compared = rw (ne_eqb count 0 held-some, e, ne_eqb layout 0 known)

    pub follows_same : follows count layout s ≡ true → layout_at layout ≡ layout_of (config s)
    follows_same f = let q : layout ≡ layout_for s = eqb-true layout (layout_for s) (sym compared ∙ f) in rw q (layout-for s h)

    pub same-follows : layout_at layout ≡ layout_of (config s) → follows count layout s ≡ true
    same-follows q =
        let same : layout ≡ layout_for s = layouts-apart layout (layout_for s) held.0 (layout_is s h) (q ∙ sym (layout-for s h)) in
        compared ∙ eq-eqb layout (layout_for s) same

-- a frame that may follow has the count that is held, under either reading
pub follows-count : (count layout : ℕ) (s : McSettings) → held_fits count layout ≡ true → s.header.surround ≤ 3 → follows count layout s ≡ true
    → (count ≡ 0) ⊎ (count ≡ channels s)
unfolding follows
follows-count count layout s fits h f = none (ℕ_discrete count 0)
  where
    known : Dec (layout ≡ 0) → same_layout count layout (channels s) (layout_for s) ≡ true → count ≡ channels s
    known (yes z) e = eqb-true count (channels s) (rw (eq-eqb layout 0 z) at e)
    known (no z) e =
        let same : layout ≡ layout_for s = eqb-true layout (layout_for s) (rw (ne_eqb layout 0 z) at e) in
        (held count layout fits z).1 ∙ rw (same, layout-for s h)

    by : (second : Bool) → cond second (same_layout count layout (channels s) (layout_for s)) (eqb count (channels s)) ≡ true → count ≡ channels s
    by true e = known (ℕ_discrete layout 0) e
    by false e = eqb-true count (channels s) e

    none : Dec (count ≡ 0) → (count ≡ 0) ⊎ (count ≡ channels s)
    none (yes z) = inl z
    none (no z) = inr (by (eqb s.reading 2) (second-true (eqb count 0) _ f (ne_eqb count 0 z)))

-- ---- each way through the tests

module _ (count layout : ℕ) where
  pub fits-lone : layout ≡ 0 → leb count 5 ≡ held_fits count layout
  fits-lone z = rw (eq-eqb layout 0 z) (sym (and-true (leb count 5)))

  pub fits-layout : (layout ≡ 0 → ⊥) → (n : ℕ) → n ≡ length (layout_at layout) → (b : Bool) → b ≡ is_layout layout
      → (leb count 5 && (b && eqb count n)) ≡ held_fits count layout
  fits-layout z n en b eb = rw (eb, ne_eqb layout 0 z, en)

module _ (front surround a b : ℕ) (ea : a ≡ length (front_channels front)) (eb : b ≡ length (surround_channels (surround_of surround) (eqb surround 3))) where
  pub counts-fit : Fits w8 (a + b)
  counts-fit = record { fits = omega (arith, ea, eb, front_length front, surround-length (surround_of surround) (eqb surround 3)) }

  pub counts-add : a + b ≡ length (channels_by front surround)
  counts-add = rw (ea, eb) (sym (length-append (front_channels front) (surround_channels (surround_of surround) (eqb surround 3))))

module _ (reading count layout n own : ℕ) where
  pub follows-none : count ≡ 0 → true ≡ follows_by reading count layout n own
  follows-none e = rw e

  module _ (z : count ≡ 0 → ⊥) where
    pub follows-known : (eqb reading 2 && not (eqb layout 0)) ≡ true → eqb layout own ≡ follows_by reading count layout n own
    follows-known e = rw (ne_eqb count 0 z) (go (eqb reading 2) (eqb layout 0) e)
      where
        go : (second lone : Bool) → (second && not lone) ≡ true → eqb layout own ≡ cond second (cond lone (eqb count n) (eqb layout own)) (eqb count n)
        go true false e = refl
        go true true e = let q : ◌≡◌ {A = ℕ} 0 1 = cc in absurd (omega arith)
        go false lone e = let q : ◌≡◌ {A = ℕ} 0 1 = cc in absurd (omega arith)

    pub follows-counts : (eqb reading 2 && not (eqb layout 0)) ≡ false → eqb count n ≡ follows_by reading count layout n own
    follows-counts e = rw (ne_eqb count 0 z) (go (eqb reading 2) (eqb layout 0) e)
      where
        go : (second lone : Bool) → (second && not lone) ≡ false → eqb count n ≡ cond second (cond lone (eqb count n) (eqb layout own)) (eqb count n)
        go true true e = refl
        go true false e = let q : ◌≡◌ {A = ℕ} 0 1 = cc in absurd (omega arith)
        go false lone e = refl

pub after-second : (reading layout own : ℕ) → reading ≡ 2 → own ≡ layout_after reading layout own
after-second reading layout own e = rw (eq-eqb reading 2 e)

pub after_first : (reading layout own : ℕ) → (reading ≡ 2 → ⊥) → layout ≡ layout_after reading layout own
after_first reading layout own e = rw (ne_eqb reading 2 e)
