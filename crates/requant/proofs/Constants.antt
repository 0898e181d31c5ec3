-- What the proofs ask of the constants: the classes and the LFE channel keep codes apart, and the scalefactors leave a part of the gap.
use Rattle.std.specs.Prelude.{Bool, false, ◌&&◌, ℕ, suc, ◌+◌, ◌-◌, ◌*◌, ◌/◌, ◌^◌, ◌≤◌, ◌<◌, T, leb, ltb, Float}
use Rattle.std.proofs.Common.{suc-le-suc, leb→le, ltb→lt}
use Rattle.std.specs.Float.Ieee.Fits.{and_l, and_r}
use Rattle.std.specs.Float.Ieee.Positive.{num, den, positive}
use Rattle.floats.specs.Decimal.{decimal}
use Rattle.floats.proofs.Table.{at, all, all_from}
use Rattle.floats.proofs.OneToOne.{Separates, separates, separates→}
use Rattle.tables.specs.Scalefactor.{numerators, scalefactor_of}
use Rattle.bitalloc.specs.declared.QuantClass.{QuantClass}
use Rattle.bitalloc.specs.Classes.{row, classes, class_at}
use Rattle.requant.specs.Requant.{lfe_c, lfe_d}

-- Between the values of two codes lie `gap` units of 2 ^ -45 at least, and each value is `most` units, that is 4, at most.
abbrev pub gap : ℕ
gap = 268435456

abbrev pub most : ℕ
most = 140737488355328

-- c and d of n bits to a sample
abbrev pub Apart : ℕ → Float → Float → Type 0
Apart n c d = Separates 45 (n - 1) c d gap most

class-test : ℕ → QuantClass → Bool
class-test i class = separates 45 (class.bits_per_sample - 1) class.c class.d gap most

pub class-apart : (i : ℕ) → i < 17 → Apart (class_at i).bits_per_sample (class_at i).c (class_at i).d
unfolding class-test class_at
class-apart i h = separates→ _ _ _ _ _ _ (at class-test classes (row 0 0 0 false 0 0) tt i h)

-- nb bits to a sample of the LFE channel; a tighter bound, for d = 2 ^ (1 - nb) and c at most 342 / 256
pub record Lfe (nb : ℕ) : Type 0 where
  pub apart : Apart nb (lfe_c nb) (lfe_d nb)
  pub d-least : num (lfe_d nb) * 2 ^ (nb - 1) ≤ den (lfe_d nb)
  pub c-most : num (lfe_c nb) * 256 ≤ 342 * den (lfe_c nb)

lfe-test : ℕ → Bool
lfe-test nb = separates 45 (nb - 1) (lfe_c nb) (lfe_d nb) gap most && (leb (num (lfe_d nb) * 2 ^ (nb - 1)) (den (lfe_d nb)) && leb (num (lfe_c nb) * 256) (342 * den (lfe_c nb)))

lfe-pass : T (all (λ a. lfe-test (a + 2)) 15)
unfolding lfe-test lfe_c lfe_d
lfe-pass = tt

pub lfe-constants : (nb : ℕ) → 2 ≤ nb → nb ≤ 16 → Lfe nb
unfolding lfe-test
lfe-constants nb g h =
    let x0 = all_from lfe-test 2 15 lfe-pass nb g (suc-le-suc h) in
    let x1 = and_r (separates 45 (nb - 1) (lfe_c nb) (lfe_d nb) gap most) _ x0 in
    record {
      apart = separates→ _ _ _ _ _ _ (and_l (separates 45 (nb - 1) (lfe_c nb) (lfe_d nb) gap most) _ x0);
      d-least = leb→le _ _ (and_l (leb (num (lfe_d nb) * 2 ^ (nb - 1)) (den (lfe_d nb))) _ x1);
      c-most = leb→le _ _ (and_r (leb (num (lfe_d nb) * 2 ^ (nb - 1)) (den (lfe_d nb))) _ x1);
    }

-- a scalefactor y is 2 at most, and leaves 2 units of the gap at least
pub record Scales (y : Float) : Type 0 where
  pub above : T (positive y)
  pub leaves : 2 ≤ gap * num y / den y
  pub room : suc (most * num y / den y) < 2 ^ 53
  pub high : num y * 1 ≤ 2 * den y

scales : Float → Bool
scales y = positive y && (leb 2 (gap * num y / den y) && (ltb (suc (most * num y / den y)) (2 ^ 53) && leb (num y * 1) (2 * den y)))

scales→ : (y : Float) → T (scales y) → Scales y
unfolding scales
scales→ y x0 =
    let x1 = and_r (positive y) _ x0 in
    let x2 = and_r (leb 2 (gap * num y / den y)) _ x1 in
    record {
      above = and_l (positive y) _ x0;
      leaves = leb→le _ _ (and_l (leb 2 (gap * num y / den y)) _ x1);
      room = ltb→lt _ _ (and_l (ltb (suc (most * num y / den y)) (2 ^ 53)) _ x2);
      high = leb→le _ _ (and_r (ltb (suc (most * num y / den y)) (2 ^ 53)) _ x2);
    }

pub scalefactor-scales : (index : ℕ) → index < 63 → Scales (scalefactor_of index)
unfolding scales scalefactor_of
scalefactor-scales index h = scales→ (scalefactor_of index) (at (λ _ m. scales (decimal 14 m)) numerators 0 tt index h)
