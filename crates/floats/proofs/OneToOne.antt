-- The raw value is one to one in the code, and still is times a constant that is not too small, where the constants pass one test.
use Rattle.std.specs.Prelude.{◌≡◌, ℕ, suc, ◌+◌, ◌-◌, ◌*◌, ◌/◌, ◌^◌, ◌≤◌, ◌<◌, Bool, true, false, not, ◌&&◌, T, leb, ltb, Float}
use Rattle.std.proofs.Common.{sym, suc-le-suc, le_trans, lt_of_le_of_lt, mul-pos, le_antisymm, arith, leb→le, ltb→lt, nltb→le, pow_pos}
use Rattle.std.proofs.Math.Nat.{le-suc}
use Rattle.std.specs.Float.{binary64}
use Rattle.std.specs.Float.Ieee.{mul}
use Rattle.std.specs.Float.Ieee.Fits.{and_l, and_r}
use Rattle.std.specs.Float.Ieee.Positive.{num, den, positive, den_pos}
use Rattle.floats.specs.Raw.{raw, shifted}
use Rattle.floats.proofs.Bracket.{Bracket}
use Rattle.floats.proofs.Floor.{floor-mono}
use Rattle.floats.proofs.Shifted.{cell, negative, distance, distance-le, cell-le, shifted_in}
use Rattle.floats.proofs.Gap.{Far, far-differ, far-times, bracket-times-left, bracket-times-right, cells-far}

-- The constants c and d keep the values of two codes of h + 1 bits g units of 2 ^ -t apart, and every value within b units.
abbrev pub separates : ℕ → ℕ → Float → Float → ℕ → ℕ → Bool
separates t h c d g b =
    positive c && (positive d && (leb (num d) (den d) && (leb h 52 && (leb t 51 && (leb 1 (den d * 2 ^ t / (2 ^ h * den d))
    && (leb (suc g) ((den d * 2 ^ t / (2 ^ h * den d) - 1) * num c / den c) && (leb (suc (suc (2 * 2 ^ t) * num c / den c)) b && ltb b (2 ^ 53))))))))

pub record Separates (t h : ℕ) (c d : Float) (g b : ℕ) : Type 0 where
  pub c-positive : T (positive c)
  pub d-positive : T (positive d)
  pub d-at-most-1 : num d ≤ den d
  pub width : h ≤ 52
  pub grid : t ≤ 51
  pub step : 1 ≤ den d * 2 ^ t / (2 ^ h * den d)
  pub gap : suc g ≤ (den d * 2 ^ t / (2 ^ h * den d) - 1) * num c / den c
  pub bound : suc (suc (2 * 2 ^ t) * num c / den c) ≤ b
  pub room : b < 2 ^ 53

pub separates→ : (t h : ℕ) (c d : Float) (g b : ℕ) → T (separates t h c d g b) → Separates t h c d g b
separates→ t h c d g b x =
    let x1 = and_r (positive c) _ x in
    let x2 = and_r (positive d) _ x1 in
    let x3 = and_r (leb (num d) (den d)) _ x2 in
    let x4 = and_r (leb h 52) _ x3 in
    let x5 = and_r (leb t 51) _ x4 in
    let x6 = and_r (leb 1 (den d * 2 ^ t / (2 ^ h * den d))) _ x5 in
    let x7 = and_r (leb (suc g) ((den d * 2 ^ t / (2 ^ h * den d) - 1) * num c / den c)) _ x6 in
    record {
      c-positive = and_l (positive c) _ x;
      d-positive = and_l (positive d) _ x1;
      d-at-most-1 = leb→le _ _ (and_l (leb (num d) (den d)) _ x2);
      width = leb→le _ _ (and_l (leb h 52) _ x3);
      grid = leb→le _ _ (and_l (leb t 51) _ x4);
      step = leb→le _ _ (and_l (leb 1 (den d * 2 ^ t / (2 ^ h * den d))) _ x5);
      gap = leb→le _ _ (and_l (leb (suc g) ((den d * 2 ^ t / (2 ^ h * den d) - 1) * num c / den c)) _ x6);
      bound = leb→le _ _ (and_l (leb (suc (suc (2 * 2 ^ t) * num c / den c)) b) _ x7);
      room = ltb→lt _ _ (and_r (leb (suc (suc (2 * 2 ^ t) * num c / den c)) b) _ x7);
    }

neither-less : (k k' : ℕ) → (k < k' → ⊥) → (k' < k → ⊥) → k ≡ k'
neither-less k k' a b = go (ltb k k') (ltb k' k) (ltb→lt k k') (nltb→le k k') (ltb→lt k' k) (nltb→le k' k)
  where
    go : (x y : Bool) → (T x → k < k') → (T (not x) → k' ≤ k) → (T y → k' < k) → (T (not y) → k ≤ k') → k ≡ k'
    go true y u v w z = absurd (a (u tt))
    go false true u v w z = absurd (b (w tt))
    go false false u v w z = le_antisymm (z tt) (v tt)

module _ (t h : ℕ) (c d : Float) (g b : ℕ) (S : Separates t h c d g b) where
  -- the bracket of a code's value
  abbrev pub raw-low : ℕ → ℕ
  raw-low k = cell t h k d * num c / den c

  abbrev pub raw-high : ℕ → ℕ
  raw-high k = suc (suc (cell t h k d) * num c / den c)

  pub raw-high-le : (k : ℕ) → k < 2 ^ h + 2 ^ h → raw-high k ≤ b
  raw-high-le k K =
      le_trans (suc-le-suc (floor-mono (suc (cell t h k d)) (suc (2 * 2 ^ t)) (num c) (den c) (den_pos c)
      (suc-le-suc (cell-le (distance h (num d) (den d) k) (2 ^ h * den d) t 2 (mul-pos (pow_pos h) (den_pos d)) (distance-le h k d S.d-at-most-1 K))))) S.bound

  raw-low-le : (k : ℕ) → raw-low k ≤ raw-high k
  raw-low-le k = le_trans (floor-mono (cell t h k d) (suc (cell t h k d)) (num c) (den c) (den_pos c) (le-suc (cell t h k d))) (le-suc _)

  pub raw-in : (k : ℕ) → k < 2 ^ h + 2 ^ h → Bracket (negative t h k d) (raw c d h k) (raw-low k) (raw-high k) (2 ^ t)
  unfolding raw
  raw-in k K =
      bracket-times-left c (shifted d h k) (negative t h k d) (cell t h k d) (suc (cell t h k d)) t S.c-positive S.grid (le-suc (cell t h k d))
      (lt_of_le_of_lt (raw-high-le k K) S.room) (shifted_in t h k d S.d-positive S.d-at-most-1 S.width S.grid K)

  raw-far : (k k' : ℕ) → k < k' → Far g (negative t h k d) (raw-low k) (raw-high k) (negative t h k' d) (raw-low k') (raw-high k')
  raw-far k k' K =
      far-times (den d * 2 ^ t / (2 ^ h * den d) - 1) g (num c) (den c) (negative t h k d) (cell t h k d) (suc (cell t h k d)) (negative t h k' d) (cell t h k' d) (suc (cell t h k' d)) (den_pos c) S.gap
      (cells-far t h d k k' (den d * 2 ^ t / (2 ^ h * den d) - 1) K (pred-le (den d * 2 ^ t / (2 ^ h * den d)) S.step))
    where
      pred-le : (x : ℕ) → 1 ≤ x → suc (x - 1) ≤ x
      pred-le x h = omega arith

  raw-differ : 0 < g → (k k' : ℕ) → k < 2 ^ h + 2 ^ h → k' < 2 ^ h + 2 ^ h → k < k' → raw c d h k ≡ raw c d h k' → ⊥
  raw-differ G k k' K K' l =
      far-differ g (negative t h k d) (negative t h k' d) (raw-low k) (raw-high k) (raw-low k') (raw-high k') (2 ^ t) (raw c d h k) (raw c d h k') G (raw-in k K) (raw-in k' K') (raw-far k k' l)

  pub raw-one-to-one : 0 < g → (k k' : ℕ) → k < 2 ^ h + 2 ^ h → k' < 2 ^ h + 2 ^ h → raw c d h k ≡ raw c d h k' → k ≡ k'
  raw-one-to-one G k k' K K' e = neither-less k k' (λ l. raw-differ G k k' K K' l e) (λ l. raw-differ G k' k K' K l (sym e))

  -- times one more constant, y, which leaves g' of the g units
  module _ (y : Float) (g' : ℕ) (Y : T (positive y)) (G : suc g' ≤ g * num y / den y) (R : suc (b * num y / den y) < 2 ^ 53) where
    scaled-in : (k : ℕ) → k < 2 ^ h + 2 ^ h → Bracket (negative t h k d) (mul binary64 (raw c d h k) y) (raw-low k * num y / den y) (suc (raw-high k * num y / den y)) (2 ^ t)
    scaled-in k K =
        bracket-times-right y (raw c d h k) (negative t h k d) (raw-low k) (raw-high k) t Y S.grid (raw-low-le k)
        (lt_of_le_of_lt (suc-le-suc (floor-mono (raw-high k) b (num y) (den y) (den_pos y) (raw-high-le k K))) R) (raw-in k K)

    scaled-differ : 0 < g' → (k k' : ℕ) → k < 2 ^ h + 2 ^ h → k' < 2 ^ h + 2 ^ h → k < k' → mul binary64 (raw c d h k) y ≡ mul binary64 (raw c d h k') y → ⊥
    scaled-differ P k k' K K' l =
        far-differ g' (negative t h k d) (negative t h k' d) (raw-low k * num y / den y) (suc (raw-high k * num y / den y)) (raw-low k' * num y / den y) (suc (raw-high k' * num y / den y)) (2 ^ t)
        (mul binary64 (raw c d h k) y) (mul binary64 (raw c d h k') y) P (scaled-in k K) (scaled-in k' K')
        (far-times g g' (num y) (den y) (negative t h k d) (raw-low k) (raw-high k) (negative t h k' d) (raw-low k') (raw-high k') (den_pos y) G (raw-far k k' l))

    pub scaled-one-to-one : 0 < g' → (k k' : ℕ) → k < 2 ^ h + 2 ^ h → k' < 2 ^ h + 2 ^ h → mul binary64 (raw c d h k) y ≡ mul binary64 (raw c d h k') y → k ≡ k'
    scaled-one-to-one P k k' K K' e = neither-less k k' (λ l. scaled-differ P k k' K K' l e) (λ l. scaled-differ P k' k K' K l (sym e))
