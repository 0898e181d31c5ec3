-- A bound that the format holds goes through an operation with no loss: a chain of operations on bounded values is bounded, and never overflows.
use Rattle.std.specs.Prelude.{◌≡◌, List, [], ◌∷◌, ℕ, suc, ◌+◌, ◌-◌, ◌*◌, ◌^◌, ◌≤◌, ◌<◌, Bool, true, false, ◌&&◌, cond, T, ltb, length, Float}
use Rattle.std.proofs.Common.{sym, ap, ◌∙◌, subst, zero-le, le_trans, le_of_eq, zero-mul, mul_assoc, mul_comm, mul_left_comm, mul-le-mul_right, mul-le-mul, mul-pos, add-mul, le_of_mul-le-mul_right, suc-mul, add-zero, arith, pow_pos}
use Rattle.std.proofs.Math.Nat.{mul-mul-mul_comm}
use Rattle.std.specs.Bool.{beq}
use Rattle.std.specs.Float.{nan, inf, fin, Format, binary64}
use Rattle.std.specs.Float.Ieee.{up, down, unlike, round, neg, sum, add, sub, mul}
use Rattle.std.specs.Float.Ieee.Fits.{down_pos}
use Rattle.std.specs.Float.Ieee.Scale.{finite}
use Rattle.std.specs.Float.Ieee.Positive.{through, num, den, positive}
use Rattle.floats.specs.Within.{Within, EachWithin, fold}
use Rattle.floats.proofs.Holds.{Holds, holds-zero, holds-short}
use Rattle.floats.proofs.Bracket.{Bracket, bracket-round}

pub within-finite : (x : Float) (p c : ℕ) → Within x p c → T (finite x)
within-finite nan p c h = absurd h
within-finite (inf t) p c h = absurd h
within-finite (fin t m e) p c h = tt

pub within-bracket : (s : Bool) (x : Float) (q p c : ℕ) → Bracket s x q p c → Within x p c
within-bracket s nan q p c i = i
within-bracket s (inf t) q p c i = i
within-bracket s (fin t m e) q p c i = i.2

-- a constant, by a test on its fraction
pub within-positive : (x : Float) (p c : ℕ) → T (positive x) → num x * c ≤ p * den x → Within x p c
within-positive nan p c h k = absurd h
within-positive (inf t) p c h k = absurd h
within-positive (fin t m e) p c h k = k

-- a larger bound, over another denominator
pub within-le : (x : Float) (p c p' c' : ℕ) → 0 < c → p * c' ≤ p' * c → Within x p c → Within x p' c'
within-le nan p c p' c' C h i = i
within-le (inf t) p c p' c' C h i = i
within-le (fin t m e) p c p' c' C h i = through (m * up e) p p' (down e) c c' C i h

pub within-neg : (x : Float) (p c : ℕ) → Within x p c → Within (neg x) p c
unfolding neg
within-neg nan p c i = i
within-neg (inf t) p c i = i
within-neg (fin t m e) p c i = i

pub within-round : (f : Format) (s : Bool) (a n h u : ℕ) → 0 < n → 0 < u → Holds f h u → a * u ≤ h * n → Within (round f s a n) h u
within-round f s a n h u N U r k = within-bracket s (round f s a n) 0 h u (bracket-round f s a n 0 h u N U (holds-zero f u) r (le_trans (le_of_eq (zero-mul n)) zero-le) k)

-- ---- the operations
pub within-mul : (f : Format) (x y : Float) (p c p' c' h u : ℕ) → 0 < c → 0 < c' → 0 < u → Within x p c → Within y p' c' → Holds f h u → p * p' * u ≤ h * (c * c') → Within (mul f x y) h u
unfolding mul
within-mul f nan y p c p' c' h u C C' U i j r k = absurd i
within-mul f (inf t) y p c p' c' h u C C' U i j r k = absurd i
within-mul f (fin t m e) nan p c p' c' h u C C' U i j r k = absurd j
within-mul f (fin t m e) (inf t') p c p' c' h u C C' U i j r k = absurd j
within-mul f (fin t m e) (fin t' n d) p c p' c' h u C C' U i j r k =
    within-round f (unlike t t') (m * up e * (n * up d)) (down e * down d) h u (mul-pos (down_pos e) (down_pos d)) U r
    (through (m * up e * (n * up d)) (p * p') h (down e * down d) (c * c') u (mul-pos C C') (both (m * up e) (n * up d) c c' p p' (down e) (down d) i j) k)
  where
    both : (X Y c c' p p' x y : ℕ) → X * c ≤ p * x → Y * c' ≤ p' * y → X * Y * (c * c') ≤ p * p' * (x * y)
    both X Y c c' p p' x y i j = le_trans (le_of_eq (mul-mul-mul_comm X Y c c')) (le_trans (mul-le-mul i j) (le_of_eq (mul-mul-mul_comm p x p' y)))

sum-within : (f : Format) (s t : Bool) (a b n h u : ℕ) → 0 < n → 0 < u → Holds f h u → a * u + b * u ≤ h * n → Within (sum f s a t b n) h u
unfolding sum
sum-within f s t a b n h u N U r k = go (beq s t) (ltb a b)
  where
    less : (a b : ℕ) → a * u + b * u ≤ h * n → (a - b) * u ≤ h * n
    less a b g = le_trans (mul-le-mul_right u (cut a b)) (omega arith)
      where
        cut : (a b : ℕ) → a - b ≤ a
        cut a b = omega arith

    go : (x y : Bool) → Within (cond x (round f s (a + b) n) (cond y (round f t (b - a) n) (round f (s && ltb b a) (a - b) n))) h u
    go true y = within-round f s (a + b) n h u N U r (rw add-mul k)
    go false true = within-round f t (b - a) n h u N U r (less b a (omega arith))
    go false false = within-round f (s && ltb b a) (a - b) n h u N U r (less a b k)

ruleset ac = (add-mul, mul_assoc, mul_comm, mul_left_comm)

pub within-add : (f : Format) (x y : Float) (p p' c h u : ℕ) → 0 < c → 0 < u → Within x p c → Within y p' c → Holds f h u → p * u + p' * u ≤ h * c → Within (add f x y) h u
unfolding add
within-add f nan y p p' c h u C U i j r k = absurd i
within-add f (inf t) y p p' c h u C U i j r k = absurd i
within-add f (fin t m e) nan p p' c h u C U i j r k = absurd j
within-add f (fin t m e) (inf t') p p' c h u C U i j r k = absurd j
within-add f (fin t m e) (fin t' n d) p p' c h u C U i j r k =
    sum-within f t t' (m * up e * down d) (n * up d * down e) (down e * down d) h u (mul-pos (down_pos e) (down_pos d)) U r
    (over (m * up e) (n * up d) (down e) (down d) c u p p' h C i j k)
  where
    over : (X Y x y c u p p' h : ℕ) → 0 < c → X * c ≤ p * x → Y * c ≤ p' * y → p * u + p' * u ≤ h * c → X * y * u + Y * x * u ≤ h * (x * y)
    over X Y x y c u p p' h C i j k = le_of_mul-le-mul_right
        (let a = simp ac at (mul-le-mul_right (y * u) i) in let b = simp ac at (mul-le-mul_right (x * u) j) in let g = simp ac at (mul-le-mul_right (x * y) k) in simp ac (omega arith)) C

pub within-sub : (f : Format) (x y : Float) (p p' c h u : ℕ) → 0 < c → 0 < u → Within x p c → Within y p' c → Holds f h u → p * u + p' * u ≤ h * c → Within (sub f x y) h u
unfolding sub
within-sub f x y p p' c h u C U i j r k = within-add f x (neg y) p p' c h u C U i (within-neg y p' c j) r k

-- ---- over one denominator 2 ^ t of an f64: the bounds add up, while they stay below 2 ^ 53
one-more : (A n p : ℕ) → A + suc n * p ≡ A + p + n * p
one-more A n p = let z : suc n * p ≡ n * p + p = suc-mul n p in omega arith

first_fits : (A n p B : ℕ) → A + p + n * p < B → A + p < B
first_fits A n p B h = omega arith

module _ (t : ℕ) (L : t ≤ 1074) where
  pub add64 : (x y : Float) (p p' : ℕ) → Within x p (2 ^ t) → Within y p' (2 ^ t) → p + p' < 2 ^ 53 → Within (add binary64 x y) (p + p') (2 ^ t)
  add64 x y p p' i j h = within-add binary64 x y p p' (2 ^ t) (p + p') (2 ^ t) (pow_pos t) (pow_pos t) i j (holds-short binary64 (p + p') t h L) (le_of_eq (sym (add-mul p p' (2 ^ t))))

  pub sub64 : (x y : Float) (p p' : ℕ) → Within x p (2 ^ t) → Within y p' (2 ^ t) → p + p' < 2 ^ 53 → Within (sub binary64 x y) (p + p') (2 ^ t)
  sub64 x y p p' i j h = within-sub binary64 x y p p' (2 ^ t) (p + p') (2 ^ t) (pow_pos t) (pow_pos t) i j (holds-short binary64 (p + p') t h L) (le_of_eq (sym (add-mul p p' (2 ^ t))))

  -- a product's bound, rounded up to a multiple of 2 ^ -t
  pub mul64 : (x y : Float) (p p' h : ℕ) → Within x p (2 ^ t) → Within y p' (2 ^ t) → p * p' ≤ h * 2 ^ t → h < 2 ^ 53 → Within (mul binary64 x y) h (2 ^ t)
  mul64 x y p p' h i j k l = within-mul binary64 x y p (2 ^ t) p' (2 ^ t) h (2 ^ t) (pow_pos t) (pow_pos t) (pow_pos t) i j (holds-short binary64 h t l L)
      (le_trans (mul-le-mul_right (2 ^ t) k) (le_of_eq (mul_assoc h (2 ^ t) (2 ^ t))))

  pub fold64 : (xs : List Float) (a : Float) (A p : ℕ) → Within a A (2 ^ t) → EachWithin xs p (2 ^ t) → A + length xs * p < 2 ^ 53 → Within (fold a xs) (A + length xs * p) (2 ^ t)
  fold64 [] a A p i e h = subst (λ (z : ℕ). Within a z (2 ^ t)) (sym (ap (λ (z : ℕ). A + z) (zero-mul p) ∙ add-zero A)) i
  fold64 (x ∷ xs) a A p i e h =
      let n = length xs in
      let g : A + p + n * p < 2 ^ 53 = subst (λ (z : ℕ). z < 2 ^ 53) (one-more A n p) h in
      subst (λ (z : ℕ). Within (fold (add binary64 a x) xs) z (2 ^ t)) (sym (one-more A n p))
      (fold64 xs (add binary64 a x) (A + p) p (add64 a x A p i e.0 (first_fits A n p (2 ^ 53) g)) e.1 g)
