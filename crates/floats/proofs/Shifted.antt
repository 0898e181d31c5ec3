-- (k - 2 ^ h) / 2 ^ h + d, rounded, keeps the cell of the grid of 2 ^ -t in which the exact sum lies.
use Rattle.std.specs.Prelude.{◌≡◌, refl, ℕ, suc, ◌+◌, ◌-◌, ◌*◌, ◌/◌, ◌^◌, ◌≤◌, ◌<◌, Bool, true, false, not, T, ltb, Float}
use Rattle.std.proofs.Common.{sym, ap, ◌∙◌, inl, inr, le_refl, le_trans, le_of_eq, le_of_lt, lt_of_le_of_lt, mul_assoc, mul_comm, mul-le-mul_right, mul-pos, add-mul, div-lt_iff_lt-mul, suc-mul, sub-add_cancel, arith, ltb→lt, nltb→le, lit≤, pow_pos, pow_mono}
use Rattle.std.proofs.Math.Nat.{le-suc}
use Rattle.std.specs.Float.{nan, inf, fin, binary64}
use Rattle.std.specs.Float.Ieee.{up, down, add}
use Rattle.std.specs.Float.Ieee.Positive.{num, den, positive, den_pos}
use Rattle.floats.specs.Raw.{centred, shifted}
use Rattle.floats.proofs.Holds.{Holds, holds-short}
use Rattle.floats.proofs.Bracket.{Bracket, bracket-widen}
use Rattle.floats.proofs.Sum.{bracket-add-same, bracket-add-less, bracket-add-more}
use Rattle.floats.proofs.Floor.{floor-le, le-ceil}
use Rattle.floats.proofs.Centred.{Centred, centred-exact}

-- a positive float is its own fraction
pub bracket-own : (d : Float) → T (positive d) → Bracket false d (num d) (num d) (den d)
bracket-own nan p = absurd p
bracket-own (inf t) p = absurd p
bracket-own (fin true m e) p = absurd p
bracket-own (fin false m e) p = (refl, le_refl (m * up e * down e), le_refl (m * up e * down e))

-- with n / m for d: k / 2 ^ h + d, and how far it is from 1, over 2 ^ h * m
abbrev pub plus-d : ℕ → ℕ → ℕ → ℕ → ℕ
plus-d h n m k = k * m + n * 2 ^ h

abbrev pub distance : ℕ → ℕ → ℕ → ℕ → ℕ
distance h n m k = (plus-d h n m k - 2 ^ h * m) + (2 ^ h * m - plus-d h n m k)

-- the distance in whole units of 2 ^ -t, and whether k / 2 ^ h + d lies below 1
module _ (t h k : ℕ) (d : Float) where
  abbrev pub cell : ℕ
  cell = distance h (num d) (den d) k * 2 ^ t / (2 ^ h * den d)

  abbrev pub negative : Bool
  negative = ltb (plus-d h (num d) (den d) k) (2 ^ h * den d)

-- a distance of b at most is b * 2 ^ t units at most
pub cell-le : (E c t b : ℕ) → 0 < c → E ≤ b * c → E * 2 ^ t / c ≤ b * 2 ^ t
cell-le E c t b C h = le-of-suc ((div-lt_iff_lt-mul C).1 (go (2 ^ t)))
  where
    le-of-suc : {x y : ℕ} → x < suc y → x ≤ y
    le-of-suc h = omega arith

    go : (u : ℕ) → E * u < suc (b * u) * c
    go u =
        let a = mul-le-mul_right u h in
        let x : suc (b * u) * c ≡ b * u * c + c = suc-mul (b * u) c in
        let y : b * c * u ≡ b * u * c = mul_assoc b c u ∙ ap (λ (z : ℕ). b * z) (mul_comm c u) ∙ sym (mul_assoc b u c) in
        omega arith

-- d is 1 at most: the distance is 2 at most
pub distance-le : (h k : ℕ) (d : Float) → num d ≤ den d → k < 2 ^ h + 2 ^ h → distance h (num d) (den d) k ≤ 2 * (2 ^ h * den d)
distance-le h k d Q K =
    let m = den d in
    let B : num d * 2 ^ h ≤ 2 ^ h * m = le_trans (mul-le-mul_right (2 ^ h) Q) (le_of_eq (mul_comm m (2 ^ h))) in
    let KM : k * m ≤ 2 ^ h * m + 2 ^ h * m = le_trans (mul-le-mul_right m (le_of_lt K)) (le_of_eq (add-mul (2 ^ h) (2 ^ h) m)) in
    omega arith

-- d is 2 ^ -h at most: the distance is 1 at most
pub distance-le-one : (h k : ℕ) (d : Float) → num d * 2 ^ h ≤ den d → k < 2 ^ h + 2 ^ h → distance h (num d) (den d) k ≤ 1 * (2 ^ h * den d)
distance-le-one h k d Q K =
    let m = den d in
    let KM : k * m + m ≤ 2 ^ h * m + 2 ^ h * m = le_trans (le_of_eq (sym (suc-mul k m))) (le_trans (mul-le-mul_right m K) (le_of_eq (add-mul (2 ^ h) (2 ^ h) m))) in
    omega arith

small : (E c t : ℕ) → 0 < c → E ≤ 2 * c → t ≤ 51 → suc (E * 2 ^ t / c) < 2 ^ 53
small E c t C h L = last (2 ^ t) (pow_mono L) (cell-le E c t 2 C h)
  where
    last : {x : ℕ} (u : ℕ) → u ≤ 2 ^ 51 → x ≤ 2 * u → suc x < 2 ^ 53
    last u g i = omega arith

-- a sum whose exact size is E / c
module _ (x y : Float) (A B c E t : ℕ) (C : 0 < c) (L : t ≤ 51) (S : E ≤ 2 * c) where
  high : Holds binary64 (suc (E * 2 ^ t / c)) (2 ^ t)
  high = holds-short binary64 (suc (E * 2 ^ t / c)) t (small E c t C S L) (le_trans L (lit≤ tt))

  low : Holds binary64 (E * 2 ^ t / c) (2 ^ t)
  low = holds-short binary64 (E * 2 ^ t / c) t (lt_of_le_of_lt (le-suc (E * 2 ^ t / c)) (small E c t C S L)) (le_trans L (lit≤ tt))

  add-both : E ≡ A + B → Bracket false x A A c → Bracket false y B B c → Bracket false (add binary64 x y) (E * 2 ^ t / c) (suc (E * 2 ^ t / c)) (2 ^ t)
  add-both e i j =
      let w : E * 2 ^ t ≡ A * 2 ^ t + B * 2 ^ t = ap (λ (z : ℕ). z * 2 ^ t) e ∙ add-mul A B (2 ^ t) in
      bracket-add-same binary64 x y A A B B c (E * 2 ^ t / c) (suc (E * 2 ^ t / c)) (2 ^ t) C (pow_pos t) low high false i j
      (le_trans (floor-le (E * 2 ^ t) c) (le_of_eq w)) (le_trans (le_of_eq (sym w)) (le-ceil (E * 2 ^ t) c C))

  add-minus : E + B ≡ A → B < A → Bracket true x A A c → Bracket false y B B c → Bracket true (add binary64 x y) (E * 2 ^ t / c) (suc (E * 2 ^ t / c)) (2 ^ t)
  add-minus e o i j =
      let w : E * 2 ^ t + B * 2 ^ t ≡ A * 2 ^ t = sym (add-mul E B (2 ^ t)) ∙ ap (λ (z : ℕ). z * 2 ^ t) e in
      let f = floor-le (E * 2 ^ t) c in
      let g = le-ceil (E * 2 ^ t) c C in
      bracket-add-less binary64 x y A A B B c (E * 2 ^ t / c) (suc (E * 2 ^ t / c)) (2 ^ t) C (pow_pos t) low high true i j o (omega arith) (omega arith)

  add-plus : E + A ≡ B → A ≤ B → Bracket true x A A c → Bracket false y B B c → Bracket false (add binary64 x y) (E * 2 ^ t / c) (suc (E * 2 ^ t / c)) (2 ^ t)
  add-plus e o i j =
      let w : E * 2 ^ t + A * 2 ^ t ≡ B * 2 ^ t = sym (add-mul E A (2 ^ t)) ∙ ap (λ (z : ℕ). z * 2 ^ t) e in
      let f = floor-le (E * 2 ^ t) c in
      let g = le-ceil (E * 2 ^ t) c C in
      bracket-add-more binary64 x y A A B B c (E * 2 ^ t / c) (suc (E * 2 ^ t / c)) (2 ^ t) C (pow_pos t) low high i j o (omega arith) (omega arith)

pub shifted_in : (t h k : ℕ) (d : Float) → T (positive d) → num d ≤ den d → h ≤ 52 → t ≤ 51 → k < 2 ^ h + 2 ^ h → Bracket (negative t h k d) (shifted d h k) (cell t h k d) (suc (cell t h k d)) (2 ^ t)
unfolding shifted
shifted_in t h k d P Q L L' K = go (centred-exact h k L K)
  where
    n : ℕ
    n = num d

    m : ℕ
    m = den d

    c : ℕ
    c = 2 ^ h * den d

    C : 0 < 2 ^ h * den d
    C = mul-pos (pow_pos h) (den_pos d)

    S : distance h n m k ≤ 2 * c
    S = distance-le h k d Q K

    dd : Bracket false d (n * 2 ^ h) (n * 2 ^ h) c
    dd = bracket-widen false d n n m (n * 2 ^ h) (n * 2 ^ h) c (den_pos d) (le_of_eq (mul_assoc n (2 ^ h) m)) (le_of_eq (sym (mul_assoc n (2 ^ h) m))) (bracket-own d P)

    over : (s : Bool) (a : ℕ) → Bracket s (centred h k) a a (2 ^ h) → Bracket s (centred h k) (a * m) (a * m) c
    over s a i = bracket-widen s (centred h k) a a (2 ^ h) (a * m) (a * m) c (pow_pos h) (le_of_eq (e a m (2 ^ h))) (le_of_eq (sym (e a m (2 ^ h)))) i
      where
        e : (a m H : ℕ) → a * m * H ≡ a * (H * m)
        e a m H = mul_assoc a m H ∙ ap (λ (z : ℕ). a * z) (mul_comm m H)

    -- (k - 2 ^ h) * m and (2 ^ h - k) * m
    ahead : 2 ^ h ≤ k → (k - 2 ^ h) * m + c ≡ k * m
    ahead g = sym (add-mul (k - 2 ^ h) (2 ^ h) m) ∙ ap (λ (z : ℕ). z * m) (sub-add_cancel g)

    behind : k < 2 ^ h → (2 ^ h - k) * m + k * m ≡ c
    behind g = sym (add-mul (2 ^ h - k) k m) ∙ ap (λ (z : ℕ). z * m) (sub-add_cancel (le_of_lt g))

    first : (b : Bool) → (T b → plus-d h n m k < c) → 2 ^ h ≤ k → Bracket false (centred h k) (k - 2 ^ h) (k - 2 ^ h) (2 ^ h) → Bracket b (add binary64 (centred h k) d) (distance h n m k * 2 ^ t / c) (suc (distance h n m k * 2 ^ t / c)) (2 ^ t)
    first true l g i = let e = ahead g in let f = l tt in let z : ⊥ = omega arith in absurd z
    first false l g i = let e = ahead g in add-both (centred h k) d ((k - 2 ^ h) * m) (n * 2 ^ h) c (distance h n m k) t C L' S (omega arith) (over false (k - 2 ^ h) i) dd

    second : (b : Bool) → (T b → plus-d h n m k < c) → (T (not b) → c ≤ plus-d h n m k) → k < 2 ^ h → Bracket true (centred h k) (2 ^ h - k) (2 ^ h - k) (2 ^ h) → Bracket b (add binary64 (centred h k) d) (distance h n m k * 2 ^ t / c) (suc (distance h n m k * 2 ^ t / c)) (2 ^ t)
    second true l l' g i =
        let e = behind g in
        let f = l tt in
        add-minus (centred h k) d ((2 ^ h - k) * m) (n * 2 ^ h) c (distance h n m k) t C L' S (omega arith) (omega arith) (over true (2 ^ h - k) i) dd
    second false l l' g i =
        let e = behind g in
        let f = l' tt in
        add-plus (centred h k) d ((2 ^ h - k) * m) (n * 2 ^ h) c (distance h n m k) t C L' S (omega arith) (omega arith) (over true (2 ^ h - k) i) dd

    go : Centred h k → Bracket (ltb (plus-d h n m k) c) (add binary64 (centred h k) d) (distance h n m k * 2 ^ t / c) (suc (distance h n m k * 2 ^ t / c)) (2 ^ t)
    go (inl i) = first (ltb (plus-d h n m k) c) (ltb→lt (plus-d h n m k) c) i.0 i.1
    go (inr i) = second (ltb (plus-d h n m k) c) (ltb→lt (plus-d h n m k) c) (nltb→le (plus-d h n m k) c) i.0 i.1
