-- A sum of two floats that lie in brackets over one denominator c lies in a bracket: one rule for each way that the signs and sizes fall.
use Rattle.std.specs.Prelude.{◌≡◌, ℕ, ◌+◌, ◌-◌, ◌*◌, ◌≤◌, ◌<◌, Bool, true, false, not, ◌&&◌, cond, T, ltb, Float}
use Rattle.std.proofs.Common.{sym, subst, subst₂, le_trans, lt_of_lt_of_le, lt_of_le_of_lt, lt_irrefl, mul_assoc, mul_comm, mul_left_comm, mul-pos, mul-le-mul_right, mul-lt-mul_of_pos_right, le_of_mul-le-mul_right, lt_of_mul-lt-mul_right, arith, ltb→lt, lt→ltb, nltb→le}
use Rattle.std.proofs.Math.Nat.{add-mul, mul-sub}
use Rattle.std.specs.Bool.{beq}
use Rattle.std.specs.Float.{nan, inf, fin, Format}
use Rattle.std.specs.Float.Ieee.{up, down, round, sum, add}
use Rattle.std.specs.Float.Ieee.Fits.{down_pos}
use Rattle.floats.proofs.Holds.{Holds}
use Rattle.floats.proofs.Bracket.{Bracket, bracket-round}

-- a / n lies in [q, p] / c
abbrev In : ℕ → ℕ → ℕ → ℕ → ℕ → Type 0
In a n q p c = (q * n ≤ a * c) × (a * c ≤ p * n)

ruleset ac = (add-mul, mul_assoc, mul_comm, mul_left_comm)

-- each fact is multiplied by n, or by u, and the factor c is taken off
module _ (a b l n c u q q' : ℕ) (C : 0 < c) where
  sum_low : l * c ≤ q * u + q' * u → q * n ≤ a * c → q' * n ≤ b * c → l * n ≤ a * u + b * u
  sum_low g i j = le_of_mul-le-mul_right (let x = simp ac at (mul-le-mul_right n g) in let y = simp ac at (mul-le-mul_right u i) in let z = simp ac at (mul-le-mul_right u j) in simp ac (omega arith)) C

  sum-high : q * u + q' * u ≤ l * c → a * c ≤ q * n → b * c ≤ q' * n → a * u + b * u ≤ l * n
  sum-high g i j = le_of_mul-le-mul_right (let x = simp ac at (mul-le-mul_right n g) in let y = simp ac at (mul-le-mul_right u i) in let z = simp ac at (mul-le-mul_right u j) in simp ac (omega arith)) C

  difference_low : l * c + q' * u ≤ q * u → q * n ≤ a * c → b * c ≤ q' * n → l * n + b * u ≤ a * u
  difference_low g i j = le_of_mul-le-mul_right (let x = simp ac at (mul-le-mul_right n g) in let y = simp ac at (mul-le-mul_right u i) in let z = simp ac at (mul-le-mul_right u j) in simp ac (omega arith)) C

  difference-high : q * u ≤ l * c + q' * u → a * c ≤ q * n → q' * n ≤ b * c → a * u ≤ l * n + b * u
  difference-high g i j = le_of_mul-le-mul_right (let x = simp ac at (mul-le-mul_right n g) in let y = simp ac at (mul-le-mul_right u i) in let z = simp ac at (mul-le-mul_right u j) in simp ac (omega arith)) C

le-sub : (a b u x : ℕ) → x + b * u ≤ a * u → x ≤ (a - b) * u
le-sub a b u x h = rw (mul_comm (a - b) u, mul-sub u a b) (let p = mul_comm a u in let q = mul_comm b u in omega arith)

sub-le : (a b u x : ℕ) → a * u ≤ x + b * u → (a - b) * u ≤ x
sub-le a b u x h = rw (mul_comm (a - b) u, mul-sub u a b) (let p = mul_comm a u in let q = mul_comm b u in omega arith)

-- a / n below b / n, or not above it
lt_by : (a b n q p' c : ℕ) → 0 < n → 0 < c → q < p' → a * c ≤ q * n → p' * n ≤ b * c → a < b
lt_by a b n q p' c N C h i j = lt_of_mul-lt-mul_right c (lt_of_le_of_lt i (lt_of_lt_of_le (mul-lt-mul_of_pos_right h N) j))

le-by : (a b n q p' c : ℕ) → 0 < c → q ≤ p' → a * c ≤ q * n → p' * n ≤ b * c → a ≤ b
le-by a b n q p' c C h i j = le_of_mul-le-mul_right (le_trans i (le_trans (mul-le-mul_right n h) j)) C

not-both : (a b : ℕ) → a < b → b < a → ⊥
not-both a b g h = omega arith

-- ---- fractions over one denominator n
module _ (f : Format) (a b n q p q' p' c l h u : ℕ) (N : 0 < n) (C : 0 < c) (U : 0 < u) (r : Holds f l u) (r' : Holds f h u) (i : In a n q p c) (j : In b n q' p' c) where
  -- of one sign
  sum_same : (s : Bool) → l * c ≤ q * u + q' * u → p * u + p' * u ≤ h * c → Bracket s (sum f s a s b n) l h u
  unfolding sum
  sum_same s g k = go s
    where
      it : (s : Bool) → Bracket s (round f s (a + b) n) l h u
      it s = bracket-round f s (a + b) n l h u N U r r' (rw add-mul (sum_low a b l n c u q q' C g i.0 j.0)) (rw add-mul (sum-high a b h n c u p p' C k i.1 j.1))

      go : (s : Bool) → Bracket s (sum f s a s b n) l h u
      go true = it true
      go false = it false

  -- of two signs, the first the greater in size
  sum_less : (s : Bool) → p' < q → l * c + p' * u ≤ q * u → p * u ≤ h * c + q' * u → Bracket s (sum f s a (not s) b n) l h u
  unfolding sum
  sum_less s o g k = go s (ltb a b) (ltb b a) (ltb→lt a b) (lt→ltb b a less)
    where
      less : b < a
      less = lt_by b a n p' q c N C o j.1 i.0

      it : (s : Bool) → Bracket s (round f s (a - b) n) l h u
      it s = bracket-round f s (a - b) n l h u N U r r' (le-sub a b u (l * n) (difference_low a b l n c u q p' C g i.0 j.1)) (sub-le a b u (h * n) (difference-high a b h n c u p q' C k i.1 j.0))

      go : (s x y : Bool) → (T x → a < b) → T y → Bracket s (cond (beq s (not s)) (round f s (a + b) n) (cond x (round f (not s) (b - a) n) (round f (s && y) (a - b) n))) l h u
      go s true y z w = absurd (not-both a b (z tt) less)
      go s false false z w = absurd w
      go true false true z w = it true
      go false false true z w = it false

  -- a negative one and one that is not, the second no smaller in size
  sum_more : p ≤ q' → l * c + p * u ≤ q' * u → p' * u ≤ h * c + q * u → Bracket false (sum f true a false b n) l h u
  unfolding sum
  sum_more o g k = go (ltb a b) (ltb b a) (ltb→lt b a) (nltb→le a b)
    where
      more : a ≤ b
      more = le-by a b n p q' c C o i.1 j.0

      it : Bracket false (round f false (b - a) n) l h u
      it = bracket-round f false (b - a) n l h u N U r r' (le-sub b a u (l * n) (difference_low b a l n c u q' p C g j.0 i.1)) (sub-le b a u (h * n) (difference-high b a h n c u p' q C k j.1 i.0))

      equal : a ≤ b → b ≤ a → b - a ≡ a - b
      equal y z = omega arith

      go : (x y : Bool) → (T y → b < a) → (T (not x) → b ≤ a) → Bracket false (cond x (round f false (b - a) n) (round f (true && y) (a - b) n)) l h u
      go true y w z = it
      go false true w z = absurd (lt_irrefl b (lt_of_lt_of_le (w tt) more))
      go false false w z = subst (λ (m : ℕ). Bracket false (round f false m n) l h u) (equal more (z tt)) it

-- ---- floats, over the common denominator down e * down d
over : (x X y q p c : ℕ) → In X x q p c → In (X * y) (x * y) q p c
over x X y q p c i = (simp ac (simp ac at (mul-le-mul_right y i.0)), simp ac (simp ac at (mul-le-mul_right y i.1)))

add-by : (f : Format) (s s' z : Bool) (x y : Float) (q p q' p' c l h u : ℕ) → Bracket s x q p c → Bracket s' y q' p' c
    → ((a b n : ℕ) → 0 < n → In a n q p c → In b n q' p' c → Bracket z (sum f s a s' b n) l h u) → Bracket z (add f x y) l h u
unfolding add
add-by f s s' z nan y q p q' p' c l h u i j k = absurd i
add-by f s s' z (inf t) y q p q' p' c l h u i j k = absurd i
add-by f s s' z (fin t m e) nan q p q' p' c l h u i j k = absurd j
add-by f s s' z (fin t m e) (inf t') q p q' p' c l h u i j k = absurd j
add-by f s s' z (fin t m e) (fin t' n d) q p q' p' c l h u i j k =
    subst₂ (λ (v v' : Bool). Bracket z (sum f v (m * up e * down d) v' (n * up d * down e) (down e * down d)) l h u) (sym i.0) (sym j.0)
    (k (m * up e * down d) (n * up d * down e) (down e * down d) (mul-pos (down_pos e) (down_pos d)) (over (down e) (m * up e) (down d) q p c (i.1, i.2)) (rw (mul_comm (down e) (down d)) (over (down d) (n * up d) (down e) q' p' c (j.1, j.2))))

module _ (f : Format) (x y : Float) (q p q' p' c l h u : ℕ) (C : 0 < c) (U : 0 < u) (r : Holds f l u) (r' : Holds f h u) where
  pub bracket-add-same : (s : Bool) → Bracket s x q p c → Bracket s y q' p' c → l * c ≤ q * u + q' * u → p * u + p' * u ≤ h * c → Bracket s (add f x y) l h u
  bracket-add-same s i j g k = add-by f s s s x y q p q' p' c l h u i j (λ a b n N v w. sum_same f a b n q p q' p' c l h u N C U r r' v w s g k)

  pub bracket-add-less : (s : Bool) → Bracket s x q p c → Bracket (not s) y q' p' c → p' < q → l * c + p' * u ≤ q * u → p * u ≤ h * c + q' * u → Bracket s (add f x y) l h u
  bracket-add-less s i j o g k = add-by f s (not s) s x y q p q' p' c l h u i j (λ a b n N v w. sum_less f a b n q p q' p' c l h u N C U r r' v w s o g k)

  pub bracket-add-more : Bracket true x q p c → Bracket false y q' p' c → p ≤ q' → l * c + p * u ≤ q' * u → p' * u ≤ h * c + q * u → Bracket false (add f x y) l h u
  bracket-add-more i j o g k = add-by f true false false x y q p q' p' c l h u i j (λ a b n N v w. sum_more f a b n q p q' p' c l h u N C U r r' v w o g k)
