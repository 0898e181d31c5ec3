-- A float held between two fractions over one denominator, through one rounding: rounding keeps the order, and leaves a bound that the format holds where it is.
use Rattle.std.specs.Prelude.{◌≡◌, refl, ℕ, ◌*◌, ◌^◌, ◌≤◌, ◌<◌, Bool, true, false, ◌&&◌, ◌||◌, T, ltb, eqb, Float}
use Rattle.std.proofs.Common.{sym, ◌∙◌, subst, zero-le, le_refl, le_trans, le_of_eq, le_of_lt, le_of_mul-le-mul_right, true≢false, eqb→eq, ltb→lt, pow_pos}
use Rattle.std.specs.Float.{nan, inf, fin, Format}
use Rattle.std.specs.Float.Ieee.{prec, up, down, round, neg, le}
use Rattle.std.specs.Float.Ieee.Fits.{down_pos, and_l}
use Rattle.std.specs.Float.Ieee.Exact.{HasValue}
use Rattle.std.specs.Float.Ieee.Order.{round_mono}
use Rattle.std.specs.Float.Ieee.Positive.{through}
use Rattle.floats.proofs.Sign.{round-neg, Plus, round-plus}
use Rattle.floats.proofs.Holds.{Holds, holds-value, holds-short}

-- x is finite, of the sign s, and from q / c to p / c in size
abbrev pub Bracket : Bool → Float → ℕ → ℕ → ℕ → Type 0
Bracket s nan q p c = ⊥
Bracket s (inf t) q p c = ⊥
Bracket s (fin t m e) q p c = (t ≡ s) × (q * down e ≤ m * up e * c) × (m * up e * c ≤ p * down e)

le-of-test : (a b : ℕ) → T (ltb a b || (eqb a b && true)) → a ≤ b
le-of-test a b t = go (ltb a b) (eqb a b) (ltb→lt a b) (eqb→eq a b) t
  where
    go : (u v : Bool) → (T u → a < b) → (T v → a ≡ b) → T (u || (v && true)) → a ≤ b
    go true v l e t = le_of_lt (l tt)
    go false v l e t = le_of_eq (e (and_l v true t))

-- between two values that are q / c and p / c
bracket-of : (lo x hi : Float) (q p c : ℕ) → Plus x → HasValue lo false q c → HasValue hi false p c → T (le lo x) → T (le x hi) → Bracket false x q p c
unfolding le
bracket-of nan x hi q p c z u v g h = absurd u
bracket-of (inf t) x hi q p c z u v g h = absurd u
bracket-of (fin true n d) x hi q p c z u v g h = absurd (true≢false u.0)
bracket-of (fin false n d) nan hi q p c z u v g h = absurd z
bracket-of (fin false n d) (inf true) hi q p c z u v g h = absurd (true≢false z)
bracket-of (fin false n d) (inf false) nan q p c z u v g h = absurd v
bracket-of (fin false n d) (inf false) (inf t) q p c z u v g h = absurd v
bracket-of (fin false n d) (inf false) (fin t k i) q p c z u v g h = absurd h
bracket-of (fin false n d) (fin true m e) hi q p c z u v g h = absurd (true≢false z)
bracket-of (fin false n d) (fin false m e) nan q p c z u v g h = absurd v
bracket-of (fin false n d) (fin false m e) (inf t) q p c z u v g h = absurd v
bracket-of (fin false n d) (fin false m e) (fin true k i) q p c z u v g h = absurd (true≢false v.0)
bracket-of (fin false n d) (fin false m e) (fin false k i) q p c z u v g h = (
  refl,
  through q (n * up d) (m * up e) c (down d) (down e) (down_pos d) (le_of_eq (sym u.1)) (le-of-test (n * up d * down e) (m * up e * down d) g),
  through (m * up e) (k * up i) p (down e) (down i) c (down_pos i) (le-of-test (m * up e * down i) (k * up i * down e) h) (le_of_eq v.1),
)

bracket-neg : (x : Float) (q p c : ℕ) → Bracket false x q p c → Bracket true (neg x) q p c
unfolding neg
bracket-neg nan q p c h = h
bracket-neg (inf t) q p c h = h
bracket-neg (fin true m e) q p c h = absurd (true≢false h.0)
bracket-neg (fin false m e) q p c h = (refl, h.1, h.2)

round-plus-in : (f : Format) (a b q p c : ℕ) → 0 < b → 0 < c → Holds f q c → Holds f p c → q * b ≤ a * c → a * c ≤ p * b → Bracket false (round f false a b) q p c
round-plus-in f a b q p c B C r r' g h =
    bracket-of (round f false q c) (round f false a b) (round f false p c) q p c (round-plus f a b) (holds-value f q c C r) (holds-value f p c C r')
    (round_mono f q c a b C B g) (round_mono f a b p c B C h)

-- q / c ≤ a / b ≤ p / c, rounded
pub bracket-round : (f : Format) (s : Bool) (a b q p c : ℕ) → 0 < b → 0 < c → Holds f q c → Holds f p c → q * b ≤ a * c → a * c ≤ p * b → Bracket s (round f s a b) q p c
bracket-round f false a b q p c B C r r' g h = round-plus-in f a b q p c B C r r' g h
bracket-round f true a b q p c B C r r' g h =
    subst (λ (x : Float). Bracket true x q p c) (sym (round-neg f a b)) (bracket-neg (round f false a b) q p c (round-plus-in f a b q p c B C r r' g h))

-- an integer that the format holds
pub bracket-int : (f : Format) (s : Bool) (n : ℕ) → n < 2 ^ prec f → Bracket s (round f s n 1) n n 1
bracket-int f s n h = bracket-round f s n 1 n n 1 (pow_pos 0) (pow_pos 0) (holds-short f n 0 h zero-le) (holds-short f n 0 h zero-le) (le_refl (n * 1)) (le_refl (n * 1))

-- one float in two brackets: they have one sign, and each reaches the other
pub bracket-meet : (s s' : Bool) (x : Float) (q p q' p' c : ℕ) → Bracket s x q p c → Bracket s' x q' p' c → (s ≡ s') × (q ≤ p')
bracket-meet s s' nan q p q' p' c i j = absurd i
bracket-meet s s' (inf t) q p q' p' c i j = absurd i
bracket-meet s s' (fin t m e) q p q' p' c i j = (sym i.0 ∙ j.0, le_of_mul-le-mul_right (le_trans i.1 j.2) (down_pos e))

-- wider bounds, over another denominator
pub bracket-widen : (s : Bool) (x : Float) (q p c q' p' c' : ℕ) → 0 < c → q' * c ≤ q * c' → p * c' ≤ p' * c → Bracket s x q p c → Bracket s x q' p' c'
bracket-widen s nan q p c q' p' c' C g h i = i
bracket-widen s (inf t) q p c q' p' c' C g h i = i
bracket-widen s (fin t m e) q p c q' p' c' C g h i = (i.0, through q' q (m * up e) c' c (down e) C g i.1, through (m * up e) p p' (down e) c c' C i.2 h)
