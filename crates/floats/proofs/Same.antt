-- Whether two floats are the same data, as a test that computes: 0 and -0 differ, and a NaN is the same as a NaN.
use Rattle.std.specs.Prelude.{◌≡◌, refl, Bool, true, false, ◌&&◌, ℕ, ℤ, pos, negsuc, T, eqb, Float}
use Rattle.std.proofs.Common.{ap, ◌∙◌, eqb→eq}
use Rattle.std.specs.Bool.{beq}
use Rattle.std.specs.Float.{nan, inf, fin}
use Rattle.std.specs.Float.Ieee.Fits.{and_l, and_r}

abbrev pub sameℤ : ℤ → ℤ → Bool
sameℤ (pos a) (pos b) = eqb a b
sameℤ (pos a) (negsuc b) = false
sameℤ (negsuc a) (pos b) = false
sameℤ (negsuc a) (negsuc b) = eqb a b

abbrev pub same : Float → Float → Bool
same nan nan = true
same nan (inf t) = false
same nan (fin t n d) = false
same (inf s) nan = false
same (inf s) (inf t) = beq s t
same (inf s) (fin t n d) = false
same (fin s m e) nan = false
same (fin s m e) (inf t) = false
same (fin s m e) (fin t n d) = beq s t && (eqb m n && sameℤ e d)

pub same_bool : (s t : Bool) → T (beq s t) → s ≡ t
same_bool true true h = refl
same_bool true false h = absurd h
same_bool false true h = absurd h
same_bool false false h = refl

same_int : (a b : ℤ) → T (sameℤ a b) → a ≡ b
same_int (pos a) (pos b) h = ap pos (eqb→eq a b h)
same_int (pos a) (negsuc b) h = absurd h
same_int (negsuc a) (pos b) h = absurd h
same_int (negsuc a) (negsuc b) h = ap negsuc (eqb→eq a b h)

pub same→ : (x y : Float) → T (same x y) → x ≡ y
same→ nan nan h = refl
same→ nan (inf t) h = absurd h
same→ nan (fin t n d) h = absurd h
same→ (inf s) nan h = absurd h
same→ (inf s) (inf t) h = ap inf (same_bool s t h)
same→ (inf s) (fin t n d) h = absurd h
same→ (fin s m e) nan h = absurd h
same→ (fin s m e) (inf t) h = absurd h
same→ (fin s m e) (fin t n d) h =
    let k = and_r (beq s t) (eqb m n && sameℤ e d) h in
    ap (λ (z : Bool). fin z m e) (same_bool s t (and_l (beq s t) _ h)) ∙ ap (λ (z : ℕ). fin t z e) (eqb→eq m n (and_l (eqb m n) _ k)) ∙ ap (λ (z : ℤ). fin t n z) (same_int e d (and_r (eqb m n) (sameℤ e d) k))
