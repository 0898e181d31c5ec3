-- To divide by a power of two is to multiply by its inverse, for any float: both round the same fraction.
use Rattle.std.specs.Prelude.{◌≡◌, refl, Bool, false, ◌&&◌, ℕ, zero, suc, ◌*◌, ◌^◌, ◌<◌, T, ℤ, pos, negsuc, Float}
use Rattle.std.proofs.Common.{sym, ap, ap₂, ◌∙◌, mul_comm, one-mul, arith}
use Rattle.std.specs.Float.{nan, inf, fin, binary64}
use Rattle.std.specs.Float.Ieee.{unlike, up, down, round, mul, div, of_int}
use Rattle.std.specs.Float.Ieee.Fits.{and_l, and_r}
use Rattle.floats.proofs.Same.{same, same→}
use Rattle.floats.proofs.Table.{all, all-at}

-- 2 ^ h, and its inverse as the machine divides
abbrev power : ℕ → Float
power h = of_int binary64 (pos (2 ^ h))

abbrev inverse : ℕ → Float
inverse h = div binary64 (of_int binary64 (pos 1)) (power h)

-- the exponent of the inverse
abbrev back : ℕ → ℤ
back zero = pos 0
back (suc h) = negsuc h

abbrev exact : ℕ → Bool
exact h = same (power h) (fin false 1 (pos h)) && same (inverse h) (fin false 1 (back h))

exacts : T (all exact 16)
unfolding div of_int
exacts = tt

-- the two ways to write the fraction
fraction : (s : Bool) (a b p : ℕ) → round binary64 s (a * (1 * 1)) (b * p) ≡ round binary64 s (a * 1) (1 * p * b)
fraction s a b p =
    let u : a * (1 * 1) ≡ a * 1 = omega arith in
    let v : b * p ≡ 1 * p * b = mul_comm b p ∙ sym (ap (λ (x : ℕ). x * b) (one-mul p)) in
    ap₂ (λ (x y : ℕ). round binary64 s x y) u v

by-fin : (x : Float) (h : ℕ) → mul binary64 x (fin false 1 (back h)) ≡ div binary64 x (fin false 1 (pos h))
unfolding mul div
by-fin nan h = refl
by-fin (inf s) zero = refl
by-fin (inf s) (suc h) = refl
by-fin (fin s m e) zero = fraction (unlike s false) (m * up e) (down e) 1
by-fin (fin s m e) (suc h) = fraction (unlike s false) (m * up e) (down e) (2 ^ suc h)

pub by-inverse : (x : Float) (h : ℕ) → h < 16 → mul binary64 x (inverse h) ≡ div binary64 x (power h)
by-inverse x h l =
    let t = all-at exact 16 exacts h l in
    let p : power h ≡ fin false 1 (pos h) = same→ (power h) (fin false 1 (pos h)) (and_l (same (power h) (fin false 1 (pos h))) _ t) in
    let q : inverse h ≡ fin false 1 (back h) = same→ (inverse h) (fin false 1 (back h)) (and_r (same (power h) (fin false 1 (pos h))) _ t) in
    ap (λ (y : Float). mul binary64 x y) q ∙ (by-fin x h ∙ ap (λ (y : Float). div binary64 x y) (sym p))
