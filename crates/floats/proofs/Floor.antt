-- A fraction cut down to a whole number, and the next one up.
use Rattle.std.proofs.Common.{sym, le_trans, le_of_eq, le_of_lt, mul-le-mul_right, add-mul, div-mul-le_self, le-div_iff_mul-le, suc-mul, add-le-add}
use Rattle.std.specs.Prelude.{ℕ, suc, ◌+◌, ◌*◌, ◌/◌, ◌≤◌, ◌<◌}
use Rattle.std.proofs.Math.Nat.{lt-div-mul-add}
use Rattle.std.specs.Float.Ieee.Nearest.{div_mono}

pub floor-le : (x c : ℕ) → x / c * c ≤ x
floor-le x c = div-mul-le_self x c

pub le-ceil : (x c : ℕ) → 0 < c → x ≤ suc (x / c) * c
le-ceil x c C = rw suc-mul (le_of_lt (lt-div-mul-add C))

pub floor-mono : (q p n m : ℕ) → 0 < m → q ≤ p → q * n / m ≤ p * n / m
floor-mono q p n m M h = div_mono (q * n) m (p * n) m M M (mul-le-mul_right m (mul-le-mul_right n h))

-- p + g ≤ q, each times y / c
pub floor-spread : (p q g y c : ℕ) → 0 < c → p + g ≤ q → p * y / c + g * y / c ≤ q * y / c
floor-spread p q g y c C h =
    (le-div_iff_mul-le C).1
    (le_trans (le_of_eq (add-mul (p * y / c) (g * y / c) c))
    (le_trans (add-le-add (div-mul-le_self (p * y) c) (div-mul-le_self (g * y) c))
    (le_trans (le_of_eq (sym (add-mul p g y))) (mul-le-mul_right y h))))
