-- The digits and the excess of a group code of 16 bits: each digit is below nine and the excess below 2,428.
use Rattle.std.specs.Prelude.{ℕ, ◌*◌, ◌/◌, ◌<◌, ◌≤◌, get_or}
use Rattle.std.proofs.Common.{lt_of_lt_of_le, arith}
use Rattle.std.proofs.Math.Nat.{div-mul-le_self, mul-le-mul_left}
use Rattle.requant.specs.Requant.{degrouped, excess_of}
use Rattle.requant.proofs.Digits.{digit_lt}

-- a third at the most
third : (n c : ℕ) → 3 ≤ n → 3 * (c / n) ≤ c
third n c h = omega (arith, mul-le-mul_left (c / n) h, div-mul-le_self c n)

pub few : (n c : ℕ) → 3 ≤ n → c < 65536 → excess_of n c < 2428
unfolding excess_of
few n c h k = omega (arith, third n c h, third n (c / n) h, third n (c / n / n) h)

pub low : (n c k : ℕ) → 3 ≤ n → n ≤ 9 → get_or (degrouped n c) k 0 < 9
low n c k h most = lt_of_lt_of_le (digit_lt n c k (omega arith)) most
