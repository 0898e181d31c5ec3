-- The fractions that a format holds, so that `round` leaves them as they are.
use Rattle.std.specs.Prelude.{◌≡◌, ℕ, suc, ◌+◌, ◌-◌, ◌*◌, ◌^◌, ◌≤◌, ◌<◌, false}
use Rattle.std.proofs.Common.{sym, ap, ◌∙◌, zero-mul, mul_assoc, lt_of_lt_of_le, arith, pow-add, pow_pos, pow_mono, shl_lt}
use Rattle.std.specs.Float.{Format, binary32, binary64}
use Rattle.std.specs.Float.Ieee.{prec, emax, low, round}
use Rattle.std.specs.Float.Ieee.Exact.{HasValue, round_exact}

-- p / c is digits * 2 ^ shift of the format's smallest values, and has no more digits than the format keeps
pub record Holds (f : Format) (p c : ℕ) : Type 0 where
  pub digits : ℕ
  pub shift : ℕ
  pub short : digits < 2 ^ prec f
  pub room : digits * 2 ^ shift < 2 ^ (low f + suc (emax f))
  pub same : p * 2 ^ low f ≡ digits * 2 ^ shift * c

pub holds-value : (f : Format) (p c : ℕ) → 0 < c → Holds f p c → HasValue (round f false p c) false p c
holds-value f p c C r = round_exact f false p c r.digits r.shift C r.short r.room r.same

pub holds-zero : (f : Format) (c : ℕ) → Holds f 0 c
holds-zero f c = record {
  digits = 0;
  shift = 0;
  short = pow_pos (prec f);
  room = pow_pos (low f + suc (emax f));
  same = zero-mul (2 ^ low f) ∙ sym (zero-mul c);
}

back : (l t : ℕ) → t ≤ l → l - t + t ≡ l
back l t h = omega arith

fit : (f : Format) (t : ℕ) → prec f + (low f - t) ≤ low f + suc (emax f)
fit binary32 t = omega arith
fit binary64 t = omega arith

-- a number of `prec` digits over 2 ^ t
pub holds-short : (f : Format) (p t : ℕ) → p < 2 ^ prec f → t ≤ low f → Holds f p (2 ^ t)
holds-short f p t h l = record {
  digits = p;
  shift = low f - t;
  short = h;
  room = lt_of_lt_of_le (shl_lt (prec f) (low f - t) h) (pow_mono (fit f t));
  same = ap (λ (x : ℕ). p * 2 ^ x) (sym (back (low f) t l)) ∙ ap (λ (x : ℕ). p * x) (pow-add 2 (low f - t) t) ∙ sym (mul_assoc p (2 ^ (low f - t)) (2 ^ t));
}
