-- The sign goes through `round`: the negative of a fraction rounds to the negative of what the fraction rounds to.
use Rattle.std.specs.Prelude.{◌≡◌, refl, ℕ, zero, suc, ◌+◌, ◌*◌, ◌^◌, Bool, true, false, cond, ltb, Float}
use Rattle.std.proofs.Common.{sym, ap, ◌∙◌, subst}
use Rattle.std.specs.Float.{nan, inf, fin, Format}
use Rattle.std.specs.Float.Ieee.{prec, emax, low, odd, units, round, neg, unlike}
use Rattle.std.specs.Float.Ieee.Fits.{round_is}

-- the sign of a product with a factor that is not negative
pub unlike-right : (s : Bool) → unlike s false ≡ s
unlike-right true = refl
unlike-right false = refl

pub unlike-left : (s : Bool) → unlike false s ≡ s
unlike-left true = refl
unlike-left false = refl

odd-neg : (d q k l : ℕ) → odd d true q k l ≡ neg (odd d false q k l)
unfolding odd neg
odd-neg d zero k l = refl
odd-neg d (suc q) k l = refl

units-neg : (f : Format) (q k : ℕ) → units f true q k ≡ neg (units f false q k)
unfolding units neg
units-neg f q k = go (ltb (q * 2 ^ k) (2 ^ (low f + suc (emax f))))
  where
    go : (b : Bool) → cond b (odd (suc (prec f)) true q k (low f)) (inf true) ≡ neg (cond b (odd (suc (prec f)) false q k (low f)) (inf false))
    go true = odd-neg (suc (prec f)) q k (low f)
    go false = refl

pub round-neg : (f : Format) (a b : ℕ) → round f true a b ≡ neg (round f false a b)
round-neg f a b = round_is f true a b ∙ units-neg f _ _ ∙ ap neg (sym (round_is f false a b))

-- neither a NaN nor negative
abbrev pub Plus : Float → Type 0
Plus nan = ⊥
Plus (inf t) = t ≡ false
Plus (fin t m e) = t ≡ false

odd-plus : (d q k l : ℕ) → Plus (odd d false q k l)
unfolding odd
odd-plus d zero k l = refl
odd-plus d (suc q) k l = refl

units-plus : (f : Format) (q k : ℕ) → Plus (units f false q k)
unfolding units
units-plus f q k = go (ltb (q * 2 ^ k) (2 ^ (low f + suc (emax f))))
  where
    go : (b : Bool) → Plus (cond b (odd (suc (prec f)) false q k (low f)) (inf false))
    go true = odd-plus (suc (prec f)) q k (low f)
    go false = refl

pub round-plus : (f : Format) (a b : ℕ) → Plus (round f false a b)
round-plus f a b = subst Plus (sym (round_is f false a b)) (units-plus f _ _)
