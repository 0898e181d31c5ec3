-- Sums over the 96 places, of which the first 90 count, over the 48 predictors and over the 12 granules.
use Rattle.std.specs.Prelude.{◌≡◌, refl, cond, ℕ, ltb}
use Rattle.bits.specs.Total.{total}

-- w at each of the first 90 places
abbrev pub ninety : ℕ → ℕ → ℕ
ninety w i = cond (ltb i 90) w 0

pub ninety-scfsi : total 96 0 (ninety 2) ≡ 180
unfolding total
ninety-scfsi = refl

pub ninety-factors : total 96 0 (ninety 18) ≡ 1620
unfolding total
ninety-factors = refl

pub ninety-samples : total 96 0 (ninety 48) ≡ 4320
unfolding total
ninety-samples = refl

pub all-predictors : total 48 0 (λ _. 27) ≡ 1296
unfolding total
all-predictors = refl

pub all-granules : total 12 0 (λ _. 4336) ≡ 52032
unfolding total
all-granules = refl
