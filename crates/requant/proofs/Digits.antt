-- The digits of a grouped code are codes of the class: each is below the number of steps.
use Rattle.std.proofs.Common.{subst, lt_of_lt_of_le, le_trans, mod-lt, lit≤}
use Rattle.std.specs.Prelude.{ℕ, zero, suc, ◌/◌, ◌^◌, ◌≤◌, ◌<◌, T, get_or}
use Rattle.bitalloc.specs.Classes.{is_class, bits_per_sample}
use Rattle.bitalloc.proofs.Places.{class-steps}
use Rattle.bitalloc.proofs.Rules.{steps-rules}
use Rattle.requant.specs.Requant.{degrouped}

-- past the three, a digit reads as 0
pub digit_lt : (n c i : ℕ) → 0 < n → get_or (degrouped n c) i 0 < n
unfolding degrouped
digit_lt n c zero N = mod-lt c N
digit_lt n c (suc zero) N = mod-lt (c / n) N
digit_lt n c (suc (suc zero)) N = mod-lt (c / n / n) N
digit_lt n c (suc (suc (suc i))) N = N

pub digit-code : (steps c i : ℕ) → T (is_class steps) → get_or (degrouped steps c) i 0 < 2 ^ bits_per_sample steps
digit-code steps c i C =
    lt_of_lt_of_le (digit_lt steps c i (subst (λ (n : ℕ). 0 < n) (class-steps steps C) (le_trans (lit≤ tt) (steps-rules steps C).steps_low)))
    (subst (λ (n : ℕ). n ≤ 2 ^ bits_per_sample steps) (class-steps steps C) (steps-rules steps C).steps_high)
