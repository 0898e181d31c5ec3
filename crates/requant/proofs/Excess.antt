-- A grouped code is its digits and its excess; below the cube of the steps it has none.
use Rattle.std.specs.Prelude.{◌≡◌, ℕ, zero, suc, ◌+◌, ◌*◌, ◌/◌, ◌%◌, ◌^◌, ◌<◌}
use Rattle.std.proofs.Common.{sym, ap, ◌∙◌, div-add-mod', div-lt_iff_lt-mul, zero-lt-suc, arith}
use Rattle.std.proofs.Math.Nat.{pow-suc, pow-zero, div-eq_of_lt, add_assoc, add-mul, mul_assoc, mul_comm}
use Rattle.requant.specs.Requant.{degrouped, excess_of, number_of, Whole}

cube : (n : ℕ) → n ^ 3 ≡ n * n * n
cube n = rw (pow-suc n 2, pow-suc n 1, pow-suc n 0, pow-zero n) (omega arith)

-- four digits, the first of which stands before the other three
with_first : (e x y z n : ℕ) → ((e * n + x) * n + y) * n + z ≡ (x * n + y) * n + z + n * n * n * e
with_first e x y z n =
    let a : (e * n + x) * n ≡ e * n * n + x * n = add-mul (e * n) x n in
    let b : (e * n * n + (x * n + y)) * n ≡ e * n * n * n + (x * n + y) * n = add-mul (e * n * n) (x * n + y) n in
    let c : e * n * n * n ≡ n * n * n * e = mul_assoc (e * n) n n ∙ (mul_assoc e n (n * n) ∙ (mul_comm e (n * (n * n)) ∙ ap (λ (t : ℕ). t * e) (sym (mul_assoc n n n)))) in
    ap (λ (t : ℕ). (t + y) * n + z) a ∙ (ap (λ (t : ℕ). t * n + z) (add_assoc (e * n * n) (x * n) y) ∙ (ap (λ (t : ℕ). t + z) b ∙ rw c (omega arith)))

pub whole : Whole
unfolding degrouped excess_of number_of
whole n c =
    let third : c / n / n / n * n + c / n / n % n ≡ c / n / n = div-add-mod' (c / n / n) n in
    let second : c / n / n * n + c / n % n ≡ c / n = div-add-mod' (c / n) n in
    let first : c / n * n + c % n ≡ c = div-add-mod' c n in
    rw (cube n) (sym (with_first (c / n / n / n) (c / n / n % n) (c / n % n) (c % n) n))
    ∙ (ap (λ (x : ℕ). (x * n + c / n % n) * n + c % n) third ∙ (ap (λ (x : ℕ). x * n + c % n) second ∙ first))

pub excess-none : (n c : ℕ) → c < n ^ 3 → excess_of n c ≡ 0
unfolding excess_of
excess-none zero c h = absurd (omega arith)
excess-none (suc m) c h =
    let some = zero-lt-suc m in
    div-eq_of_lt ((div-lt_iff_lt-mul some).1 ((div-lt_iff_lt-mul some).1 (rw (cube (suc m)) at h)))
