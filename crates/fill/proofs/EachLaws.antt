-- Laws of a test of each of the first n numbers.
use Rattle.std.specs.Prelude.{◌≡◌, refl, Bool, true, false, not, ◌&&◌, ℕ, zero, suc, ◌+◌, ◌≤◌, ◌<◌}
use Rattle.std.proofs.Common.{sym, ap, ap₂, ◌∙◌, ⊎_elim, eq-or-lt_of_le, le_antisymm, le_of_suc-le-suc, add-one, arith}
use Rattle.std.proofs.Math.Bool.{and-false}
use Rattle.std.proofs.lemmas.Bool.{not-true, not-false}
use Rattle.fill.specs.Each.{each}

pub each_none : (test : ℕ → Bool) → each test 0 ≡ true
unfolding each
each_none test = refl

each_more : (test : ℕ → Bool) (n : ℕ) → each test n ≡ true → test n ≡ true → each test (n + 1) ≡ true
unfolding each
each_more test n e t = rw (add-one n, e, t)

each-fails : (test : ℕ → Bool) (n k : ℕ) → k < n → test k ≡ false → each test n ≡ false
unfolding each
each-fails test zero k h t = absurd (omega arith)
each-fails test (suc n) k h t =
    ⊎_elim (λ e. rw (← e, t) (and-false (each test k))) (λ l. rw (each-fails test n k l t)) (eq-or-lt_of_le (le_of_suc-le-suc h))

pub each_same : (f g : ℕ → Bool) (n : ℕ) → ((k : ℕ) → k < n → f k ≡ g k) → each f n ≡ each g n
unfolding each
each_same f g zero h = refl
each_same f g (suc n) h = ap₂ ◌&&◌ (each_same f g n (λ k l. h k (omega arith))) (h n (omega arith))

-- the same of a loop that leaves at the first number that fails; b is the test's answer
module _ (test : ℕ → Bool) (n k : ℕ) where
  pub each_left : k < n → (b : Bool) → b ≡ test k → not b ≡ true → false ≡ each test n
  each_left h b e t = sym (each-fails test n k h (sym e ∙ not-true b t))

  pub each_on : each test k ≡ true → (b : Bool) → b ≡ test k → not b ≡ false → each test (k + 1) ≡ true
  each_on h b e t = each_more test k h (sym e ∙ not-false b t)

  pub each_all : k ≤ n → n ≤ k → each test k ≡ true → each test n ≡ true
  each_all h l e = rw (le_antisymm l h) e

-- the same of a loop that keeps the answer in a flag and goes on to the end
pub each_start : (test : ℕ → Bool) → true ≡ each test 0
each_start test = sym (each_none test)

pub each_next : (test : ℕ → Bool) (k : ℕ) (are b : Bool) → are ≡ each test k → b ≡ test k → are && b ≡ each test (k + 1)
unfolding each
each_next test k are b e q = rw (add-one k, e, q)

pub each-end : (test : ℕ → Bool) (k n : ℕ) (are : Bool) → are ≡ each test k → k ≤ n → n ≤ k → are ≡ each test n
each-end test k n are e l h = let q : k ≡ n = omega arith in e ∙ ap (each test) q
