-- Sums over turns, cut in two, moved and bounded, by which codes are counted.
use Rattle.std.specs.Prelude.{◌≡◌, refl, ℕ, zero, suc, ◌+◌, ◌≤◌}
use Rattle.std.proofs.Common.{arith}
use Rattle.bits.specs.Total.{total}
use Rattle.mc_payload.specs.Record.{one_for}

-- one turn more, at the end
pub total-more : (n i : ℕ) (w : ℕ → ℕ) → total (n + 1) i w ≡ total n i w + w (i + n)
unfolding total
total-more zero i w = let e : i + 0 ≡ i = omega arith in rw e (omega arith)
total-more (suc n) i w =
    let first : suc n + 1 ≡ suc (n + 1) = omega arith in
    let last : suc i + n ≡ i + suc n = omega arith in
    rw (first, total-more n (suc i) w, last) (omega arith)

-- n turns more
pub total-split : (m n i : ℕ) (w : ℕ → ℕ) → total (m + n) i w ≡ total m i w + total n (i + m) w
unfolding total
total-split zero n i w =
    let first : zero + n ≡ n = omega arith in
    let at : i + zero ≡ i = omega arith in
    rw (first, at) (omega arith)
total-split (suc m) n i w =
    let first : suc m + n ≡ suc (m + n) = omega arith in
    let at : suc i + m ≡ i + suc m = omega arith in
    rw (first, total-split m n (suc i) w, at) (omega arith)

-- turns from a on
pub total-from : (n a i : ℕ) (w : ℕ → ℕ) → total n (a + i) w ≡ total n i (λ k. w (a + k))
unfolding total
total-from zero a i w = refl
total-from (suc n) a i w =
    let next : suc (a + i) ≡ a + suc i = omega arith in
    rw (next, total-from n a (suc i) w)

-- a turn adds one at the most
pub total-most : (n i : ℕ) (w : ℕ → ℕ) → ((j : ℕ) → w j ≤ 1) → total n i w ≤ n
unfolding total
total-most zero i w h = omega arith
total-most (suc n) i w h = omega (arith, h i, total-most n (suc i) w h)

pub one-most : (n : ℕ) → one_for n ≤ 1
unfolding one_for
one-most zero = omega arith
one-most (suc n) = omega arith

pub one_none : (n : ℕ) → n ≡ 0 → one_for n ≡ 0
unfolding one_for
one_none n e = rw e

pub one-some : (n : ℕ) → (n ≡ 0 → ⊥) → one_for n ≡ 1
unfolding one_for
one-some zero h = absurd (h refl)
one-some (suc n) h = refl
