-- A list after n of its elements, from the place `at` on, were written over.
use Rattle.std.specs.Prelude.{◌≡◌, List, ℕ, ◌+◌, ◌-◌, ◌≤◌, ◌<◌, length, get_or}
use Rattle.std.proofs.Common.{⊎_elim, eq-zero-or-pos, rules, arith}
use Rattle.std.proofs.lemmas.List.{places}
use borrow.Rule.Slice.PartMut.{put_mid, mid_of}

-- what they were
pub part-held : {A : Type 0} (z : A) (at n : ℕ) (d : List A) (k : ℕ) → at ≤ k → k < at + n → get_or (mid_of at n d) (k - at) z ≡ get_or d k z
part-held z at n d k l h = grind (arith, places)

pub length-held : {A : Type 0} (at n : ℕ) (d : List A) → at + n ≤ length d → length (mid_of at n d) ≡ n
length-held at n d room = let left : n ≤ length d - at = omega arith in search (rules, places)

module _ {A : Type 0} (z : A) (at n : ℕ) (d part : List A) (long : length part ≡ n) (room : at + n ≤ length d) where
  pub length-part : length (put_mid at n d part) ≡ length d
  length-part = search (rules, places)

  pub part-in : (k : ℕ) → at ≤ k → k < at + n → get_or (put_mid at n d part) k z ≡ get_or part (k - at) z
  part-in k l h = grind (arith, places)

  pub part-before : (k : ℕ) → k < at → get_or (put_mid at n d part) k z ≡ get_or d k z
  part-before k h = grind (arith, places)

  pub part-after : (k : ℕ) → at + n ≤ k → get_or (put_mid at n d part) k z ≡ get_or d k z
  part-after k h = grind (arith, places)

  pub part-out : (k : ℕ) → (at ≤ k → k < at + n → ⊥) → get_or (put_mid at n d part) k z ≡ get_or d k z
  part-out k outside =
      ⊎_elim
      (λ e. ⊎_elim (λ past. part-after k (omega arith)) (λ inside. absurd (outside (omega arith) (omega arith))) (eq-zero-or-pos (at + n - k)))
      (λ e. part-before k (omega arith))
      (eq-zero-or-pos (at - k))
