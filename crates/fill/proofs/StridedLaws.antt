-- Laws of `strided`: its length, its elements, and a loop that writes it.
use Rattle.std.specs.Prelude.{◌≡◌, length, get_or}
use Rattle.std.proofs.Math.Path.{refl, ap}
use Rattle.std.proofs.Common.{◌∙◌, eq-or-lt_of_le, le_of_suc-le-suc, le_antisymm, add-one, arith, get_or-set_same}
use mathlib.Core.List.{List}
use Rattle.std.proofs.Math.Logic.{⊎_elim}
use Prim.Native.Nat.{ℕ, zero, suc, ◌+◌, ◌*◌, ◌≤◌, ◌<◌}
use Rattle.std.proofs.Math.Nat.{mul-lt-mul_of_pos_left}
use Rattle.std.proofs.Math.ListN.{set, length-set}
use Rattle.std.proofs.Math.Seq.{get_or-set_other}
use Rattle.fill.specs.Strided.{strided}

module _ {A : Type 0} (step : ℕ) (f : ℕ → A) (at : ℕ) (d : List A) where
  pub length-strided : (n : ℕ) → length (strided step f at n d) ≡ length d
  unfolding strided
  length-strided zero = refl
  length-strided (suc n) = length-set (strided step f at n d) (at + step * n) (f n) ∙ length-strided n

  pub strided_none : d ≡ strided step f at 0 d
  unfolding strided
  strided_none = refl

  pub strided-more : (n : ℕ) → set (strided step f at n d) (at + step * n) (f n) ≡ strided step f at (n + 1) d
  unfolding strided
  strided-more n = rw (add-one n)

  pub get_or-strided : (z : A) (n j : ℕ) → 0 < step → j < n → at + step * j < length d → get_or (strided step f at n d) (at + step * j) z ≡ f j
  unfolding strided
  get_or-strided z zero j s h l = absurd (omega arith)
  get_or-strided z (suc n) j s h l =
      ⊎_elim
      (λ e. rw e (get_or-set_same (strided step f at n d) (at + step * n) (f n) z (rw (length-strided n) (rw e at l))))
      (λ m. get_or-set_other (strided step f at n d) (at + step * n) (at + step * j) (f n) z (λ e. let q = mul-lt-mul_of_pos_left m s in absurd (omega arith)) ∙ get_or-strided z n j s m l)
      (eq-or-lt_of_le (le_of_suc-le-suc h))

  pub strided-other : (z : A) (n k : ℕ) → ((j : ℕ) → j < n → k ≡ at + step * j → ⊥) → get_or (strided step f at n d) k z ≡ get_or d k z
  unfolding strided
  strided-other z zero k h = refl
  strided-other z (suc n) k h =
      get_or-set_other (strided step f at n d) (at + step * n) k (f n) z (λ e. h n (omega arith) e)
      ∙ strided-other z n k (λ j l e. h j (omega arith) e)

-- the same values leave the same buffer
pub strided-same :
    {A : Type 0} {f g : ℕ → A} (step at : ℕ) (d : List A) (n : ℕ) → ((j : ℕ) → j < n → f j ≡ g j) → strided step f at n d ≡ strided step g at n d
unfolding strided
strided-same step at d zero e = refl
strided-same {A} {f} {g} step at d (suc n) e =
    ap (λ (x : A). set (strided step f at n d) (at + step * n) x) (e n (omega arith))
    ∙ ap (λ (l : List A). set l (at + step * n) (g n)) (strided-same step at d n (λ j l. e j (omega arith)))

-- what a loop has that writes n places, at place j of them
pub record Striding {A : Type 0} (step n : ℕ) (f : ℕ → A) (at : ℕ) (d dst : List A) (j : ℕ) : Type 0 where
  pub below : j ≤ n
  pub long : length dst ≡ length d
  pub is : dst ≡ strided step f at j d

module _ {A : Type 0} {step n : ℕ} {f : ℕ → A} {at : ℕ} {d : List A} where
  pub stride-starts : Striding step n f at d d 0
  unfolding strided
  stride-starts = record { below = omega arith; long = refl; is = refl }

  -- one store
  pub stride-more : {dst : List A} {j : ℕ} {v : A} → Striding step n f at d dst j → j < n → v ≡ f j → Striding step n f at d (set dst (at + step * j) v) (j + 1)
  unfolding strided
  stride-more {dst} {j} {v} p h e =
      record {
        below = omega arith;
        long = length-set dst (at + step * j) v ∙ p.long;
        is = rw (add-one) (ap (λ (x : A). set dst (at + step * j) x) e ∙ ap (λ (l : List A). set l (at + step * j) (f j)) p.is);
      }

  pub stride-ends : {dst : List A} {j : ℕ} → Striding step n f at d dst j → n ≤ j → dst ≡ strided step f at n d
  stride-ends p h = p.is ∙ ap (λ (i : ℕ). strided step f at i d) (le_antisymm p.below h)

-- a place that is not written yet is as it was
pub stride-left :
    {A : Type 0} {step n : ℕ} {f : ℕ → A} {at : ℕ} {d dst : List A} {j : ℕ} (z : A)
    → 0 < step
    → Striding step n f at d dst j
    → get_or dst (at + step * j) z ≡ get_or d (at + step * j) z
stride-left {A} {step} {n} {f} {at} {d} {dst} {j} z s p =
    ap (λ (l : List A). get_or l (at + step * j) z) p.is
    ∙ strided-other step f at d z j (at + step * j) (λ i l e. let q = mul-lt-mul_of_pos_left l s in omega arith)
