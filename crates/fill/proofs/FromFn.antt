-- An array that a function of the index makes.
use Rattle.std.proofs.Common.{◌≡◌, ℕ, zero, suc, ◌+◌, ◌<◌, ◌≤◌, List, get_or, sym, subst, ◌∙◌, ⊎_elim, eq-or-lt_of_le, arith}
use denote.Param.Members.{Mut, Called}
use Rattle.std.specs.Array.{IsFromFnResult, IsFromFnResultFrom}
use Rattle.std.proofs.lemmas.List.{ext_get_or}
use Rattle.fill.specs.Tab.{tab}
use Rattle.fill.proofs.TabLaws.{length-tab, get_or-tab}

-- each call gives f of the index, and leaves what the closure captures as it was
abbrev pub Gives : {C A : Type 0} → Mut C (ℕ × Unit {0}) A → C → (ℕ → A) → ℕ → Type 0
Gives {C} {A} g captures f n = (i : ℕ) → i < n → (x : A) (after : C) → Called g captures (i, tt) x after → (x ≡ f i) × (after ≡ captures)

module _ {C A : Type 0} {g : Mut C (ℕ × Unit {0}) A} {captures : C} (z : A) (f : ℕ → A) {n : ℕ} where
  each-made : (made : List A) → Gives g captures f n → (i m j : ℕ) → i + m ≡ n → IsFromFnResultFrom g captures made i m → i ≤ j → j < n → get_or made j z ≡ f j
  each-made made gives i zero j s p l h = absurd (omega arith)
  each-made made gives i (suc m) j s (after, x, is, called, rest) l h =
      let e = gives i (omega arith) x after called in
      ⊎_elim
      (λ same. rw (← same) (is.1 z ∙ e.0))
      (λ past. each-made made gives (i + 1) m j (omega arith) (subst (λ c. IsFromFnResultFrom g c made (i + 1) m) e.1 rest) (omega arith) h)
      (eq-or-lt_of_le l)

  pub tab-made : {made : List A} → IsFromFnResult g captures made n → Gives g captures f n → made ≡ tab f n
  tab-made {made} p gives =
      ext_get_or z made (tab f n) (p.long ∙ sym (length-tab f n))
      (λ j h. let l : j < n = rw (← p.long) h in each-made made gives 0 n j (omega arith) p.each (omega arith) l ∙ sym (get_or-tab z f n j l))
