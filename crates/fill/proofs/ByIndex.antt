-- A loop that writes each place of a buffer by its index, and what the whole is where an index has one result.
use Rattle.std.specs.Prelude.{◌≡◌, List, ℕ, ◌+◌, ◌<◌, ◌≤◌, length, set}
use Rattle.std.proofs.Common.{subst, sym, ◌∙◌, ⊎_elim, le_antisymm, arith}
use Rattle.std.proofs.lemmas.Bool.{cases_eq}
use Rattle.std.proofs.lemmas.List.{ext_get_or, get_or-set_same, get_or-set_other}
use Rattle.fill.specs.By.{FilledBy}
use Rattle.fill.specs.Tab.{tab}
use Rattle.fill.proofs.TabLaws.{length-tab, get_or-tab}

module _ {A : Type 0} {gives : ℕ → A → Type 0} where
  pub by-none : (list : List A) → FilledBy gives list 0
  by-none list = record { each = λ j h z. absurd (omega arith) }

  pub by-more : {list : List A} {k : ℕ} {v : A} → FilledBy gives list k → k < length list → gives k v → FilledBy gives (set list k v) (k + 1)
  by-more {list} {k} {v} p l g =
      record {
        each = λ j h z.
            ⊎_elim
            (λ (e : j ≡ k). rw e (rw (get_or-set_same list k v z l) g))
            (λ n. rw (get_or-set_other list k j v z n) (p.each j (omega (arith, n)) z))
            (cases_eq j k);
      }

  pub by-all : {list : List A} {k n : ℕ} → FilledBy gives list k → k ≤ n → n ≤ k → FilledBy gives list n
  by-all {list} p h l = subst (FilledBy gives list) (le_antisymm h l) p

  -- where an index has one result
  pub tab-by : (z : A) (f : ℕ → A) {list : List A} {n : ℕ} → FilledBy gives list n → length list ≡ n → ((k : ℕ) (x : A) → gives k x → x ≡ f k) → list ≡ tab f n
  tab-by z f {list} {n} p e one =
      ext_get_or z list (tab f n) (e ∙ sym (length-tab f n))
      (λ j h. let l : j < n = subst (λ m. j < m) e h in one j _ (p.each j l z) ∙ sym (get_or-tab z f n j l))
