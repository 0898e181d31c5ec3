-- Laws of `tab` and `filled`: lengths, elements, one element more, and tables with the same elements.
use Rattle.std.specs.Prelude.{◌≡◌, length, drop}
use Rattle.std.proofs.Math.Path.{refl, ap}
use Rattle.std.proofs.Common.{sym, ap₂, ◌∙◌, eq-or-lt_of_le, le_of_suc-le-suc, add-one, arith, length-drop, drop_of_length-le, drop-cons, get_or-append-add, get_or-drop}
use mathlib.Core.List.{List, [], ◌∷◌, ◌++◌, append-nil}
use Rattle.std.proofs.Math.Logic.{⊎_elim}
use Prim.Native.Nat.{ℕ, zero, suc, ◌+◌, ◌-◌, ◌≤◌, ◌<◌}
use Rattle.std.proofs.Math.ListN.{replicate, set, get_or, length-append, get_or-append}
use Rattle.std.proofs.lemmas.List.{set_at, replicate-append-replicate}
use Rattle.std.proofs.Math.Seq.{append_snoc, get_or-append_seam}
use Rattle.fill.specs.Tab.{tab, filled}

module _ {A : Type 0} where
  pub length-tab : (f : ℕ → A) (n : ℕ) → length (tab f n) ≡ n
  unfolding tab
  length-tab f zero = refl
  length-tab f (suc n) = length-append (tab f n) (f n ∷ []) ∙ (rw (length-tab f n) (omega arith))

  pub fill_none : (f : ℕ → A) (d : List A) → d ≡ filled f 0 d
  unfolding tab
  fill_none f d = refl

  pub fill_more : (f : ℕ → A) (n : ℕ) (d : List A) (z : A) → n < length d → set (filled f n d) n (f n) ≡ filled f (n + 1) d
  unfolding tab
  fill_more f n d z h =
      ap (λ (l : List A). set (tab f n ++ l) n (f n)) (drop-cons d n z h)
      ∙ (set_at (tab f n) (get_or d n z) (drop (suc n) d) (f n) n (length-tab f n)
      ∙ (sym (append_snoc (tab f n) (f n) (drop (suc n) d))
      ∙ ap (λ (k : ℕ). filled f k d) (sym (add-one n))))

  pub tab-constant : (a : A) (n : ℕ) → tab (λ (k : ℕ). a) n ≡ replicate n a
  unfolding tab
  tab-constant a zero = refl
  tab-constant a (suc n) = ap (λ (l : List A). l ++ (a ∷ [])) (tab-constant a n) ∙ (replicate-append-replicate n 1 a ∙ ap (λ (m : ℕ). replicate m a) (add-one n))

  pub length-filled : (f : ℕ → A) (n : ℕ) (d : List A) → n ≤ length d → length (filled f n d) ≡ length d
  length-filled f n d h = length-append (tab f n) (drop n d) ∙ (rw (length-tab f n, length-drop n d) (omega arith))

-- tables with the same elements are the same
pub tab-same : {A : Type 0} {f g : ℕ → A} (n : ℕ) → ((k : ℕ) → k < n → f k ≡ g k) → tab f n ≡ tab g n
unfolding tab
tab-same zero e = refl
tab-same (suc n) e = ap₂ (λ t x. t ++ (x ∷ [])) (tab-same n (λ k h. e k (omega arith))) (e n (omega arith))

-- where the whole list is filled over, nothing of it is left
pub all-filled : {A : Type 0} (f : ℕ → A) (n : ℕ) (d : List A) → length d ≡ n → filled f n d ≡ tab f n
all-filled {A} f n d e = ap (λ (l : List A). tab f n ++ l) (drop_of_length-le d {i = n} (omega arith)) ∙ append-nil (tab f n)

module _ {A : Type 0} (z : A) (f : ℕ → A) where
  pub get_or-tab : (n k : ℕ) → k < n → get_or (tab f n) k z ≡ f k
  unfolding tab
  get_or-tab zero k h = absurd (omega arith)
  get_or-tab (suc n) k h =
      ⊎_elim
      (λ e. rw e (ap (λ (m : ℕ). get_or (tab f n ++ (f n ∷ [])) m z) (sym (length-tab f n)) ∙ get_or-append_seam (tab f n) (f n) [] z))
      (λ l. get_or-append (tab f n) (f n ∷ []) z k (rw (length-tab f n) l) ∙ get_or-tab n k l)
      (eq-or-lt_of_le (le_of_suc-le-suc h))

  pub get_or-filled : (n k : ℕ) (d : List A) → k < n → get_or (filled f n d) k z ≡ f k
  get_or-filled n k d h = get_or-append (tab f n) (drop n d) z k (rw (length-tab f n) h) ∙ get_or-tab n k h

  pub get_d_past : (n k : ℕ) (d : List A) → n ≤ k → get_or (filled f n d) k z ≡ get_or d k z
  get_d_past n k d h =
      let e : n + (k - n) ≡ k = omega arith in
      ap (λ (m : ℕ). get_or (filled f n d) m z) (sym e ∙ ap (λ (m : ℕ). m + (k - n)) (sym (length-tab f n)))
      ∙ (get_or-append-add (tab f n) (drop n d) (k - n) z ∙ (get_or-drop n d (k - n) z ∙ ap (λ (m : ℕ). get_or d m z) e))
