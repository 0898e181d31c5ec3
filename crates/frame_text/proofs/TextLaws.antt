-- Laws of text: what a loop that copies a text leaves, and the name of a channel of no other name.
use Rattle.std.specs.Prelude.{◌≡◌, List, ℕ, ◌≤◌, length, get_or, take, codes}
use Rattle.std.proofs.Common.{sym, ap, ◌∙◌, subst, le_antisymm, arith, ne_eqb, take_at, ext_get_or}
use Rattle.fill.specs.Tab.{tab}
use Rattle.fill.proofs.TabLaws.{length-tab, get_or-tab}
use Rattle.fill.proofs.InOrder.{Filling, ends}
use Rattle.frame_text.specs.Text.{name_of}

-- the first n of these bytes are s, and so many are said
pub record Spells (bytes : List ℕ) (n : ℕ) (s : List ℕ) : Type 0 where
  pub long : n ≡ length s
  pub fits : n ≤ length bytes
  pub is : take n bytes ≡ s

-- a list by its elements
pub tab-elements : {A : Type 0} (z : A) (xs : List A) → tab (λ k. get_or xs k z) (length xs) ≡ xs
tab-elements z xs = ext_get_or z _ _ (length-tab _ _) (λ i h. get_or-tab z _ _ i (rw length-tab at h))

-- all letters are copied
pub copied : (s d bytes : List ℕ) (k : ℕ) → Filling (λ k. get_or s k 0) (length s) d bytes k → length s ≤ k → Spells bytes k s
copied s d bytes k p h =
    let e : k ≡ length s = le_antisymm p.below h in
    record {
      long = e;
      fits = omega (arith, p.room, p.long);
      is = ap (λ (l : List ℕ). take k l) (ends p h) ∙ (take_at _ _ k (length-tab _ _ ∙ sym e) ∙ tab-elements 0 s);
    }

pub spelled : (bytes : List ℕ) (n : ℕ) {s w : List ℕ} → Spells bytes n s → s ≡ w → Spells bytes n w
spelled bytes n p e = subst (Spells bytes n) e p

-- a channel of no other name
pub name-last : (k : ℕ) → (k ≡ 0 → ⊥) → (k ≡ 1 → ⊥) → (k ≡ 2 → ⊥) → (k ≡ 3 → ⊥) → (k ≡ 4 → ⊥) → (k ≡ 5 → ⊥) → (k ≡ 6 → ⊥) → codes "R2" ≡ name_of k
name-last k a b c d e f g = rw (ne_eqb k 0 a, ne_eqb k 1 b, ne_eqb k 2 c, ne_eqb k 3 d, ne_eqb k 4 e, ne_eqb k 5 f, ne_eqb k 6 g)
