-- The place of a class in the table: the 17 differ in their steps, and any other number of steps has none.
use Rattle.std.specs.Prelude.{◌≡◌, refl, Bool, true, false, not, cond, List, [], ◌∷◌, ℕ, suc, ◌<◌, T, eqb, ltb, length, get_or, Some, None, position}
use Rattle.std.specs.Option.{is_some}
use Rattle.std.proofs.Common.{arith, sym, ap, ◌∙◌, true≢false, le_of_suc-le-suc, not-suc-le-zero, ltb→lt, nltb→le, eqb→eq}
use Rattle.std.proofs.Math.ListN.{get_or-eq_default}
use Rattle.std.proofs.lemmas.List.Recursion.{is_position_or_len}
use Rattle.floats.proofs.Table.{at}
use Rattle.bitalloc.specs.declared.QuantClass.{QuantClass}
use Rattle.bitalloc.specs.Classes.{row, classes, class_at, place_in, class_index, is_class, class_of, index_of, lookup_of, grouped}

pub class-index-at : (i : ℕ) → i < 17 → class_index (class_at i).nb_steps ≡ i
unfolding class_at class_index
class-index-at i h = eqb→eq _ i (at (λ i class. eqb (class_index class.nb_steps) i) classes (row 0 0 0 false 0 0) tt i h)

pub class-index-lt : (steps : ℕ) → T (is_class steps) → class_index steps < 17
class-index-lt steps h = ltb→lt (class_index steps) 17 h

place_found : (l : List QuantClass) (d : QuantClass) (steps : ℕ) → place_in l steps < length l → (get_or l (place_in l steps) d).nb_steps ≡ steps
place_found [] d steps h = absurd (not-suc-le-zero h)
place_found (class ∷ l) d steps h = go (eqb class.nb_steps steps) (eqb→eq class.nb_steps steps) (place_found l d steps) h
  where
    go : (b : Bool) → (T b → class.nb_steps ≡ steps) → (place_in l steps < length l → (get_or l (place_in l steps) d).nb_steps ≡ steps)
        → cond b 0 (suc (place_in l steps)) < suc (length l) → (get_or (class ∷ l) (cond b 0 (suc (place_in l steps))) d).nb_steps ≡ steps
    go true e rest h = e tt
    go false e rest h = rest (le_of_suc-le-suc h)

pub class-steps : (steps : ℕ) → T (is_class steps) → (class_of steps).nb_steps ≡ steps
unfolding class_at class_index
class-steps steps h = place_found classes (row 0 0 0 false 0 0) steps (class-index-lt steps h)

pub class-none : (steps : ℕ) → T (not (is_class steps)) → class_of steps ≡ row 0 0 0 false 0 0
unfolding class_at
class-none steps h = get_or-eq_default classes (row 0 0 0 false 0 0) (nltb→le (class_index steps) 17 h)

-- nothing is found where there is no class
pub class-absent : (steps : ℕ) → lookup_of steps ≡ None → class_of steps ≡ row 0 0 0 false 0 0
class-absent steps = go (is_class steps) (class-none steps)
  where
    go : (b : Bool) → (T (not b) → class_of steps ≡ row 0 0 0 false 0 0) → cond b (Some (class_of steps)) None ≡ None → class_of steps ≡ row 0 0 0 false 0 0
    go true none e = let z : ◌≡◌ {A = ℕ} 0 1 = cc in absurd (omega arith)
    go false none e = none tt

pub class-grouped : (steps : ℕ) → grouped steps ≡ true → T (is_class steps)
class-grouped steps g = go (is_class steps) (class-none steps)
  where
    go : (b : Bool) → (T (not b) → class_of steps ≡ row 0 0 0 false 0 0) → T b
    go true n = tt
    go false n = absurd (true≢false (sym g ∙ ap (λ (class : QuantClass). class.grouping) (n tt)))

-- what a search of the table finds
pub index-position : (steps : ℕ) → position (λ (class : QuantClass). eqb class.nb_steps steps) classes ≡ index_of steps
unfolding class_index
index-position steps = ap (λ (i : ℕ). cond (ltb i 17) (Some i) None) (sym (is_position_or_len (λ l. place_in l steps) (λ (class : QuantClass). eqb class.nb_steps steps) refl (λ class l. ap (cond (eqb class.nb_steps steps) 0) (omega arith)) classes))

-- there is a place where there is a class
pub index-some : (steps : ℕ) → is_some (index_of steps) ≡ is_class steps
index-some steps = go (is_class steps)
  where
    go : (b : Bool) → is_some (cond b (Some (class_index steps)) None) ≡ b
    go true = refl
    go false = refl
