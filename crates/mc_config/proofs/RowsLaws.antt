-- A row of a table, as a look-up of it answers.
use Rattle.std.specs.Prelude.{◌≡◌, cond, List, [], map, ℕ, ltb, length, get_or, slice_get, Some, None, Option, option_map, option_copied, unwrap_or}
use Rattle.std.specs.Slice.{IsItemAt}
use Rattle.std.proofs.Common.{refl, sym, ap, ◌∙◌, ltb-true, ltb-false, Bor}
use Rattle.std.proofs.lemmas.Option.{slice_get-get_or, slice_get_past, slice_get-map, unwrap_or-slice_get}
use Rattle.mc_config.proofs.CaseLaws.{cond-split}

-- what a look-up answers of its list
pub got : {X : Type 0} (xs : List X) (k : ℕ) (r : Option (Bor X)) → IsItemAt xs k r → option_copied r ≡ slice_get xs k
got xs k None h = sym (slice_get_past xs k h.3)
got xs k (Some x) h = sym (slice_get-get_or xs k x.now h.3.0 ∙ ap Some (sym h.1))

-- and of a table, whose rows are lent
pub got-row : (rows : List (Bor (List ℕ))) (k : ℕ) (r : Option (Bor (Bor (List ℕ)))) → IsItemAt rows k r → option_map (λ row. row.now) (option_copied r) ≡ slice_get (map (λ (row : Bor (List ℕ)). row.now) rows) k
got-row rows k r h = ap (option_map (λ (row : Bor (List ℕ)). row.now)) (got rows k r h) ∙ sym (slice_get-map (λ (row : Bor (List ℕ)). row.now) rows k)

-- the row at a place, if there is one
pub row-found : (rows : List (List ℕ)) (k : ℕ) → slice_get rows k ≡ cond (ltb k (length rows)) (Some (get_or rows k [])) None
row-found rows k =
    cond-split (λ r. slice_get rows k ≡ r) (ltb k (length rows)) (λ e. slice_get-get_or rows k [] (ltb-true k (length rows) e)) (λ e. slice_get_past rows k (ltb-false k (length rows) e))

-- the entries of a row, or of another in place of none
pub default-row : (r : Option (Bor (List ℕ))) (none : Bor (List ℕ)) → (unwrap_or r none).now ≡ unwrap_or (option_map (λ row. row.now) r) none.now
default-row None none = refl
default-row (Some row) none = refl

-- a row that was looked up, or no entries past the end
pub row-or-none : (rows : List (Bor (List ℕ))) (k : ℕ) (r : Option (Bor (Bor (List ℕ)))) → IsItemAt rows k r → (o : Option (Bor (List ℕ))) → o ≡ option_copied r
    → (row none : Bor (List ℕ)) → row ≡ unwrap_or o none → none.now ≡ [] → row.now ≡ get_or (map (λ (row : Bor (List ℕ)). row.now) rows) k []
row-or-none rows k r h o e row none er en =
    rw (er, default-row o none, e, got-row rows k r h, en) (unwrap_or-slice_get (map (λ (row : Bor (List ℕ)). row.now) rows) k [])
