-- A test of each number, as the library's test of a list; what is looked at in parts of the output; the search for a subband; and one turn of each loop, and each return.
use Rattle.std.specs.Prelude.{◌≡◌, Bool, true, false, not, ◌&&◌, cond, List, [], ◌∷◌, Option, Some, None, Float, length, get_or, take, drop, replicate}
use Rattle.std.specs.List.{list_all, range_with_len, zip, find}
use Rattle.std.specs.Option.{unwrap_or, option_map}
use Rattle.std.proofs.Common.{refl, sym, ap, ap₂, ◌∙◌, eq-eqb, ne_eqb, zero-add, add-zero, length-take, length-drop, get_or-drop}
use Rattle.std.proofs.Math.Bool.{and_assoc, and-true}
use Rattle.std.proofs.lemmas.List.{get_or-take, get_or-replicate}
use Rattle.std.proofs.lemmas.List.FromFn.{length-range_with_len, get_or-range_with_len}
use Rattle.std.proofs.lemmas.Slice.Zip.{length-zip, get_or-zip}
use Prim.Native.Nat.{ℕ, zero, suc, ◌+◌, ◌-◌, ◌*◌, ◌/◌, ◌%◌, ◌≤◌, ◌<◌}
use native.Mathlib.Omega.{arith}
use Rattle.std.specs.Float.{nan}
use Rattle.floats.specs.Binary64.{zero64}
use Rattle.fill.specs.Each.{each}
use Rattle.fill.proofs.EachLaws.{each_same, each_next}
use Rattle.boundary_look.specs.declared.look.Held.{Held}
use Rattle.boundary_look.specs.declared.look.Held.TheVariants.{Zero, Base, Other}
use Rattle.boundary_look.specs.Look.{same, all_are, same_values, stored_at, second_at, zeros_at, bases_at, held_of, holds, held_until}

-- from the front
pub each-first : (f : ℕ → Bool) (n : ℕ) → each f (suc n) ≡ (f 0 && each (λ k. f (suc k)) n)
unfolding each
each-first f zero = sym (and-true (f 0))
each-first f (suc n) = ap (λ b. b && f (suc n)) (each-first f n) ∙ and_assoc (f 0) (each (λ k. f (suc k)) n) (f (suc n))

-- the test of a list is that of its places
pub each-list : {A : Type 0} (p : A → Bool) (d : A) (f : ℕ → Bool) (xs : List A) → ((k : ℕ) → k < length xs → p (get_or xs k d) ≡ f k) → list_all p xs ≡ each f (length xs)
unfolding each
each-list p d f [] h = refl
each-list p d f (x ∷ xs) h =
    ap₂ ◌&&◌ (h 0 (omega arith)) (each-list p d (λ k. f (suc k)) xs (λ k l. h (suc k) (omega arith))) ∙ sym (each-first f (length xs))

pub each-range : (f : ℕ → Bool) (n : ℕ) → list_all f (range_with_len 0 n) ≡ each f n
each-range f n =
    each-list f 0 f (range_with_len 0 n) (λ k l. ap f (get_or-range_with_len 0 n k 0 (omega (arith, length-range_with_len 0 n)) ∙ zero-add k))
    ∙ ap (each f) (length-range_with_len 0 n)

module _ (xs ys : List Float) where
  pub lengths_differ : (length xs ≡ length ys → ⊥) → false ≡ same_values xs ys
  unfolding same_values
  lengths_differ h = simp (ne_eqb _ _ h)

  pub lengths-agree : length xs ≡ length ys → (are : Bool) → are ≡ each (λ (k : ℕ). same (get_or xs k nan) (get_or ys k nan)) (length xs) → are ≡ same_values xs ys
  unfolding same_values
  lengths-agree h are e = simp (eq-eqb _ _ h) e

  pub pairs-agree : length xs ≡ length ys → list_all (λ p. same p.0 p.1) (zip xs ys) ≡ same_values xs ys
  unfolding same_values
  pairs-agree e =
      let long : length (zip xs ys) ≡ length xs = length-zip xs ys ∙ omega arith in
      simp (eq-eqb _ _ e)
      (each-list (λ p. same p.0 p.1) (nan, nan) (λ k. same (get_or xs k nan) (get_or ys k nan)) (zip xs ys) (λ k l. ap (λ p. same p.0 p.1) (get_or-zip xs ys k (nan, nan) (omega arith) (omega arith)))
      ∙ ap (each (λ k. same (get_or xs k nan) (get_or ys k nan))) long)

-- n values from the place m on
module _ (xs : List Float) (m n : ℕ) (fits : m + n ≤ length xs) where
  part-long : length (take n (drop m xs)) ≡ n
  part-long = simp (length-take, length-drop) (omega arith)

  part-at : (k : ℕ) → k < n → get_or (take n (drop m xs)) k nan ≡ get_or xs (m + k) nan
  part-at k l = get_or-take n (drop m xs) k nan l ∙ get_or-drop m xs k nan

  pub part-is : (x : Float) → all_are (take n (drop m xs)) x ≡ each (λ k. same (get_or xs (m + k) nan) x) n
  part-is x =
      rw part-long (each_same _ _ n (λ k l. ap (λ y. same y x) (part-at k l)))

  pub part-is-first : same_values (take n (drop m xs)) (take n xs) ≡ each (λ k. same (get_or xs (m + k) nan) (get_or xs k nan)) n
  unfolding same_values
  part-is-first =
      let e : length (take n xs) ≡ n = simp length-take (omega arith) in
      rw (part-long, e, eq-eqb n n refl) (each_same _ _ n (λ k l. ap₂ same (part-at k l) (get_or-take n xs k nan l)))

module _ (output base : List Float) (what : Option Held) where
  until-first : (n first : ℕ) → unwrap_or (find (λ k. not (holds (held_of output base k) what)) (range_with_len first n)) (first + n) ≡ held_until output base what n first
  unfolding held_until
  until-first zero first = add-zero first
  until-first (suc n) first =
      elim (holds (held_of output base first) what) as (λ b. unwrap_or (cond (not b) (Some first) (find (λ k. not (holds (held_of output base k) what)) (range_with_len (first + 1) n))) (first + suc n) ≡ cond b (held_until output base what n (first + 1)) first) [
        | true ↦ let e : first + suc n ≡ first + 1 + n = omega arith in rw e (until-first n (first + 1))
        | false ↦ refl
      ]

  pub until-found : (n first last : ℕ) (found : Option ℕ) → last ≡ first + n → option_map (λ k. k) found ≡ find (λ k. not (holds (held_of output base k) what)) (range_with_len first n)
      → unwrap_or found last ≡ held_until output base what n first
  until-found n first last found e q =
      let same : option_map (λ (k : ℕ). k) found ≡ found = elim found as (λ (o : Option ℕ). option_map (λ (k : ℕ). k) o ≡ o) [ None ↦ refl | Some k ↦ refl ] in
      ap₂ unwrap_or (sym same ∙ q) e ∙ until-first n first

-- ---- one turn of a loop, and each return

-- two tests more
pub stored_next : (history left right : List Float) (k : ℕ) (are a b : Bool) → are ≡ each (stored_at history left right) k
    → a ≡ same (get_or history k nan) (get_or left ((27 + k % 9) * 32 + k / 9) nan)
    → b ≡ same (get_or history (288 + k) nan) (get_or right ((27 + k % 9) * 32 + k / 9) nan)
    → (are && a) && b ≡ each (stored_at history left right) (k + 1)
stored_next history left right k are a b e p q = and_assoc are a b ∙ each_next (stored_at history left right) k are (a && b) e (rw (p, q))

-- the base of zeros
pub silent_base : (output : List Float) (subband : ℕ) → subband < 32 → each (bases_at output (replicate 1152 zero64) subband) 36 ≡ each (zeros_at output subband) 36
silent_base output subband h =
    each_same _ _ 36 (λ slot l. ap (same (second_at output subband slot)) (get_or-replicate 1152 (32 * slot + subband) zero64 nan (omega arith)))

module _ (output base : List Float) (subband : ℕ) where
  pub held-zeros : each (zeros_at output subband) 36 ≡ true → Zero ≡ held_of output base subband
  unfolding held_of
  held-zeros e = rw e

  pub held-bases : each (zeros_at output subband) 36 ≡ false → each (bases_at output base subband) 36 ≡ true → Base ≡ held_of output base subband
  unfolding held_of
  held-bases e q = rw (e, q)

  pub held-others : each (zeros_at output subband) 36 ≡ false → each (bases_at output base subband) 36 ≡ false → Other ≡ held_of output base subband
  unfolding held_of
  held-others e q = rw (e, q)

-- what is held, and nothing else
holds-it : (held : Held) → holds held (Some held) ≡ true
holds-it Zero = refl
holds-it Base = refl
holds-it Other = refl

holds-else : (held : Held) (what : Option Held) → (Some held ≡ what → ⊥) → holds held what ≡ false
holds-else Zero (Some Zero) h = absurd (h refl)
holds-else Zero (Some Base) h = refl
holds-else Zero (Some Other) h = refl
holds-else Base (Some Zero) h = refl
holds-else Base (Some Base) h = absurd (h refl)
holds-else Base (Some Other) h = refl
holds-else Other (Some Zero) h = refl
holds-else Other (Some Base) h = refl
holds-else Other (Some Other) h = absurd (h refl)
holds-else Zero None h = refl
holds-else Base None h = refl
holds-else Other None h = refl

module _ (output base : List Float) (what : Option Held) where
  pub until-next : (subband r : ℕ) (held : Held) → subband < 32 → held ≡ held_of output base subband → Some held ≡ what
      → r ≡ held_until output base what (32 - subband) subband → r ≡ held_until output base what (32 - (subband + 1)) (subband + 1)
  unfolding held_until
  until-next subband r held h e w q =
      let s : 32 - subband ≡ suc (32 - (subband + 1)) = omega arith in
      let t : holds (held_of output base subband) what ≡ true = rw (sym e, sym w) (holds-it held) in
      q ∙ rw s (simp t)

  pub until-here : (subband : ℕ) (held : Held) → subband < 32 → held ≡ held_of output base subband → (Some held ≡ what → ⊥) → subband ≡ held_until output base what (32 - subband) subband
  unfolding held_until
  until-here subband held h e w =
      let s : 32 - subband ≡ suc (32 - (subband + 1)) = omega arith in
      let t : holds (held_of output base subband) what ≡ false = rw (sym e) (holds-else held what w) in
      rw s (simp t)

  pub until_end : (subband : ℕ) → 32 ≤ subband → subband ≡ held_until output base what (32 - subband) subband
  unfolding held_until
  until_end subband h = let s : 32 - subband ≡ 0 = omega arith in rw s
