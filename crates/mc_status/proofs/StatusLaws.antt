-- The lowest forbidden group, and the end of mc_composite_status_info().
use Rattle.std.specs.Prelude.{◌≡◌, Bool, true, false, not, cond, List, ℕ, zero, suc, ◌+◌, Option, Some, None, option_map, ltb}
use Rattle.std.specs.List.{find, range_with_len}
use Rattle.std.specs.Option.{is_some}
use Rattle.std.proofs.Common.{refl, sym, ap, ◌∙◌, arith}
use Rattle.std.proofs.lemmas.Bool.{lt-ltb, le-ltb}
use Rattle.bits.specs.Syntax.{done, refuse}
use Rattle.bit_reader.specs.Reads.{Goes}
use Rattle.bit_reader.specs.declared.BitReader.{BitReader}
use Rattle.bit_reader.proofs.ReadLaws.{stays}
use Rattle.mc_crosstalk.specs.Crosstalk.{listed, sources_of}
use Rattle.mc_crosstalk.proofs.CrosstalkLaws.{listed-answered}
use Rattle.mc_error.specs.Error.{refusal_of}
use Rattle.mc_error.specs.declared.McError.TheVariants.{ForbiddenDynCrossMode}
use Rattle.mc_fields.specs.Head.{mode_at, first_forbidden, forbidden_group, check_modes}

-- ---- the first group that is not listed

module _ (pair : ℕ) (cross : List ℕ) where
  pub not-listed : {A : Type 0} (f : A → List ℕ) (sources : Option A) (g : ℕ) (none : Bool)
      → option_map f sources ≡ cond (listed pair (mode_at cross g)) (Some (sources_of pair (mode_at cross g))) None
      → is_some sources ≡ not none → none ≡ not (listed pair (mode_at cross g))
  not-listed f sources g none e i =
      let twice : not (not none) ≡ none = elim none as (λ (b : Bool). not (not b) ≡ b) [ true ↦ refl | false ↦ refl ] in
      let l : is_some sources ≡ listed pair (mode_at cross g) = listed-answered f sources pair (mode_at cross g) e in
      sym twice ∙ ap not (sym i ∙ l)

  first-found : (n first end : ℕ) → first + n ≡ end
      → find (λ k. not (listed pair (mode_at cross k))) (range_with_len first n) ≡ cond (ltb (first_forbidden pair cross n first) end) (Some (first_forbidden pair cross n first)) None
  unfolding first_forbidden
  first-found zero first end e = rw (le-ltb first end (omega arith))
  first-found (suc n) first end e =
      elim (listed pair (mode_at cross first)) as (λ b. cond (not b) (Some first) (find (λ k. not (listed pair (mode_at cross k))) (range_with_len (first + 1) n)) ≡ cond (ltb (cond b (first_forbidden pair cross n (suc first)) first) end) (Some (cond b (first_forbidden pair cross n (suc first)) first)) None) [
        | true ↦ let s : suc first ≡ first + 1 = omega arith in rw s (first-found n (first + 1) end (omega arith))
        | false ↦ rw (lt-ltb first end (omega arith))
      ]

  pub forbidden-found : (found : Option ℕ) → option_map (λ k. k) found ≡ find (λ k. not (listed pair (mode_at cross k))) (range_with_len 0 12) → found ≡ forbidden_group pair cross
  forbidden-found found q =
      let same : option_map (λ (k : ℕ). k) found ≡ found = elim found as (λ (o : Option ℕ). option_map (λ (k : ℕ). k) o ≡ o) [ None ↦ refl | Some k ↦ refl ] in
      sym same ∙ q ∙ first-found 12 0 12 refl

-- ---- the test of the codes

module _ {A : Type 0} {r : BitReader} (pair : ℕ) (cross : List ℕ) (a : A) where
  pub forbidden : {n : ℕ} → Some n ≡ forbidden_group pair cross → Goes r (check_modes pair cross a) r (refuse (refusal_of (ForbiddenDynCrossMode n (mode_at cross n))))
  unfolding check_modes
  forbidden {n} e = go (ltb (first_forbidden pair cross 12 0) 12) refl
    where
      go : (t : Bool) → ltb (first_forbidden pair cross 12 0) 12 ≡ t → Goes r (check_modes pair cross a) r (refuse (refusal_of (ForbiddenDynCrossMode n (mode_at cross n))))
      go true t =
          let f : Some n ≡ Some (first_forbidden pair cross 12 0) = rw t at e in
          let q : n ≡ first_forbidden pair cross 12 0 = cc in
          rw (t, q) stays
      go false t =
          let f : Some n ≡ None = rw t at e in
          cc

  pub allowed : None ≡ forbidden_group pair cross → Goes r (check_modes pair cross a) r (done a)
  unfolding check_modes
  allowed e = go (ltb (first_forbidden pair cross 12 0) 12) refl
    where
      go : (t : Bool) → ltb (first_forbidden pair cross 12 0) 12 ≡ t → Goes r (check_modes pair cross a) r (done a)
      go true t =
          let f : None ≡ Some (first_forbidden pair cross 12 0) = rw t at e in
          cc
      go false t = rw t stays
