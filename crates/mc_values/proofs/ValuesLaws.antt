-- Values as the code makes them: what it needs of the codes, the stores of a place, and that the tables are those of the record.
use Rattle.std.specs.Prelude.{◌≡◌, Bool, true, cond, List, [], ◌∷◌, T}
use Rattle.std.proofs.Math.Path.{refl}
use Rattle.std.proofs.Common.{sym, subst, arith, pow_pos}
use Rattle.std.proofs.Math.Bool.{false}
use Prim.Native.Nat.{ℕ, zero, suc, ◌+◌, ◌^◌, ◌<◌}
use Rattle.std.proofs.Math.ListN.{get_or}
use Rattle.bitalloc.specs.Classes.{is_class, class_of, grouped, bits_per_sample}
use Rattle.bitalloc.proofs.Rules.{steps-rules}
use Rattle.bitalloc.proofs.Places.{class-steps}
use Rattle.bitalloc.specs.declared.QuantClass.{QuantClass}
use Rattle.requant.specs.Requant.{degrouped}
use Rattle.requant.proofs.Digits.{digit-code}
use Rattle.mc_values.specs.Values.{three_codes, first_at, ValuesFit, PlaceFits}

-- ---- the codes of a place

module _ (n : ℕ) (granules : List ℕ) (i gr : ℕ) (c : is_class n ≡ true) (fits : PlaceFits n granules i) (h : gr < 12) where
  is : T (is_class n)
  is = subst T (sym c) tt

  codes-fit : (k : ℕ)
      → get_or (three_codes (grouped n) n (get_or granules (first_at gr i) 0) (get_or granules (first_at gr i + 1) 0) (get_or granules (first_at gr i + 2) 0)) k 0 < 2 ^ bits_per_sample n
  unfolding three_codes
  codes-fit k = go (grouped n) refl k
    where
      one : grouped n ≡ false → (j : ℕ) → j < 3 → get_or granules (first_at gr i + j) 0 < 2 ^ bits_per_sample n
      one g j l = let e = (steps-rules n is).single g in rw (← e) (fits gr j h l g)

      go : (g : Bool) → grouped n ≡ g → (k : ℕ)
          → get_or (cond g (degrouped n (get_or granules (first_at gr i) 0)) (get_or granules (first_at gr i) 0 ∷ get_or granules (first_at gr i + 1) 0 ∷ get_or granules (first_at gr i + 2) 0 ∷ [])) k 0 < 2 ^ bits_per_sample n
      go true g k = digit-code n (get_or granules (first_at gr i) 0) k is
      go false g zero = let e : first_at gr i + 0 ≡ first_at gr i = omega arith in rw e at (one g 0 (omega arith))
      go false g (suc zero) = one g 1 (omega arith)
      go false g (suc (suc zero)) = one g 2 (omega arith)
      go false g (suc (suc (suc k))) = pow_pos (bits_per_sample n)

  pub values-fit : (class : QuantClass) → class ≡ class_of n → ValuesFit class (get_or granules (first_at gr i) 0) (get_or granules (first_at gr i + 1) 0) (get_or granules (first_at gr i + 2) 0)
  values-fit class e =
      let r = steps-rules n is in
      rw e
      (record {
        some = let l = r.steps_low in omega arith;
        low = let l = r.sample-low in omega arith;
        high = r.sample-high;
        codes = λ k. rw (class-steps n is) (codes-fit k);
      })
