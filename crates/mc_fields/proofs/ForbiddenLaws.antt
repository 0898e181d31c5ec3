-- Laws of the lowest forbidden group: it is found where a code is not listed, and past the last group every code is listed.
use Rattle.std.specs.Prelude.{◌≡◌, Bool, List, ltb, length}
use Rattle.std.proofs.Math.Path.{refl}
use Rattle.std.proofs.Common.{sym, ◌∙◌, arith}
use Rattle.std.proofs.Math.Bool.{true, false, cond}
use Prim.Native.Nat.{ℕ, zero, suc, ◌+◌, ◌≤◌, ◌<◌}
use Rattle.std.proofs.Math.Decide.{ℕ_discrete}
use Rattle.mc_config.proofs.CaseLaws.{by_pair-all}
use Rattle.mc_crosstalk.specs.Crosstalk.{sources0, sources1, sources2, sources3, listed}
use Rattle.mc_fields.specs.Head.{mode_at, first_forbidden}

-- code 0 is listed in every configuration
pub zero-listed : (pair : ℕ) → listed pair 0 ≡ true
unfolding listed sources0 sources1 sources2 sources3
zero-listed = by_pair-all (λ (rows : List (List ℕ)). ltb 0 (length rows) ≡ true) {a = sources3} {b = sources2} {c = sources1} {d = sources2} {e = sources1} {f = sources0} refl refl refl refl refl refl

module _ (pair : ℕ) (cross : List ℕ) where
  -- past the n groups from g on, the code of each is listed
  pub passed-listed : (n g : ℕ) → g + n ≤ first_forbidden pair cross n g → (k : ℕ) → g ≤ k → k < g + n → listed pair (mode_at cross k) ≡ true
  unfolding first_forbidden
  passed-listed zero g h k gk kn = absurd (omega arith)
  passed-listed (suc n) g h k gk kn = go (listed pair (mode_at cross g)) refl h (λ p gk'. passed-listed n (suc g) p k gk' (omega arith))
    where
      go : (t : Bool) → listed pair (mode_at cross g) ≡ t → g + suc n ≤ cond t (first_forbidden pair cross n (suc g)) g
          → (suc g + n ≤ first_forbidden pair cross n (suc g) → suc g ≤ k → listed pair (mode_at cross k) ≡ true) → listed pair (mode_at cross k) ≡ true
      go true e p rest = at (ℕ_discrete k g)
        where
          at : Dec (k ≡ g) → listed pair (mode_at cross k) ≡ true
          at (yes q) = rw q e
          at (no q) = rest (omega arith) (omega arith)
      go false e p rest = absurd (omega arith)

  -- before that, the code of the one that is found is not
  pub found-unlisted : (n g : ℕ) → first_forbidden pair cross n g < g + n → listed pair (mode_at cross (first_forbidden pair cross n g)) ≡ false
  unfolding first_forbidden
  found-unlisted zero g h = absurd (omega arith)
  found-unlisted (suc n) g h = go (listed pair (mode_at cross g)) refl h (found-unlisted n (suc g))
    where
      go : (t : Bool) → listed pair (mode_at cross g) ≡ t → cond t (first_forbidden pair cross n (suc g)) g < g + suc n
          → (first_forbidden pair cross n (suc g) < suc g + n → listed pair (mode_at cross (first_forbidden pair cross n (suc g))) ≡ false)
          → listed pair (mode_at cross (cond t (first_forbidden pair cross n (suc g)) g)) ≡ false
      go true e p rest = rest (omega arith)
      go false e p rest = e

  -- so it is not code 0
  pub found-nonzero : (n g : ℕ) → first_forbidden pair cross n g < g + n → mode_at cross (first_forbidden pair cross n g) ≡ 0 → ⊥
  found-nonzero n g h z =
      let f : listed pair 0 ≡ false = rw z at (found-unlisted n g h) in
      let t : true ≡ false = sym (zero-listed pair) ∙ f in
      let q : ◌≡◌ {A = ℕ} 0 1 = cc in
      omega arith
