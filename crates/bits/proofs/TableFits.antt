-- Tables of codes: each entry is below 2 to the width of its field, and so 0 where it has none, a field of no bits.
use Rattle.std.specs.Prelude.{◌≡◌, List, ℕ, zero, suc, ◌+◌, ◌^◌, ◌<◌, get_or, replicate}
use Rattle.std.proofs.Common.{sym, ◌∙◌, arith, pow_pos, ext_get_or}
use Rattle.bits.specs.Syntax.{Refusal, Syntax, times}
use Rattle.bits.proofs.Yields.{Yields, yields-times}
use Rattle.bits.specs.Table.{set3}
use Rattle.bits.proofs.Entries.{Entries, entries-zero, entries-set}

-- any refusal
abbrev pub Any : Refusal → Type 0
Any x = Unit {0}

-- of N entries, entry j is a value of a field of `width j` bits
abbrev pub Fits : ℕ → (ℕ → ℕ) → List ℕ → Type 0
Fits N width a = Entries N (λ j v. v < 2 ^ width j) a

-- three stores in a row
pub entries-set3 : {N : ℕ} {Q : ℕ → ℕ → Type 0} {a : List ℕ} (i x y z : ℕ) → Q i x → Q (i + 1) y → Q (i + 2) z → Entries N Q a → Entries N Q (set3 a i x y z)
unfolding set3
entries-set3 i x y z qx qy qz f = entries-set (i + 2) z qz (entries-set (i + 1) y qy (entries-set i x qx f))

-- a loop over a table of zeros
pub fits-loop : (N n : ℕ) (width : ℕ → ℕ) (f : ℕ → List ℕ → Syntax (List ℕ))
    → ((j : ℕ) (a : List ℕ) → j < n → Fits N width a → Yields (f j a) (Fits N width) Any) → Yields (times n 0 f (replicate N 0)) (Fits N width) Any
fits-loop N n width f step = yields-times n 0 (λ _. Fits N width) (entries-zero N (λ j. pow_pos (width j))) (λ j a l. step j a (omega arith))

-- two tables are equal where their entries with a field are
pub fits-same : {N : ℕ} {width : ℕ → ℕ} {a a' : List ℕ} → Fits N width a → Fits N width a'
    → ((j : ℕ) → j < N → 0 < width j → get_or a j 0 ≡ get_or a' j 0) → a ≡ a'
fits-same {N} {width} {a} {a'} f f' same =
    let s = f.sized in
    let s' = f'.sized in
    ext_get_or 0 a a' (s ∙ sym s') (λ j l. go j (width j) (f.entry j) (f'.entry j) (same j (omega arith)))
  where
    go : (j w : ℕ) → get_or a j 0 < 2 ^ w → get_or a' j 0 < 2 ^ w → (0 < w → get_or a j 0 ≡ get_or a' j 0) → get_or a j 0 ≡ get_or a' j 0
    go j zero b b' e = omega arith
    go j (suc w) b b' e = e (omega arith)
