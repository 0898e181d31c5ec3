-- PREFIX, CUT and UNIQUE of a whole string, from its first bit, for every program.
use Rattle.std.specs.Prelude.{◌≡◌, ◌↔◌, List, ℕ, ◌≤◌, ◌<◌}
use Rattle.std.proofs.Common.{arith}
use Rattle.bits.specs.Bits.{bit_at}
use Rattle.bits.specs.Syntax.{plain, Syntax, accepted, refused, run}
use Rattle.bits.proofs.SyntaxLaws.{prefix, cut}
use Rattle.bits.specs.Recovers.{Recovers}
use Rattle.bits.proofs.Unique.{unique}

-- the same first u bits
abbrev pub SameBits : List ℕ → List ℕ → ℕ → Type 0
SameBits b b' u = (i : ℕ) → i < u → bit_at b i ≡ bit_at b' i

module _ {A : Type 0} (m : Syntax A) (b b' : List ℕ) (l l' : ℕ) (r : A) (u : ℕ) (e : run m b l 0 ≡ accepted r u) where
  -- the bits that an accepted string uses decide its outcome
  pub PREFIX : SameBits b b' u → u ≤ l' → run m b' l' 0 ≡ accepted r u
  PREFIX g h = prefix m b b' l l' 0 r u e (λ i z. g i) h

  -- with fewer bits than it uses it is short
  pub CUT : l' < u → SameBits b b' l' → run m b' l' 0 ≡ refused (plain 1)
  CUT h g = cut m b b' l l' 0 r u e (omega arith) h (λ i z. g i)

  -- where each field's value is found in the result, two accepted strings have one result just where they use the same bits
  pub UNIQUE : Recovers m → (r' : A) (u' : ℕ) → run m b' l' 0 ≡ accepted r' u' → (r ≡ r') ↔ ((u ≡ u') × SameBits b b' u)
  UNIQUE o r' u' e' =
      let w = unique m b b' l l' 0 r r' u u' o (omega arith) e e' in
      (λ q. ((w.0 q).0, λ i h. (w.0 q).1 i (omega arith) h), λ q. w.1 (q.0, λ i z h. q.1 i h))
