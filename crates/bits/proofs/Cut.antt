-- CUT of the same bytes, and of as many bytes from the first on as hold the bits left.
use Rattle.std.specs.Prelude.{◌≡◌, refl, List, ℕ, ◌*◌, ◌≤◌, ◌<◌, take}
use Rattle.std.proofs.Common.{sym, arith}
use Rattle.bits.proofs.BitsLaws.{bit-take}
use Rattle.bits.specs.Syntax.{plain, Syntax, accepted, refused, run}
use Rattle.bits.proofs.Theorems.{CUT}

module _ {A : Type 0} (m : Syntax A) (b : List ℕ) (l l' : ℕ) (r : A) (u : ℕ) (e : run m b l 0 ≡ accepted r u) (h : l' < u) where
  pub CUT-bits : run m b l' 0 ≡ refused (plain 1)
  CUT-bits = CUT m b b l l' r u e h (λ i z. refl)

  pub CUT-bytes : (k : ℕ) → l' ≤ 8 * k → run m (take k b) l' 0 ≡ refused (plain 1)
  CUT-bytes k n = CUT m b (take k b) l l' r u e h (λ i z. sym (bit-take b k i (omega arith)))
