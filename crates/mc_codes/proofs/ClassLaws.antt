-- No code of a sample is wider than 16 bits.
use Rattle.std.specs.Prelude.{◌≡◌, refl, Bool, true, false, not, ℕ, ◌≤◌}
use Rattle.std.proofs.Common.{ap, arith}
use lib.Dec.{T}
use Rattle.bitalloc.specs.Classes.{is_class, bits_per_codeword}
use Rattle.bitalloc.proofs.Places.{class-none}
use Rattle.bitalloc.proofs.Rules.{steps-rules}
use Rattle.bitalloc.specs.declared.QuantClass.{QuantClass}

pub codeword-most : (n : ℕ) → bits_per_codeword n ≤ 16
codeword-most n = go (is_class n) refl
  where
    go : (t : Bool) → is_class n ≡ t → bits_per_codeword n ≤ 16
    go true t = let h : T (is_class n) = rw t tt in (steps-rules n h).codeword-high
    go false t =
        let h : T (not (is_class n)) = rw t tt in
        let e = ap (λ (q : QuantClass). q.bits_per_codeword) (class-none n h) in omega arith
