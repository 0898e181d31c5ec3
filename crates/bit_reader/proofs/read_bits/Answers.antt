-- `bit_reader::read_bits` meets its contract.
use Prim.Native.Nat.{◌+◌}
use native.Mathlib.Omega.{arith}
use borrow.Author.Tests.{le-leb, lt-leb}
use Rattle.bit_reader.specs.Answer.{read_at}
use Rattle.bit_reader.proofs.Window.{computed}
use Rattle.bit_reader.proofs.read_bits.Goals as goal
use Rattle.bit_reader.proofs.read_bits.Goals.{then-string-n-via-then-string-n, then-string-n-via-else-string-n+then-string-n-2}

pub returns-then-string-n-clause-value : goal.returns-then-string-n-clause-value
unfolding read_at
returns-then-string-n-clause-value c =
    let a = c.args in
    elim c.then-string-n.branch [
      | then-string-n-via-then-string-n w ↦ simp (lt-leb (a.at + a.n) a.string.bits (omega arith))
      | then-string-n-via-else-string-n+then-string-n-2 w ↦ simp (lt-leb (a.at + a.n) a.string.bits (omega arith))
    ]

pub returns-clause-value : goal.returns-clause-value
unfolding read_at
returns-clause-value c =
    let a = c.args in
    simp
    (le-leb (a.at + a.n) a.string.bits (omega arith), computed a.string.bytes.now a.at a.n _ _ _ (omega arith) (c.byte_at.ensures.value, c.byte_at.ensures.upper_bound) (c.byte_at-2.ensures.value, c.byte_at-2.ensures.upper_bound) (c.byte_at-3.ensures.value, c.byte_at-3.ensures.upper_bound))
