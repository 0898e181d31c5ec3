-- The width of a field that may be missing, as the code has it, and its value.
use Rattle.std.specs.Prelude.{◌≡◌, Bool, ℕ, ◌^◌, ◌≤◌, ◌<◌}
use Rattle.std.proofs.Common.{le_trans}
use Rattle.bits.specs.Syntax.{done, field}
use Rattle.bit_reader.specs.Reads.{Goes}
use Rattle.bit_reader.specs.declared.BitReader.{BitReader}
use Rattle.bit_reader.proofs.ReadLaws.{read-bound}
use Rattle.mc_fields.proofs.BitsIfLaws.{if-most, if-below}
use Rattle.mc_fields.specs.Head.{bits_if}

pub bits-if-most : (there : Bool) (n m k : ℕ) → m ≡ bits_if there n → n ≤ k → m ≤ k
bits-if-most there n m k e h = rw e (le_trans (if-most there n) h)

pub if-fits : (there : Bool) (n m : ℕ) {r r' : BitReader} {v : ℕ} → Goes r (field m (λ u. done u)) r' (done v) → m ≡ bits_if there n → v < 2 ^ n
if-fits there n m {r} {r'} {v} g e = if-below there n (read-bound {r = r} {r' = r'} (rw e at g))
