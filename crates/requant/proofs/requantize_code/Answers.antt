-- `requant::requantize_code` meets its contract.
use mathlib.Core.Path.{◌≡◌, ap}
use Prim.Native.Nat.{ℕ}
use lib.Ieee.{Float, binary64, add, mul}
use Rattle.bitalloc.specs.declared.QuantClass.{QuantClass}
use Rattle.requant.specs.Requant.{fraction, requantized}
use Rattle.requant.proofs.requantize_code.Goals as goal

value : (class : QuantClass) (code : ℕ) (x : Float) → x ≡ fraction class.bits_per_sample code → mul binary64 class.c (add binary64 x class.d) ≡ requantized class code
unfolding requantized
value class code x e = ap (λ (x : Float). mul binary64 class.c (add binary64 x class.d)) e

pub returns : goal.returns
returns c = search value
