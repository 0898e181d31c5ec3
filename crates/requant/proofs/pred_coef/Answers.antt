-- `requant::pred_coef` meets its contract.
use mathlib.Core.Path.{◌≡◌, ap₂}
use Prim.Native.Nat.{ℕ}
use lib.Ieee.{Float, binary64, sub, div, of_bits}
use Rattle.requant.specs.Requant.{whole, coefficient_of}
use Rattle.requant.proofs.Literal.{literal-32, literal-127}
use Rattle.requant.proofs.pred_coef.Goals as goal

value : (byte : ℕ) → div binary64 (sub binary64 (whole byte) (of_bits binary64 4638637247447433216)) (of_bits binary64 4629700416936869888) ≡ coefficient_of byte
unfolding coefficient_of
value byte = ap₂ (λ (x y : Float). div binary64 (sub binary64 (whole byte) x) y) literal-127 literal-32

pub returns : goal.returns
returns c = rw c.from.ensures (value c.args.byte)
