-- `requant::lfe_sample` meets its contract.
use mathlib.Core.Path.{◌≡◌, ap₂}
use Prim.Native.Nat.{ℕ, ◌+◌}
use lib.Ieee.{Float, binary64, mul}
use Rattle.tables.specs.Scalefactor.{scalefactor_of}
use Rattle.requant.specs.Requant.{lfe_of, lfe_sample_of}
use Rattle.requant.proofs.lfe_sample.Goals as goal

value : (allocation index code : ℕ) (x y : Float) → x ≡ lfe_of (allocation + 1) code → y ≡ scalefactor_of index → mul binary64 x y ≡ lfe_sample_of allocation index code
unfolding lfe_sample_of
value allocation index code x y e f = ap₂ (mul binary64) e f

pub returns : goal.returns
returns c = search value
