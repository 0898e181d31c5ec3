-- `mc_samples::samples::write_raw` meets its contract.
use mathlib.Core.Path.{◌≡◌}
use Prim.Native.Nat.{◌*◌, ◌≤◌}
use Rattle.mc_values.specs.Values.{excess_in}
use Rattle.mc_samples.proofs.Counted.{counted}
use Rattle.mc_samples.proofs.SamplesWritten.{Written}
use Rattle.mc_samples.proofs.samples.write_raw.Given as goal

abbrev pub invariant-loop-i : goal.invariant-loop-i
invariant-loop-i l = (l.i ≤ 96) × Written l.own l.granules l.raw l.i × (l.excess_codes ≡ counted (excess_in l.own l.granules) (12 * l.i))
