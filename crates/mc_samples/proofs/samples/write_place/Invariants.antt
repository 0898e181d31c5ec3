-- `mc_samples::samples::write_place` meets its contract.
use mathlib.Core.Path.{◌≡◌}
use Prim.Native.Nat.{◌+◌, ◌*◌, ◌/◌, ◌%◌, ◌≤◌}
use Rattle.mc_values.specs.Values.{raw_by, excess_by}
use Rattle.fill.specs.Strided.{strided}
use Rattle.mc_samples.proofs.Counted.{counted}
use Rattle.mc_samples.proofs.samples.write_place.Given as goal

abbrev pub invariant-loop-gr : goal.invariant-loop-gr
invariant-loop-gr l =
    (l.gr ≤ 12)
    × (l.raw ≡ strided 32 (raw_by l.n l.granules l.i) (1152 * (l.i % 3) + l.i / 3) (3 * l.gr) l.initial.raw)
    × (l.excess_codes ≡ counted (excess_by l.n l.granules l.i) l.gr)
