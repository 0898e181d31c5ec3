-- `mc_samples::excess::excess_of` meets its contract.
use Rattle.std.proofs.Common.{arith}
use Rattle.mc_samples.proofs.Counted.{excess-fits}
use Rattle.mc_samples.proofs.excess.excess_of.Goals as goal

pub overflow_cast-result : goal.overflow_cast-result
overflow_cast-result c =
    let low = c.ranges.code.fits in
    rw (c.degroup.ensures.1, c.from.ensures) (record { fits = omega (arith, excess-fits c.args.n c.args.code) })
