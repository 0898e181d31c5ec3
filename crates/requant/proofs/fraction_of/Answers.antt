-- `requant::fraction_of` meets its contract: its difference is the code with its first bit inverted, in two's complement, and the inverse of a power of two is exact.
use Rattle.requant.proofs.Machine.{product}
use Rattle.requant.proofs.fraction_of.Goals as goal

pub returns : goal.returns
returns c = rw (c.from.ensures, c.from-2.ensures) (search product)
