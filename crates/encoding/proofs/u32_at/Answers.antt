-- `encoding::u32_at` meets its contract: four bytes fit.
use native.Mathlib.Omega.{arith}
use Rattle.encoding.proofs.EncodingLaws.{four-fits}
use Rattle.encoding.proofs.u32_at.Goals as goal

pub overflow_cast-result : goal.overflow_cast-result
overflow_cast-result c = omega (arith, c.number_at.ensures, four-fits c.args.bytes.now c.args.at c.type_inv.bytes)
