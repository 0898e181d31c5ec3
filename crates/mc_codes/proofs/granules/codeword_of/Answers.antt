-- `mc_codes::granules::codeword_of` meets its contract.
use Rattle.std.proofs.Common.{arith}
use Rattle.mc_codes.proofs.ClassLaws.{codeword-most}
use Rattle.mc_codes.proofs.granules.codeword_of.Goals as goal

pub overflow_cast-result : goal.overflow_cast-result
overflow_cast-result c = rw c.class_or_zero-class.ensures (record { fits = omega (arith, codeword-most c.args.nb_steps) })

pub returns : goal.returns
returns c = rw c.class_or_zero-class.ensures
