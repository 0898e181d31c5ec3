-- `boundary_look::look::third_is_silent` meets its contract.
use Rattle.std.proofs.Common.{◌∙◌, arith}
use Rattle.floats.specs.Binary64.{zero64}
use Rattle.boundary_look.proofs.LookLaws.{part-is}
use Rattle.boundary_look.proofs.look.third_is_silent.Goals as goal

pub returns : goal.returns
returns c = c.all_are.ensures ∙ part-is c.args.output.now 2304 1152 (omega arith) zero64
