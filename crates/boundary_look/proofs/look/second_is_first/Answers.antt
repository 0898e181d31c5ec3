-- `boundary_look::look::second_is_first` meets its contract.
use Rattle.std.proofs.Common.{◌∙◌, arith}
use Rattle.boundary_look.proofs.LookLaws.{part-is-first}
use Rattle.boundary_look.proofs.look.second_is_first.Goals as goal

pub returns : goal.returns
returns c = c.same_values.ensures ∙ part-is-first c.args.output.now 1152 1152 (omega arith)
