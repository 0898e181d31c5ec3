-- `boundary_run::string::put` meets its contract: what is left to put into the places so far is the whole.
use Rattle.std.proofs.Common.{sym, ◌∙◌, arith, length-set}
use Rattle.boundary_run.proofs.StringLaws.{put_one, put-none}
use Rattle.boundary_run.proofs.string.put.Goals as goal

pub loop-k-preserved : goal.loop-k-preserved
loop-k-preserved c = (simp length-set c.loop-k.invariant.0, put_one _ _ _ _ _ (omega arith) c.loop-k.invariant.1)

pub returns : goal.returns
returns c = sym (c.loop-k.invariant.1 ∙ put-none _ _ _ _ (omega arith))
