-- `mc_output::output::write_base` meets its contract. The loop writes one place of both channels a turn.
use Rattle.std.proofs.Common.{◌∙◌, arith}
use Rattle.fill.proofs.ByTurn.{turn-ends}
use Rattle.mc_output.proofs.Laws.BaseAlone.{turn-both, base-laid}
use Rattle.mc_output.proofs.output.write_base.Goals as goal

pub loop-j-preserved : goal.loop-j-preserved
loop-j-preserved c = (omega arith, turn-both c.args.base.left.now c.args.base.right.now c.loop-j.invariant.1 c.loop-j-test.true)

pub returns : goal.returns
returns c =
    let a = c.args in
    c.clear_beyond.ensures
    ∙ rw (c.min.ensures, turn-ends c.loop-j.invariant.1 (λ k h. omega arith))
    (base-laid a.x.now a.base.left.now a.base.right.now a.output.now)
