-- `mc_output::output::write_mixed` meets its contract. The loop writes all channels of one slot and subband a turn.
use Rattle.std.proofs.Common.{◌∙◌, rules, arith}
use Rattle.fill.proofs.TabLaws.{all-filled}
use Rattle.fill.proofs.ByTurn.{turn-ends}
use Rattle.mc_output.specs.Code.OutputByMix.{mixed_of}
use Rattle.mc_output.proofs.Laws.OutputByMix.{turn-across, mixed-value}
use Rattle.mc_output.proofs.output.write_mixed.Goals as goal

pub loop-j-preserved : goal.loop-j-preserved
loop-j-preserved c =
    let a = c.args in
    let l = c.loop-j in
    let h = c.loop-j-test.true in (
      omega arith,
      rw (c.store_five.ensures, c.mixed_at.ensures)
          (turn-across l.invariant.1 h (λ ch q. mixed-value a.x.now a.tcs.now a.base.left.now a.base.right.now a.work.now l.j ch h)),
    )

pub returns : goal.returns
unfolding mixed_of
returns c = turn-ends c.loop-j.invariant.1 (λ k h. omega arith) ∙ all-filled _ 5760 c.args.output.now (search rules)
