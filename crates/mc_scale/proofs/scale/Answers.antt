-- `mc_scale::scale` meets its contract. The loop writes one column a turn: those whose turn has been hold the scaled values.
use Rattle.std.proofs.Common.{◌∙◌, rules, arith}
use Rattle.mc_scale.proofs.Laws.ByChannel.{scaling-more, scaling-skip, scaling-ends}
use Rattle.mc_scale.proofs.Laws.TwoSteps.{one-step}
use Rattle.mc_scale.proofs.scale.Goals as goal
use Rattle.mc_scale.proofs.scale.Goals.{then-places-place-ne0, else-places-place-ne0}

pub loop-i-preserved : goal.loop-i-preserved
loop-i-preserved c =
    let a = c.args in
    let p = a.places.now in (
      omega arith,
      elim c.if-places-place-ne0.branch [
        | then-places-place-ne0 w ↦ scaling-more p.steps p.source p.base c.factors_of-factors.result a.raw.now a.base.left.now a.base.right.now _ _ _ _ c.loop-i.invariant.1 (omega arith) w.if-places-place-ne0.true _ w.scale_place.ensures w.work-is
        | else-places-place-ne0 w ↦ let cleared = c.fill.ensures.after (search rules) in search (rules, scaling-skip)
      ],
    )

pub returns : goal.returns
returns c =
    let once = scaling-ends _ _ _ _ _ _ _ _ _ _ c.loop-i.invariant.1 (omega arith) (search rules) in
    rw (← c.factors_of-factors.ensures) (record { scaled = once; two_steps = once ∙ one-step _ _ _ _ _ _ _ _ (search rules) })
