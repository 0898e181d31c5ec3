-- `mc_predict::predict_subband` meets its contract. The loop takes one predicted channel a turn.
-- What answers share is a `let`, whose names are those of each goal.
use Rattle.std.proofs.Common.{rules, arith, refl}
use Rattle.mc_crosstalk.specs.Crosstalk.{predicted_of}
use Rattle.mc_predict.proofs.Laws.PlaceIn.{predicted-low, predicted-once}
use Rattle.mc_predict.proofs.Laws.Subband.{subband-more, subband-ends}
use Rattle.mc_predict.proofs.predict_subband.Goals as goal

pub predict_column-requires : goal.predict_column-requires
predict_column-requires c =
    let a = c.args in
    let taken = c.predictable_channels-predicted.ensures in
    rw (c.from.ensures, taken) (let low = predicted-low a.pair a.mode c.loop-k.k (rw taken at c.loop-k-test.true) in omega arith)

pub loop-k-preserved : goal.loop-k-preserved
loop-k-preserved c =
    let a = c.args in
    let l = c.loop-k in
    let taken = c.predictable_channels-predicted.ensures in
    let h = rw taken at c.loop-k-test.true in (
      omega arith,
      rw (c.predict_column.ensures, c.from.ensures, taken)
          (subband-more a.sb (predicted_of a.pair a.mode) a.delays.now a.coefs.now a.lines.now.left a.lines.now.right a.work.now _ l.invariant.1 c.requires.place h refl
          (predicted-once a.pair a.mode l.k h) (predicted-low a.pair a.mode l.k h)),
    )

pub returns : goal.returns
returns c =
    let a = c.args in
    subband-ends a.sb (predicted_of a.pair a.mode) a.delays.now a.coefs.now a.lines.now.left a.lines.now.right a.work.now c.loop-k.invariant.1
    (rw c.predictable_channels-predicted.ensures at c.loop-k-test.false) (search rules)
