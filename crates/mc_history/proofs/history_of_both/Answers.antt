-- `mc_history::history_of_both` meets its contract. The loop writes a line of nine a turn.
use Rattle.std.proofs.Common.{◌≡◌, ◌/◌, ◌∙◌, ap, rules, arith}
use Rattle.mc_base.specs.Base.{chosen}
use Rattle.mc_history.proofs.HistoryLaws.{first-line, second-line, turn-line, lines_end, history-kept}
use Rattle.mc_history.proofs.history_of_both.Goals as goal
use Rattle.mc_history.proofs.history_of_both.Goals.{then-line-lt32, else-line-lt32}

pub loop-line-preserved : goal.loop-line-preserved
loop-line-preserved c =
    let both = c.args.base in
    let t = c.loop-line.line in
    let channel : c.if-line-lt32.channel.now ≡ chosen (t / 32) both.left.now both.right.now =
    elim c.if-line-lt32.branch [
      | then-line-lt32 w ↦ ap (λ b. b.now) w.channel-is ∙ first-line both.left.now both.right.now t w.if-line-lt32.true
      | else-line-lt32 w ↦ ap (λ b. b.now) w.channel-is ∙ second-line both.left.now both.right.now t w.if-line-lt32.false
    ] in
    (omega arith, turn-line _ _ c.loop-line.invariant.1 (omega arith) channel (c.copy_from_slice.ensures.after ∙ c.line_of.ensures) (omega arith))

pub returns : goal.returns
returns c s b both = history-kept s b both.first_is both.second_is (lines_end _ _ _ _ _ c.loop-line.invariant.1 (omega arith) (search rules))
