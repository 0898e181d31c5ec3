-- `mc_history::history` meets its contract.
use Rattle.std.proofs.Common.{sym, ◌∙◌}
use Rattle.mc_history.proofs.history.Goals as goal

pub returns : goal.returns
returns c b el er =
    let both = c.both.ensures in
    c.history_of_both.ensures c.args.s.now b (record { first_is = both.left ∙ sym el; second_is = rw (el, er) both.right })
