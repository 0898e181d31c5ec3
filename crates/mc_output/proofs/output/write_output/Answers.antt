-- `mc_output::output::write_output` meets its contract.
use Rattle.std.proofs.Common.{sym, ◌∙◌}
use Rattle.mc_output.proofs.output.write_output.Goals as goal

pub returns : goal.returns
returns c b el er =
    let both = c.both.ensures in
    c.write_output_of_both.ensures b (record { first_is = both.left ∙ sym el; second_is = rw (el, er) both.right })
