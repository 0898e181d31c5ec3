-- `mc_output::output::write_second` meets its contract. The loop writes the last two channels, place by place.
use Rattle.std.proofs.Common.{rules, arith}
use Rattle.mc_output.proofs.Laws.LayOut.{laid-over}
use Rattle.mc_output.proofs.output.write_second.Goals as goal

pub returns : goal.returns
returns c = laid-over c.args.x.now c.args.work.now c.args.output.now (search rules) (c.requires.0, c.requires.1) (omega arith) c.loop-i.invariant c.loop-i-test.false
