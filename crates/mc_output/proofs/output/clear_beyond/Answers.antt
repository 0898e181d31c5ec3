-- `mc_output::output::clear_beyond` meets its contract.
use Rattle.std.proofs.Common.{rules}
use Rattle.std.proofs.lemmas.List.{places}
use Rattle.mc_output.proofs.Laws.LayOut.{cleared}
use Rattle.mc_output.proofs.output.clear_beyond.Goals as goal

pub returns : goal.returns
returns c = cleared c.args.channels c.args.output.now (search rules) (c.fill.ensures.after (search rules)) (search (rules, places)) c.requires
