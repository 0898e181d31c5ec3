-- `mc_output::output::tcs_of` meets its contract.
use Rattle.std.proofs.Common.{rules, get_or}
use Rattle.mc_config.specs.Groups.{sbgr_of}
use Rattle.mc_config.proofs.GroupsLaws.{sbgr-below}
use Rattle.fill.proofs.FromFn.{tab-made}
use Rattle.mc_output.specs.Code.OutputByMix.{tcs_of}
use Rattle.mc_output.proofs.output.tcs_of.Goals as goal

pub from_fn-requires : goal.from_fn-requires
from_fn-requires c = search (rules, sbgr-below)

pub returns : goal.returns
unfolding tcs_of
returns c = tab-made 0 (λ sb. get_or c.args.tc.now (sbgr_of sb) 0) c.from_fn.ensures.items (λ i low x after called. (search rules, search rules))
