-- `mc_samples::excess::has_groups` meets its contract.
use Rattle.std.proofs.Common.{sym}
use Rattle.mc_payload.proofs.Excess.{single_none}
use Rattle.mc_samples.proofs.excess.has_groups.Goals as goal

pub returns-else-n-ne0 : goal.returns-else-n-ne0
returns-else-n-ne0 c = rw c.if-n-ne0.false (sym single_none)
