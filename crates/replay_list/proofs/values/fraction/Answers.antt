-- `replay_list::values::fraction` meets its contract.
use Rattle.replay_list.proofs.ValuesLaws.{two-to-20}
use Rattle.replay_list.proofs.values.fraction.Goals as goal

pub returns : goal.returns
returns c = rw (c.from.ensures, two-to-20)
