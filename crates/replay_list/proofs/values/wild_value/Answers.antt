-- `replay_list::values::wild_value` meets its contract.
use Rattle.std.proofs.Common.{◌∙◌}
use Rattle.replay_list.specs.Values.{wild_of}
use Rattle.replay_list.proofs.ValuesLaws.{above-bits, below_bits, no_number-bits, wild-other}
use Rattle.replay_list.proofs.values.wild_value.Goals as goal

pub returns-in-3 : goal.returns-in-3
unfolding wild_of
returns-in-3 c = rw c.in-3.is above-bits

pub returns-in-4 : goal.returns-in-4
unfolding wild_of
returns-in-4 c = rw c.in-4.is below_bits

pub returns-in_default : goal.returns-in_default
returns-in_default c = let r = c.in_default.in_default-own.rest in no_number-bits ∙ wild-other c.args.kind r.0.0.0.1 r.0.0.1 r.0.1 r.1
