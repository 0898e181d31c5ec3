-- `replay_list::values::fill_values` meets its contract. The loop draws in order.
use Rattle.replay_list.proofs.ValuesLaws.{Drawing}
use Rattle.replay_list.proofs.values.fill_values.Given as goal

abbrev pub invariant-loop-value : goal.invariant-loop-value
invariant-loop-value l = Drawing l.seed l.before l.initial.value-items l.value-items l.x l.value-index
