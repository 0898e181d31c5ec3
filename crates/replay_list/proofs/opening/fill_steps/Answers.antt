-- `replay_list::opening::fill_steps` meets its contract. Each place has the step count of its index.
use Rattle.std.proofs.Common.{rules, ◌+◌}
use Rattle.encoding.specs.Encoding.{number_at}
use Rattle.fill.proofs.ByIndex.{tab-by}
use Rattle.replay_list.specs.Opening.{steps_of, steps_from}
use Rattle.replay_list.proofs.opening.fill_steps.Goals as goal

pub returns : goal.returns
unfolding steps_from
returns c = tab-by 0 (λ k. steps_of (number_at c.args.opening.now (c.args.first + k) 1)) c.fill_by.ensures.each c.fill_by.ensures.len (λ k x gives. search rules)
