-- `frame_file::lists::fill_steps` meets its contract. Each place has the step count of its index.
use Rattle.std.proofs.Common.{rules}
use Rattle.fill.proofs.ByIndex.{tab-by}
use Rattle.frame_file.specs.File.{step_at}
use Rattle.frame_file.proofs.lists.fill_steps.Goals as goal

pub returns : goal.returns
returns c = tab-by 0 (step_at c.args.bytes.now) c.fill_by.ensures.each c.fill_by.ensures.len (λ k x gives. search rules)
