-- `frame_file::lists::fill_values` meets its contract. Each place has the value of its index.
use Rattle.std.proofs.Common.{rules}
use Rattle.std.specs.Float.{nan}
use Rattle.fill.proofs.ByIndex.{tab-by}
use Rattle.frame_file.specs.File.{value_at}
use Rattle.frame_file.proofs.lists.fill_values.Goals as goal

pub returns : goal.returns
returns c = tab-by nan (value_at c.args.bytes.now c.args.at) c.fill_by.ensures.each c.fill_by.ensures.len (λ k x gives. search rules)
