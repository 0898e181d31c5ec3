-- `mc_loan::loan::table` meets its contract.
use Rattle.std.proofs.Common.{rules, get_or}
use Rattle.fill.proofs.FromFn.{tab-made}
use Rattle.mc_loan.proofs.loan.table.Goals as goal

pub returns : goal.returns
returns g c = tab-made 0 (λ k. get_or c.args.list.now k 0) c.from_fn.ensures.items (λ i low x after called. (search rules, search rules))
