-- `parts::head_bytes` meets its contract.
use Rattle.std.proofs.Common.{rules, ◌∙◌}
use Rattle.fill.proofs.FromFn.{tab-made}
use Rattle.part_tables.specs.Parts.{flag, byte_of}
use Rattle.parts.proofs.head_bytes.Goals as goal

pub returns : goal.returns
returns c =
    let s = c.args.head.now.status in
    tab-made 0 (byte_of c.first_bytes-first.result s.tc_allocation (flag s.dyn_cross_lr) s.dyn_cross s.mc_prediction) c.from_fn.ensures.items (λ i low x after called. (search rules, search rules)) ∙ rw c.first_bytes-first.ensures
