-- `part_tables::pack::flat_delays` meets its contract.
use Rattle.std.proofs.Common.{rules, ℕ, ◌/◌, ◌%◌, [], get_or, ◌∙◌}
use Rattle.fill.proofs.FromFn.{tab-made}
use Rattle.part_tables.specs.Payload.{flat_delays}
use Rattle.part_tables.proofs.pack.flat_delays.Goals as goal

pub returns : goal.returns
unfolding flat_delays
returns c =
    let delays = c.delays-delays.result in
    tab-made 0 (λ (k : ℕ). get_or (get_or delays (k / 6) []) (k % 6) 0) c.from_fn.ensures.items (λ i low x after called. (search rules, search rules)) ∙ rw c.delays-delays.ensures
