-- `part_tables::pack::flat_coefs` meets its contract.
use Rattle.std.proofs.Common.{rules, ℕ, ◌/◌, ◌%◌, [], get_or, ◌∙◌}
use Rattle.std.specs.Float.{nan}
use Rattle.fill.proofs.FromFn.{tab-made}
use Rattle.part_tables.specs.Payload.{flat_coefs}
use Rattle.part_tables.proofs.pack.flat_coefs.Goals as goal

pub returns : goal.returns
unfolding flat_coefs
returns c =
    let coefs = c.coefs-coefs.result in
    tab-made nan (λ (k : ℕ). get_or (get_or (get_or coefs (k / 18) []) (k / 3 % 6) []) (k % 3) nan) c.from_fn.ensures.items (λ i low x after called. (search rules, search rules)) ∙ rw c.coefs-coefs.ensures
