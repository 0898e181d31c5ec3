-- `mc_roles::roles::tc_roles` meets its contract.
use Rattle.std.proofs.Common.{◌≡◌, ◌∙◌, ap, sym, [], List, ℕ, length, get_or, Bor}
use Rattle.std.proofs.Math.ListN.{get_or-map}
use Rattle.std.proofs.lemmas.List.{length-map}
use Rattle.mc_roles.specs.Roles.{tc_roles_of, role_rows}
use Rattle.mc_roles.proofs.RolesLaws.{row-min}
use Rattle.mc_roles.proofs.roles.tc_roles.Goals as goal

pub returns : goal.returns
unfolding tc_roles_of
returns c =
    let rows = c.role_rows-rows.result.now in
    let e = c.role_rows-rows.ensures in
    let list = role_rows c.args.pair in
    let k = c.min.result in
    let now = λ (row : Bor (List ℕ)). row.now in
    let long : length rows ≡ length list = sym (length-map rows now) ∙ ap length e.rows in
    sym (get_or-map now rows k (record { ref_ptr = (0, 0); now = [] }))
    ∙ ap (λ (xs : List (List ℕ)). get_or xs k []) e.rows
    ∙ ap (λ i. get_or list i []) (row-min c.args.tc (length list) k (rw long at e.some) (rw (long, c.from.ensures) at c.min.ensures))
