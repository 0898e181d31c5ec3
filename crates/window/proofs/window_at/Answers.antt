-- `window::window_at` meets its contract.
use Rattle.std.proofs.Common.{◌∙◌}
use Rattle.window.proofs.WindowLaws.{value-eight}
use Rattle.window.proofs.window_at.Goals as goal

pub returns : goal.returns
returns c =
    let rest = c.in_ok-get.ensures.lookup.0.2 in
    c.from_be_bytes.ensures ∙ value-eight _ _ c.type_inv.bytes _ (rw rest at c.in_ok-eight.ensures.cases.same)
