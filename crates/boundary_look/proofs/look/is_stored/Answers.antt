-- `boundary_look::look::is_stored` meets its contract.
use Rattle.std.proofs.Common.{◌∙◌, rules}
use borrow.Author.Tests.{tests}
use Rattle.std.proofs.lemmas.Iterator.{YieldsList-from_range}
use Rattle.std.proofs.lemmas.Iterator.Search.{all_from_yields_List}
use Rattle.boundary_look.specs.Look.{stored_at}
use Rattle.boundary_look.proofs.LookLaws.{each-range}
use Rattle.boundary_look.proofs.look.is_stored.Goals as goal

pub returns : goal.returns
returns c =
    let a = c.args in
    let test = stored_at a.history.now a.left.now a.right.now in
    all_from_yields_List test _ _ _ c.all.ensures.ran (YieldsList-from_range 0 288 288 (cc) (cc)) (λ p b q k. search (rules, tests))
    ∙ each-range test 288
