-- `boundary_look::look::all_are` meets its contract.
use Rattle.boundary_look.proofs.look.all_are.Goals as goal
use Rattle.std.proofs.Common.{◌∙◌, refl, rules, get_or}
use Rattle.std.specs.Float.{nan}
use borrow.Author.Tests.{tests}
use Rattle.std.proofs.lemmas.Iterator.{YieldsList-from_slice}
use Rattle.std.proofs.lemmas.Iterator.Search.{all_from_yields_List}
use Rattle.boundary_look.specs.Look.{same}
use Rattle.boundary_look.proofs.LookLaws.{each-list}

pub returns : goal.returns
returns c =
    let a = c.args in
    all_from_yields_List (λ y. same y a.x) _ _ _ c.all.ensures.ran (YieldsList-from_slice a.xs.now cc) (λ y b q k. search (rules, tests))
    ∙ each-list (λ y. same y a.x) nan (λ k. same (get_or a.xs.now k nan) a.x) a.xs.now (λ k l. refl)
