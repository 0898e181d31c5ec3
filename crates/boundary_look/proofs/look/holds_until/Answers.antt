-- `boundary_look::look::holds_until` meets its contract.
use Rattle.std.proofs.Common.{◌∙◌, ◌-◌, not, arith, rules}
use borrow.Author.Tests.{tests}
use Rattle.std.proofs.lemmas.Iterator.{YieldsList-from_range}
use Rattle.std.proofs.lemmas.Iterator.Search.{find_from_yields_List}
use Rattle.boundary_look.specs.Look.{held_of, holds}
use Rattle.boundary_look.proofs.LookLaws.{until-found}
use Rattle.boundary_look.proofs.look.holds_until.Goals as goal

pub returns : goal.returns
returns c =
    let a = c.args in
    c.unwrap_or.ensures
    ∙ until-found a.output.now a.base.now a.what (32 - a.first) a.first _ _ (c.max.ensures ∙ omega arith)
    (find_from_yields_List (λ k. not (holds (held_of a.output.now a.base.now k) a.what)) _ _ _ c.find.ensures.ran (YieldsList-from_range a.first 32 _ (cc) (cc)) (λ x b q k. search (rules, tests)))
