-- `boundary_look::look::same_values` meets its contract.
use Rattle.std.proofs.Common.{◌∙◌, rules}
use borrow.Author.Tests.{tests}
use Rattle.std.proofs.lemmas.Iterator.{YieldsList-from_slice, YieldsList-from_zip}
use Rattle.std.proofs.lemmas.Iterator.Search.{all_from_yields_List}
use Rattle.boundary_look.specs.Look.{same}
use Rattle.boundary_look.proofs.LookLaws.{pairs-agree}
use Rattle.boundary_look.proofs.look.same_values.Goals as goal

pub returns-then-xs-ys : goal.returns-then-xs-ys
returns-then-xs-ys c =
    let a = c.args in
    all_from_yields_List (λ p. same p.0 p.1) c.all.new.self _ _ c.all.ensures.ran (YieldsList-from_zip (YieldsList-from_slice a.xs.now (search rules)) (YieldsList-from_slice a.ys.now (search rules))) (λ p b q k. search (rules, tests))
    ∙ pairs-agree a.xs.now a.ys.now c.if-xs-ys.true
