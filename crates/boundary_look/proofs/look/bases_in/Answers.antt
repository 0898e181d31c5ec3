-- `boundary_look::look::bases_in` meets its contract.
use Rattle.std.proofs.Common.{◌∙◌, rules}
use borrow.Author.Tests.{tests}
use Rattle.std.proofs.lemmas.Iterator.{YieldsList-from_range}
use Rattle.std.proofs.lemmas.Iterator.Search.{all_from_yields_List}
use Rattle.boundary_look.specs.Look.{bases_at}
use Rattle.boundary_look.proofs.LookLaws.{each-range}
use Rattle.boundary_look.proofs.look.bases_in.Goals as goal

pub returns : goal.returns
returns c =
    let a = c.args in
    let test = bases_at a.output.now a.base.now a.subband in
    all_from_yields_List test _ _ _ c.all.ensures.ran (YieldsList-from_range 0 36 36 (cc) (cc)) (λ x b q k. search (rules, tests)) ∙ each-range test 36
