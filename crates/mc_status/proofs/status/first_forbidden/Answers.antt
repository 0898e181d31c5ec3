-- `mc_status::status::first_forbidden` meets its contract.
use Rattle.std.specs.List.{range_with_len}
use Rattle.std.proofs.Common.{refl, not, rules}
use borrow.Author.Tests.{tests}
use Rattle.std.proofs.lemmas.Iterator.{YieldsList-from_range}
use Rattle.std.proofs.lemmas.Iterator.Search.{find_from_yields_List}
use Rattle.mc_crosstalk.specs.Crosstalk.{listed}
use Rattle.mc_fields.specs.Head.{mode_at}
use Rattle.mc_status.proofs.StatusLaws.{not-listed, forbidden-found}
use Rattle.mc_status.proofs.status.first_forbidden.Goals as goal

pub returns : goal.returns
returns c =
    let a = c.args in
    forbidden-found a.pair a.dyn_cross.now _
    (find_from_yields_List {all = range_with_len 0 12} (λ k. not (listed a.pair (mode_at a.dyn_cross.now k))) _ _ _ c.find.ensures.ran (YieldsList-from_range 0 12 _ refl refl) (λ x b q k. search (rules, tests, not-listed)))
