-- `replay_list::values::draw_on` meets its contract.
use Rattle.std.proofs.Common.{◌∙◌, ap, arith, rules}
use borrow.Author.Tests.{tests}
use Rattle.std.specs.List.{range_with_len}
use Rattle.std.proofs.lemmas.List.FromFn.{length-range_with_len}
use Rattle.std.proofs.lemmas.Iterator.{YieldsList-from_range}
use Rattle.std.proofs.lemmas.Iterator.Consumers.{fold_from_yields_List}
use Rattle.replay_list.specs.Values.{drawn, drawn_to}
use Rattle.replay_list.proofs.ValuesLaws.{drawn-fold}
use Rattle.replay_list.proofs.values.draw_on.Goals as goal

pub returns : goal.returns
returns c =
    let a = c.args in
    fold_from_yields_List _ (λ x k. drawn x) a.x _ c.fold.ensures.ran (YieldsList-from_range 0 a.n a.n (cc) (omega arith)) (λ x k y q m. search (rules, tests))
    ∙ (drawn-fold (range_with_len 0 a.n) a.x ∙ ap (λ k. drawn_to k a.x) (length-range_with_len 0 a.n))
