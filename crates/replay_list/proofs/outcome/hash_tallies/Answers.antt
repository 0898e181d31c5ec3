-- `replay_list::outcome::hash_tallies` meets its contract.
use Rattle.std.proofs.Common.{◌∙◌, ap, rules}
use borrow.Author.Tests.{tests}
use Rattle.std.proofs.lemmas.Iterator.{YieldsList-from_slice}
use Rattle.std.proofs.lemmas.Iterator.Consumers.{fold_from_yields_List}
use Rattle.encoding.specs.Encoding.{hash_number}
use Rattle.replay_list.specs.Outcome.{hash_numbers}
use Rattle.replay_list.proofs.OutcomeLaws.{numbers-fold}
use Rattle.replay_list.proofs.outcome.hash_tallies.Goals as goal

pub returns : goal.returns
returns c =
    let a = c.args in
    fold_from_yields_List _ hash_number a.h _ c.fold.ensures.ran (YieldsList-from_slice a.tallies cc) (λ h x y q m. search (rules, tests))
    ∙ (numbers-fold a.h a.tallies ∙ ap (hash_numbers a.h a.tallies) (search rules))
