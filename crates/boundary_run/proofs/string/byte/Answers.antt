-- `boundary_run::string::byte` meets its contract.
use Rattle.std.proofs.Common.{rules, arith, ◌*◌, ◌+◌, ◌%◌, ◌∙◌, take, drop}
use borrow.Author.Tests.{tests}
use Rattle.std.proofs.lemmas.Iterator.{YieldsList-from_slice}
use Rattle.std.proofs.lemmas.Iterator.Consumers.{fold_from_yields_List}
use Rattle.boundary_run.proofs.StringLaws.{byte-fold}
use Rattle.boundary_run.proofs.string.byte.Goals as goal

pub returns : goal.returns
returns c =
    let a = c.args in
    fold_from_yields_List _ (λ v b. (2 * v + b) % 256) 0 _ c.fold.ensures.ran (YieldsList-from_slice (take 8 (drop a.first a.bits.now)) (search rules)) (λ v x b q m. search (rules, tests))
    ∙ byte-fold a.bits.now a.first 8 (omega (arith, c.told-bits))
