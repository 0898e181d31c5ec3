-- `boundary_run::string::Bits::fields` meets its contract.
use Rattle.std.proofs.Common.{◌∙◌, ap, arith, rules}
use borrow.Author.Tests.{tests}
use Rattle.std.specs.List.{range_with_len}
use Rattle.std.proofs.lemmas.List.FromFn.{length-range_with_len}
use Rattle.std.proofs.lemmas.Iterator.{YieldsList-from_range}
use Rattle.std.proofs.lemmas.Iterator.Consumers.{fold_from_yields_List}
use Rattle.boundary_run.specs.String.{field_of, fields_of}
use Rattle.boundary_run.proofs.StringLaws.{fields-fold}
use Rattle.boundary_run.proofs.string.Bits.fields.Goals as goal

pub returns : goal.returns
returns c =
    let a = c.args in
    fold_from_yields_List _ (λ b x. field_of b a.n a.value) a.self _ c.fold.ensures.ran (YieldsList-from_range 0 a.times a.times (cc) (omega arith)) (λ b x o q m. search (rules, tests))
    ∙ (fields-fold (range_with_len 0 a.times) a.self a.n a.value ∙ ap (λ k. fields_of a.self k a.n a.value) (length-range_with_len 0 a.times))
