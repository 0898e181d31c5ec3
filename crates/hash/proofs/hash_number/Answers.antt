-- `hash::hash_number` meets its contract.
use mathlib.Core.Path.{◌≡◌, ap, ◌∙◌}
use Rattle.std.proofs.Common.{rules}
use Rattle.std.proofs.iter.runs.Made.{chains}
use Rattle.std.specs.Prelude.{fold}
use Rattle.encoding.specs.Encoding.{hash_byte}
use Rattle.encoding.proofs.EncodingLaws.{number-folded}
use Rattle.hash.proofs.hash_number.Goals as goal

pub returns : goal.returns
returns c =
    let folded : c.fold.result ≡ fold hash_byte c.args.h c.to_le_bytes.result = search (rules, chains) in
    folded ∙ (ap (fold hash_byte c.args.h) c.to_le_bytes.ensures ∙ number-folded c.args.h c.args.n)
