-- `encoding::number_at` meets its contract.
use Rattle.std.proofs.Common.{rules, ap, ◌∙◌}
use Rattle.std.specs.Int.{w64, from_le_bytes}
use Rattle.encoding.specs.Encoding.{byte_of}
use Rattle.fill.proofs.FromFn.{tab-made}
use Rattle.encoding.proofs.EncodingLaws.{eight-bytes}
use Rattle.encoding.proofs.number_at.Goals as goal

pub returns : goal.returns
returns c =
    let a = c.args in
    c.from_le_bytes.ensures
    ∙ (ap (from_le_bytes w64) (tab-made 0 (byte_of a.bytes.now a.at a.n) c.from_fn.ensures.items (λ i low x after called. (search rules, search rules)))
    ∙ eight-bytes a.bytes.now a.at a.n)
