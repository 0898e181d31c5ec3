-- `encoding::u8_at` meets its contract: one byte is its own number.
use Rattle.std.proofs.Common.{rules}
use Rattle.encoding.proofs.EncodingLaws.{one-byte}
use Rattle.encoding.proofs.u8_at.Goals as goal

pub returns : goal.returns
returns c = rw (one-byte c.args.bytes.now c.args.at) (search rules)
