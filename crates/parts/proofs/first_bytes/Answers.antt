-- `parts::first_bytes` meets its contract.
use Rattle.parts.proofs.PartsLaws.{first-bytes}
use Rattle.parts.proofs.first_bytes.Goals as goal

pub returns : goal.returns
returns c = rw (c.from.ensures, c.from-2.ensures, c.from-3.ensures, c.from-4.ensures, c.from-5.ensures, c.from-6.ensures, c.from-7.ensures, c.from-8.ensures, c.from-9.ensures, c.from-10.ensures) (first-bytes c.args.head.now.header c.args.head.now.check_word c.args.head.now.status)
