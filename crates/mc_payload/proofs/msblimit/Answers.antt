-- `mc_payload::msblimit` meets its contract.
use borrow.Author.Tests.{ne_eqb}
use Rattle.mc_payload.proofs.msblimit.Goals as goal

pub returns-then-rate-eq48000 : goal.returns-then-rate-eq48000
returns-then-rate-eq48000 c = rw c.if-rate-eq48000.true

pub returns-else-rate-eq48000 : goal.returns-else-rate-eq48000
returns-else-rate-eq48000 c = rw (ne_eqb _ 48000 c.if-rate-eq48000.false)
