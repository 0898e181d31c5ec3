-- `mc_codes::payload::read_payload` meets its contract.
-- Each answer goes on from the one before it: its facts are those of its own goal, which a lemma would be given by name.
use Rattle.bit_reader.proofs.ReadLaws.{both-on, both-stops, both-stops-late}
use Rattle.mc_payload.specs.Payload.{granules, payload}
use Rattle.mc_codes.proofs.PayloadLaws.{unflagged, flagged, ends-accepted, ends-refused, ends-returned}
use Rattle.mc_codes.proofs.payload.read_payload.Goals as goal

pub returns-in_err-codes : goal.returns-in_err-codes
unfolding payload
returns-in_err-codes c = ends-returned c.new-reader.ensures _ _ c.from_residual.ensures.1 (both-stops _ c.in_err-codes.ensures) _

pub returns-then-layer3 : goal.returns-then-layer3
unfolding payload
returns-then-layer3 c = ends-refused c.new-reader.ensures (both-stops-late _ c.in_ok-codes.ensures (flagged _ c.if-layer3.true))

pub returns-in_err-codes-2 : goal.returns-in_err-codes-2
unfolding payload
returns-in_err-codes-2 c = ends-returned c.new-reader.ensures _ _ c.from_residual-in_err-codes-2.ensures.1 (both-stops-late _ c.in_ok-codes.ensures (unflagged c.if-layer3.false (both-stops _ c.in_err-codes-2.ensures))) _

pub returns-in_err-codes-3 : goal.returns-in_err-codes-3
unfolding payload
returns-in_err-codes-3 c = ends-returned c.new-reader.ensures _ _ c.from_residual-in_err-codes-3.ensures.1 (both-stops-late _ c.in_ok-codes.ensures (unflagged c.if-layer3.false (both-stops-late _ c.in_ok-codes-2.ensures (both-stops _ c.in_err-codes-3.ensures.reads)))) _

pub returns-in_err-codes-4 : goal.returns-in_err-codes-4
unfolding payload
returns-in_err-codes-4 c = ends-returned c.new-reader.ensures _ _ c.from_residual-in_err-codes-4.ensures.1 (both-stops-late _ c.in_ok-codes.ensures (unflagged c.if-layer3.false (both-stops-late _ c.in_ok-codes-2.ensures (both-stops-late _ c.in_ok-codes-3.ensures.reads (both-stops _ c.in_err-codes-4.ensures))))) _

pub returns-in_err-read_granules : goal.returns-in_err-read_granules
unfolding payload granules
returns-in_err-read_granules c = ends-returned c.new-reader.ensures _ _ c.from_residual-in_err-read_granules.ensures.1 (both-stops-late _ c.in_ok-codes.ensures (unflagged c.if-layer3.false (both-stops-late _ c.in_ok-codes-2.ensures (both-stops-late _ c.in_ok-codes-3.ensures.reads (both-stops-late _ c.in_ok-codes-4.ensures c.in_err-read_granules.ensures))))) _

pub returns : goal.returns
unfolding payload granules
returns c = ends-accepted c.new-reader.ensures (both-on _ c.in_ok-codes.ensures (unflagged c.if-layer3.false (both-on _ c.in_ok-codes-2.ensures (both-on _ c.in_ok-codes-3.ensures.reads (both-on _ c.in_ok-codes-4.ensures c.in_ok-read_granules.ensures)))))
