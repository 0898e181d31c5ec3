-- `mc_codes::scalefactors::read_scalefactor` meets its contract.
use Rattle.std.proofs.Common.{ne_eqb, eq-eqb}
use Rattle.bit_reader.proofs.ReadLaws.{returned, field-on, field-stops, stays}
use Rattle.mc_payload.specs.Payload.{factor}
use Rattle.mc_codes.proofs.scalefactors.read_scalefactor.Goals as goal

pub returns-in_err-index-clause-reads : goal.returns-in_err-index-clause-reads
unfolding factor
returns-in_err-index-clause-reads c = returned _ _ c.from_residual.ensures.1 (field-stops c.in_err-index.ensures.reads)

pub returns-then-index-eq63-clause-reads : goal.returns-then-index-eq63-clause-reads
unfolding factor
returns-then-index-eq63-clause-reads c = field-on c.in_ok-index.ensures.reads (rw (eq-eqb _ 63 c.if-index-eq63.true) stays)

pub returns-clause-reads : goal.returns-clause-reads
unfolding factor
returns-clause-reads c = field-on c.in_ok-index.ensures.reads (rw (ne_eqb _ 63 c.if-index-eq63.false) stays)
