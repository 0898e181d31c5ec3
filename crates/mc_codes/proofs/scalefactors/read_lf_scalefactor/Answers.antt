-- `mc_codes::scalefactors::read_lf_scalefactor` meets its contract.
use Rattle.std.proofs.Common.{ne_eqb, eq-eqb}
use Rattle.bit_reader.proofs.ReadLaws.{stays}
use Rattle.mc_payload.specs.Payload.{lf_scalefactor}
use Rattle.mc_codes.proofs.scalefactors.read_lf_scalefactor.Goals as goal

pub returns-then-lfe-eq0-clause-reads : goal.returns-then-lfe-eq0-clause-reads
unfolding lf_scalefactor
returns-then-lfe-eq0-clause-reads c = rw (eq-eqb _ 0 c.if-lfe-eq0.true) stays

pub returns-clause-reads : goal.returns-clause-reads
unfolding lf_scalefactor
returns-clause-reads c = rw (ne_eqb _ 0 c.if-lfe-eq0.false) c.read_scalefactor.ensures.reads
