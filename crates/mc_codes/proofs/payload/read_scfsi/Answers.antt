-- `mc_codes::payload::read_scfsi` meets its contract.
use Rattle.std.proofs.Common.{ne_eqb, eq-eqb, arith}
use Rattle.bit_reader.proofs.ReadLaws.{returned, field-on, field-stops, stays}
use Rattle.mc_payload.specs.Payload.{scfsi_at, scfsi}
use Rattle.mc_codes.proofs.PartLaws.{next-turn, last-turn, no-turn}
use Rattle.mc_codes.proofs.payload.read_scfsi.Goals as goal
use Rattle.mc_codes.proofs.payload.read_scfsi.Goals.{then-n-ne0+in_ok-codes, else-n-ne0}

pub loop-i-init : goal.loop-i-init
unfolding scfsi
loop-i-init c = stays

pub returns-in_err-codes : goal.returns-in_err-codes
unfolding scfsi_at
returns-in_err-codes c =
    returned _ _ c.from_residual.ensures.1
    (last-turn _ 96 _ c.loop-i.invariant (omega arith) (rw (ne_eqb _ 0 c.if-n-ne0.true) (field-stops c.in_err-codes.ensures.reads)))

pub loop-i-preserved : goal.loop-i-preserved
unfolding scfsi_at
loop-i-preserved c =
    elim c.if-n-ne0.branch [
      | then-n-ne0+in_ok-codes w ↦ rw (w.reader-is, w.codes-is)
          (next-turn _ 96 _ c.loop-i.invariant (omega arith) (rw (ne_eqb _ 0 w.if-n-ne0.true) (field-on w.in_ok-codes.ensures.reads stays)))
      | else-n-ne0 w ↦ rw (w.reader-is, w.codes-is) (next-turn _ 96 _ c.loop-i.invariant (omega arith) (rw (eq-eqb _ 0 w.if-n-ne0.false) stays))
    ]

pub returns : goal.returns
returns c = no-turn _ 96 _ c.loop-i.invariant (omega arith)
