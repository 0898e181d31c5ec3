-- `mc_codes::granules::read_granule` meets its contract.
use Rattle.std.specs.Prelude.{get_or}
use Rattle.std.proofs.Common.{ne_eqb, eq-eqb, arith}
use Rattle.bit_reader.proofs.ReadLaws.{field-on, field-stops, stays}
use Rattle.mc_payload.specs.Payload.{samples_at, granule_at}
use Rattle.mc_codes.proofs.ClassLaws.{codeword-most}
use Rattle.mc_codes.proofs.PartLaws.{returned-stored, next-turn, last-turn}
use Rattle.mc_codes.proofs.GranuleLaws.{codeword-at, place-by, rest-empty}
use Rattle.mc_codes.proofs.granules.read_granule.Goals as goal
use Rattle.mc_codes.proofs.granules.read_granule.Goals.{then-n-ne0+in_ok-read_samples, else-n-ne0}

pub returns-in_err-codes : goal.returns-in_err-codes
unfolding granule_at
returns-in_err-codes c = returned-stored _ _ _ c.from_residual.ensures.1 (field-stops (rw c.code_bits.ensures.value at c.in_err-codes.ensures.reads))

pub read_samples-requires : goal.read_samples-requires
read_samples-requires c =
    (rw (codeword-at _ _ _ c.requires.table c.loop-i.i (omega arith)) (codeword-most (get_or c.args.own.now c.loop-i.i 0)), omega arith)

pub returns-in_err-read_samples : goal.returns-in_err-read_samples
unfolding granule_at
returns-in_err-read_samples c =
    returned-stored _ _ _ c.from_residual-in_err-read_samples.ensures.1
    (field-on (rw c.code_bits.ensures.value at c.in_ok-codes.ensures.reads)
    (last-turn _ 96 _ c.loop-i.invariant (omega arith)
    (place-by _ _ _ c.requires.table _ _ (omega arith) (ne_eqb _ 0 c.if-n-ne0.true) c.loop-i.codes c.in_err-read_samples.ensures)))

pub loop-i-preserved : goal.loop-i-preserved
unfolding samples_at
loop-i-preserved c =
    elim c.if-n-ne0.branch [
      | then-n-ne0+in_ok-read_samples w ↦ rw (w.reader-is, w.codes-is)
          (next-turn _ 96 _ c.loop-i.invariant (omega arith)
          (place-by _ _ _ c.requires.table _ _ (omega arith) (ne_eqb _ 0 w.if-n-ne0.true) c.loop-i.codes w.in_ok-read_samples.ensures))
      | else-n-ne0 w ↦ rw (w.reader-is, w.codes-is) (next-turn _ 96 _ c.loop-i.invariant (omega arith) (rw (eq-eqb _ 0 w.if-n-ne0.false) stays))
    ]

pub returns : goal.returns
unfolding granule_at
returns c = field-on (rw c.code_bits.ensures.value at c.in_ok-codes.ensures.reads) (rest-empty _ _ _ c.loop-i.i (omega arith) c.loop-i.invariant)
