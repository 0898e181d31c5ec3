-- `bit_reader::BitReader::read` meets its contract.
-- What answers share is a `let`, whose names are those of each goal.
use Rattle.std.proofs.Common.{refl}
use Rattle.bits.proofs.BitsLaws.{value<}
use Rattle.bit_reader.proofs.ReadLaws.{returned, field-fits, field-short, found, short, moved-once, moved-short}
use Rattle.bit_reader.proofs.BitReader.read.Goals as goal

pub returns-in_err-value-clause-reads : goal.returns-in_err-value-clause-reads
returns-in_err-value-clause-reads c =
    let s = short _ _ _ _ _ c.in_err-value.ensures.value in
    returned _ _ c.from_residual.ensures.1 (rw s.error (field-short _ refl s.past))

pub returns-clause-reads : goal.returns-clause-reads
returns-clause-reads c =
    let f = found _ _ _ _ _ c.in_ok-value.ensures.value in
    field-fits {r = c.args.self.now} _ _ refl refl f.within f.value

pub returns-in_err-value-clause-moved : goal.returns-in_err-value-clause-moved
returns-in_err-value-clause-moved c =
    let s = short _ _ _ _ _ c.in_err-value.ensures.value in
    rw (moved-short _ _ _ 0 s.past) refl

pub returns-clause-moved : goal.returns-clause-moved
returns-clause-moved c =
    let f = found _ _ _ _ _ c.in_ok-value.ensures.value in
    rw (moved-once _ _ _ f.within) refl

pub returns-clause-bound : goal.returns-clause-bound
returns-clause-bound c =
    let f = found _ _ _ _ _ c.in_ok-value.ensures.value in
    rw f.value (value< c.args.self.now.string.bytes.now c.args.self.now.at c.args.n)
