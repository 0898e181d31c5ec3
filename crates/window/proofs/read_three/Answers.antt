-- `window::read_three` meets its contract.
use Rattle.std.proofs.Common.{refl, arith}
use Rattle.bit_reader.proofs.ReadLaws.{returned, field-on, field-stops, moved-on, moved-stops}
use Rattle.window.specs.Three.{three}
use Rattle.window.proofs.ThreeLaws.{three-window, three-read, three-moved}
use Rattle.window.proofs.read_three.Goals as goal

pub returns-clause-reads : goal.returns-clause-reads
returns-clause-reads c =
    three-window _ _ _ _ refl refl (omega arith) c.requires c.in-Some.ensures _ _ _ c.field_of.ensures c.field_of-2.ensures c.field_of-3.ensures

pub returns-in_err-read-clause-reads : goal.returns-in_err-read-clause-reads
unfolding three
returns-in_err-read-clause-reads c = returned _ _ c.from_residual.ensures.1 (field-stops c.in_err-read.ensures.reads)

pub returns-in_err-read-2-clause-reads : goal.returns-in_err-read-2-clause-reads
unfolding three
returns-in_err-read-2-clause-reads c =
    returned _ _ c.from_residual-in_err-read-2.ensures.1 (field-on c.in_ok-read.ensures.reads (field-stops c.in_err-read-2.ensures.reads))

pub returns-in_err-read-3-clause-reads : goal.returns-in_err-read-3-clause-reads
unfolding three
returns-in_err-read-3-clause-reads c =
    returned _ _ c.from_residual-in_err-read-3.ensures.1
    (field-on c.in_ok-read.ensures.reads (field-on c.in_ok-read-2.ensures.reads (field-stops c.in_err-read-3.ensures.reads)))

pub returns-2-clause-reads : goal.returns-2-clause-reads
returns-2-clause-reads c = three-read _ _ _ _ c.in_ok-read.ensures.reads c.in_ok-read-2.ensures.reads c.in_ok-read-3.ensures.reads

pub returns-clause-moved : goal.returns-clause-moved
returns-clause-moved c = rw (three-moved c.args.reader.now.string.bits c.args.n c.args.reader.now.at (omega arith)) refl

pub returns-in_err-read-clause-moved : goal.returns-in_err-read-clause-moved
returns-in_err-read-clause-moved c = moved-stops 2 c.in_err-read.ensures.reads c.read.ensures.moved

pub returns-in_err-read-2-clause-moved : goal.returns-in_err-read-2-clause-moved
returns-in_err-read-2-clause-moved c =
    moved-on 2 c.in_ok-read.ensures.reads c.read.ensures.moved (moved-stops 1 c.in_err-read-2.ensures.reads c.read-2.ensures.moved)

pub returns-in_err-read-3-clause-moved : goal.returns-in_err-read-3-clause-moved
returns-in_err-read-3-clause-moved c =
    moved-on 2 c.in_ok-read.ensures.reads c.read.ensures.moved (moved-on 1 c.in_ok-read-2.ensures.reads c.read-2.ensures.moved c.read-3.ensures.moved)

pub returns-2-clause-moved : goal.returns-2-clause-moved
returns-2-clause-moved c =
    moved-on 2 c.in_ok-read.ensures.reads c.read.ensures.moved (moved-on 1 c.in_ok-read-2.ensures.reads c.read-2.ensures.moved c.read-3.ensures.moved)
