-- `parts::unpack::unpack_part` meets its contract.
use Rattle.std.specs.Prelude.{refl, Ok}
use Rattle.std.proofs.Common.{sym}
use Rattle.part_tables.specs.PayloadCode.{buffers_now}
use Rattle.part_tables.proofs.PayloadLaws.{long, after-head, after-refused, after-payload}
use Rattle.parts.proofs.unpack.unpack_part.Goals as goal

pub returns-in_err-head-clause-part : goal.returns-in_err-head-clause-part
returns-in_err-head-clause-part c = after-head _ _ _ (sym c.requires) refl _ c.in_err-head.ensures _ c.from_residual.ensures.1

pub returns-in_err-unpacked-clause-part : goal.returns-in_err-unpacked-clause-part
returns-in_err-unpacked-clause-part c =
    after-refused _ (buffers_now c.args.buffers.now) _ (sym c.requires) refl c.in_ok-head.head c.in_ok-head.ensures _ _ _ c.in_err-unpacked.ensures.after _ c.from_residual-in_err-unpacked.ensures.1

pub write_tables-requires : goal.write_tables-requires
write_tables-requires c =
    let w = long _ (buffers_now c.args.buffers.now) _ (sym c.requires) refl in (w.0, w.1, w.2, w.3, w.4)

pub returns-clause-part : goal.returns-clause-part
returns-clause-part c =
    rw c.write_tables.ensures.tables
    (after-payload _ (buffers_now c.args.buffers.now) _ (sym c.requires) refl c.in_ok-head.head c.in_ok-head.ensures c.unpack.new.raw c.unpack.new.lfe (Ok c.in_ok-unpacked.unpacked) c.in_ok-unpacked.ensures.after)
