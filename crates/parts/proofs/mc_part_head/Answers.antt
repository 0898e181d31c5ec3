-- `parts::mc_part_head` meets its contract.
use Rattle.std.proofs.Common.{◌∙◌}
use Rattle.parts.proofs.PartsLaws.{packs-accepted, packs-refused, writes-accepted, writes-refused, wrong-room, right-room}
use Rattle.parts.proofs.mc_part_head.Goals as goal

pub returns-then-out-ne-HEAD_BYTES : goal.returns-then-out-ne-HEAD_BYTES
returns-then-out-ne-HEAD_BYTES c = let a = c.args in wrong-room a.reading a.bytes.now a.bits a.base_channels _ c.if-out-ne-HEAD_BYTES.true _ c.packed.ensures a.out.now

pub returns-in-Ok : goal.returns-in-Ok
returns-in-Ok c =
    let a = c.args in
    let r = c.read_head.result in
    right-room a.reading a.bytes.now a.bits a.base_channels _ c.if-out-ne-HEAD_BYTES.false r c.read_head.ensures _ (packs-accepted r _ c.in-Ok.is) a.out.now _
    (writes-accepted r _ a.out.now _ c.in-Ok.is (c.copy_from_slice.ensures.after ∙ c.head_bytes.ensures))

pub returns-in-Err : goal.returns-in-Err
returns-in-Err c =
    let a = c.args in
    let r = c.read_head.result in
    right-room a.reading a.bytes.now a.bits a.base_channels _ c.if-out-ne-HEAD_BYTES.false r c.read_head.ensures _ (packs-refused r _ _ c.in-Err.is c.packed-in-Err.ensures) a.out.now _
    (writes-refused r _ a.out.now c.in-Err.is)
