-- `mc_body::unpacked::unpacked_frame` meets its contract.
-- What answers share is a `let`, whose names are those of each goal.
use mathlib.Core.Path.{refl, ap}
use Rattle.std.proofs.Common.{rules}
use mathlib.Core.Bool.{not}
use Rattle.mc_base.specs.Base.{lent}
use Rattle.mc_body.proofs.UnpackedLaws.{lfe-low, surround-low, base-fits, written_is, writable, delays-small, after-refused, after-changed, after-accepted}
use Rattle.mc_body.proofs.unpacked.unpacked_frame.Goals as goal

pub read_mc_payload-requires : goal.read_mc_payload-requires
read_mc_payload-requires c =
    let k = c.settings-s in
    lfe-low k.result _ k.ensures c.requires.low.0

pub returns-in_err-read_mc_payload-clause-frame : goal.returns-in_err-read_mc_payload-clause-frame
returns-in_err-read_mc_payload-clause-frame c =
    let st = c.args.state.now in
    let k = c.settings-s in
    after-refused st _ _ _ _ k.result _ _ _ k.ensures _ c.in_err-read_mc_payload.ensures.settled _ c.from_residual.ensures.1

pub frame_layout-own-requires : goal.frame_layout-own-requires
frame_layout-own-requires c =
    let k = c.settings-s in
    surround-low k.result _ k.ensures c.requires.low.1

pub history-next-requires : goal.history-next-requires
history-next-requires c =
    let k = c.settings-s in
    let fits = base-fits k.result _ k.ensures _ _ c.requires.long in
    let raw_left = fits.raw_left_long in
    let raw_right = fits.raw_right_long in
    let scaled_left = fits.scaled_left_long in
    let scaled_right = fits.scaled_right_long in search rules

pub returns-then-not-follows-clause-frame : goal.returns-then-not-follows-clause-frame
returns-then-not-follows-clause-frame c =
    let st = c.args.state.now in
    let k = c.settings-s in
    let r = c.in_ok-read_mc_payload in
    let n = c.frame_layout-own in
    let h = c.history-next.ensures (lent c.args.lent.now.base) refl refl in
    after-changed st _ _ _ _ k.result _ _ _ k.ensures _ r.ensures.settled _ n.ensures.0 _ n.ensures.1 _ h _ c.held-held.ensures _ c.follows.ensures (ap not c.if-not-follows.true)

pub write_samples-excess_codes-requires : goal.write_samples-excess_codes-requires
write_samples-excess_codes-requires c =
    let k = c.settings-s in
    let r = c.in_ok-read_mc_payload in (r.ensures.places, lfe-low k.result _ k.ensures c.requires.low.0, writable k.result _ _ _ r.ensures.settled)

pub finish_payload-requires : goal.finish_payload-requires
finish_payload-requires c =
    let pre = c.requires in
    let k = c.settings-s in
    let r = c.in_ok-read_mc_payload in
    let v = c.write_samples-excess_codes in record { recorded = (v.ensures.0, r.ensures.places, writable k.result _ _ _ r.ensures.settled, delays-small k.result _ _ _ r.ensures.settled); base_fits = base-fits k.result _ k.ensures _ _ pre.long }

pub tallied-state-requires : goal.tallied-state-requires
tallied-state-requires c = c.requires.low.2

pub returns-clause-frame : goal.returns-clause-frame
returns-clause-frame c =
    let st = c.args.state.now in
    let k = c.settings-s in
    let r = c.in_ok-read_mc_payload in
    let n = c.frame_layout-own in
    let h = c.history-next.ensures (lent c.args.lent.now.base) refl refl in
    let v = c.write_samples-excess_codes in
    let o = c.finish_payload in
    let w = written_is k.result _ _ _ _ _ _ _ v.ensures.0 o.ensures.0 o.ensures.1 v.ensures.1 in
    rw c.after-held.ensures.0
    (after-accepted st _ _ _ _ k.result _ _ _ k.ensures _ r.ensures.settled _ n.ensures.0 _ n.ensures.1 _ h _ c.held-held.ensures _ c.follows.ensures (ap not c.if-not-follows.false) _ c.after-held.ensures.1 _ c.tallied-state.ensures _ v.ensures.2 _ w)
