-- `mc_decode::frame::decode_mc_frame` meets its contract.
-- Each answer goes on from the one before it: its facts are those of its own goal, which a lemma would be given by name.
use Rattle.mc_state.specs.Answer.{lent_now, buffers_now}
use Rattle.mc_decode.proofs.FrameLaws.{after-lent, lfe-low, long, after-desk, after-values, surround-low, after-head, after-payload}
use Rattle.mc_decode.proofs.frame.decode_mc_frame.Goals as goal

pub returns-then-not-call_fits-clause-frame : goal.returns-then-not-call_fits-clause-frame
returns-then-not-call_fits-clause-frame c =
    after-lent _ (buffers_now c.args.buffers.now) _ _ c.call_fits.ensures c.if-not-call_fits.true

pub returns-then-lent-gt7-clause-frame : goal.returns-then-lent-gt7-clause-frame
returns-then-lent-gt7-clause-frame c =
    after-desk (lent_now c.args.lent.now) (buffers_now c.args.buffers.now) _ _ c.call_fits.ensures c.if-not-call_fits.false c.if-lent-gt7.true

pub returns-then-not-values_fit-clause-frame : goal.returns-then-not-values_fit-clause-frame
returns-then-not-values_fit-clause-frame c =
    after-values (lent_now c.args.lent.now) (buffers_now c.args.buffers.now) c.args.state.now _ c.call_fits.ensures c.if-not-call_fits.false c.if-lent-gt7.false _ c.values_fit.ensures
    c.if-not-values_fit.true

pub unpacked_frame-requires : goal.unpacked_frame-requires
unpacked_frame-requires c =
    let l = lent_now c.args.lent.now in
    let w = buffers_now c.args.buffers.now in
    let lent = c.call_fits.ensures in
    let fits = c.if-not-call_fits.false in
    let low = c.if-lent-gt7.false in
    record {
      long = long l w c.args.state.now _ lent fits;
      low = (
        lfe-low l w c.args.state.now _ lent fits,
        surround-low l w c.args.state.now _ lent fits low _ c.values_fit.ensures c.if-not-values_fit.false c.read_head.result c.read_head.ensures _ c.in_ok-head.was,
        low,
      );
    }

pub returns-in_err-head-clause-frame : goal.returns-in_err-head-clause-frame
returns-in_err-head-clause-frame c =
    after-head (lent_now c.args.lent.now) (buffers_now c.args.buffers.now) c.args.state.now _ c.call_fits.ensures c.if-not-call_fits.false c.if-lent-gt7.false _ c.values_fit.ensures
    c.if-not-values_fit.false c.read_head.result c.read_head.ensures _ c.in_err-head.was _ c.from_residual.ensures.1

pub returns-clause-frame : goal.returns-clause-frame
returns-clause-frame c =
    after-payload (lent_now c.args.lent.now) (buffers_now c.args.buffers.now) c.args.state.now _ c.call_fits.ensures c.if-not-call_fits.false c.if-lent-gt7.false _ c.values_fit.ensures
    c.if-not-values_fit.false c.read_head.result c.read_head.ensures _ c.in_ok-head.was _ c.unpacked_frame.ensures.frame
