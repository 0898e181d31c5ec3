-- `mc_head::read_head` meets its contract.
-- Each answer goes on from the one before it: its facts are those of its own goal, which a lemma would be given by name.
use Rattle.std.proofs.Common.{sym, ◌∙◌}
use Rattle.bit_reader.proofs.ReadLaws.{field-on, field-stops, stays, both-on, both-stops, both-stops-late}
use Rattle.mc_fields.specs.Head.{mc_error_check, head}
use Rattle.mc_head.proofs.HeadLaws.{widths-fit, configured, centre-refused, rest-refused, rest-read, wrong-loan, head-read, head-stops, head-returned}
use Rattle.mc_head.proofs.read_head.Goals as goal

pub returns-then-not-head_fits : goal.returns-then-not-head_fits
returns-then-not-head_fits c = wrong-loan _ c.args.string _ _ c.head_fits.ensures c.if-not-head_fits.true

pub returns-in_err-header : goal.returns-in_err-header
unfolding head
returns-in_err-header c =
    head-returned _ c.args.string _ _ c.head_fits.ensures c.if-not-head_fits.false _ _ c.new-reader.ensures _ _ c.from_residual.ensures.1 (both-stops _ c.in_err-header.ensures)

pub returns-then-centre_stops : goal.returns-then-centre_stops
returns-then-centre_stops c =
    head-stops _ c.args.string _ _ c.head_fits.ensures c.if-not-head_fits.false _ _ c.new-reader.ensures _ (centre-refused _ _ c.in_ok-header.ensures (sym c.centre_stops.ensures ∙ c.if-centre_stops.true))

pub returns-in_err-check_word : goal.returns-in_err-check_word
unfolding mc_error_check
returns-in_err-check_word c =
    head-returned _ c.args.string _ _ c.head_fits.ensures c.if-not-head_fits.false _ _ c.new-reader.ensures _ _ c.from_residual-in_err-check_word.ensures.1
    (rest-refused _ _ c.in_ok-header.ensures (sym c.centre_stops.ensures ∙ c.if-centre_stops.false) (both-stops _ (field-stops c.in_err-check_word.ensures.reads)))

pub read_status-requires : goal.read_status-requires
read_status-requires c = widths-fit _ _ _ c.from_header.ensures

pub returns-in_err-status : goal.returns-in_err-status
unfolding mc_error_check
returns-in_err-status c =
    head-returned _ c.args.string _ _ c.head_fits.ensures c.if-not-head_fits.false _ _ c.new-reader.ensures _ _ c.from_residual-in_err-status.ensures.1
    (rest-refused _ _ c.in_ok-header.ensures (sym c.centre_stops.ensures ∙ c.if-centre_stops.false)
    (both-stops-late _ (field-on c.in_ok-check_word.ensures.reads stays) (configured _ _ c.from_header.ensures c.in_err-status.ensures)))

pub returns : goal.returns
unfolding mc_error_check
returns c =
    head-read _ c.args.string _ _ c.head_fits.ensures c.if-not-head_fits.false _ _ c.new-reader.ensures _
    (rest-read _ _ c.in_ok-header.ensures (sym c.centre_stops.ensures ∙ c.if-centre_stops.false)
    (both-on _ (field-on c.in_ok-check_word.ensures.reads stays) (configured _ _ c.from_header.ensures c.in_ok-status.ensures)))
