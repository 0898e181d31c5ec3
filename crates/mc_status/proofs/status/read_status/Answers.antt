-- `mc_status::status::read_status` meets its contract.
-- Each answer goes on from the one before it: its facts are those of its own goal, which a lemma would be given by name.
use Rattle.bit_reader.proofs.ReadLaws.{returned, field-on, field-stops, goes-on, stops}
use Rattle.mc_fields.proofs.BitsIfLaws.{if-and}
use Rattle.mc_fields.specs.Head.{mc_composite_status_info}
use Rattle.mc_status.proofs.StatusLaws.{forbidden, allowed}
use Rattle.mc_status.proofs.status.read_status.Goals as goal

pub returns-in_err-tc_sbgr_select : goal.returns-in_err-tc_sbgr_select
unfolding mc_composite_status_info
returns-in_err-tc_sbgr_select c = returned _ _ c.from_residual.ensures.1 (field-stops c.in_err-tc_sbgr_select.ensures.reads)

pub returns-in_err-dyn_cross_on : goal.returns-in_err-dyn_cross_on
unfolding mc_composite_status_info
returns-in_err-dyn_cross_on c = returned _ _ c.from_residual-in_err-dyn_cross_on.ensures.1 (field-on c.in_ok-tc_sbgr_select.ensures.reads (field-stops c.in_err-dyn_cross_on.ensures.reads))

pub returns-in_err-mc_prediction_on : goal.returns-in_err-mc_prediction_on
unfolding mc_composite_status_info
returns-in_err-mc_prediction_on c = returned _ _ c.from_residual-in_err-mc_prediction_on.ensures.1 (field-on c.in_ok-tc_sbgr_select.ensures.reads (field-on c.in_ok-dyn_cross_on.ensures.reads (field-stops c.in_err-mc_prediction_on.ensures.reads)))

pub returns-in_err-tc_allocation : goal.returns-in_err-tc_allocation
unfolding mc_composite_status_info
returns-in_err-tc_allocation c = returned _ _ c.from_residual-in_err-tc_allocation.ensures.1 (field-on c.in_ok-tc_sbgr_select.ensures.reads (field-on c.in_ok-dyn_cross_on.ensures.reads (field-on c.in_ok-mc_prediction_on.ensures.reads (stops _ c.in_err-tc_allocation.ensures))))

pub returns-in_err-dyn_cross_lr : goal.returns-in_err-dyn_cross_lr
unfolding mc_composite_status_info
returns-in_err-dyn_cross_lr c = returned _ _ c.from_residual-in_err-dyn_cross_lr.ensures.1 (field-on c.in_ok-tc_sbgr_select.ensures.reads (field-on c.in_ok-dyn_cross_on.ensures.reads (field-on c.in_ok-mc_prediction_on.ensures.reads (goes-on _ c.in_ok-tc_allocation.ensures (field-stops (rw c.bits_if.ensures at c.in_err-dyn_cross_lr.ensures.reads))))))

pub returns-in_err-dyn_cross : goal.returns-in_err-dyn_cross
unfolding mc_composite_status_info
returns-in_err-dyn_cross c = returned _ _ c.from_residual-in_err-dyn_cross.ensures.1 (field-on c.in_ok-tc_sbgr_select.ensures.reads (field-on c.in_ok-dyn_cross_on.ensures.reads (field-on c.in_ok-mc_prediction_on.ensures.reads (goes-on _ c.in_ok-tc_allocation.ensures (field-on (rw c.bits_if.ensures at c.in_ok-dyn_cross_lr.ensures.reads) (stops _ (rw (c.bits_if-mode_bits.ensures, c.bits_if-second_bits.ensures, c.bits_if-2.ensures, ← if-and) at c.in_err-dyn_cross.ensures)))))))

pub returns-in_err-mc_prediction : goal.returns-in_err-mc_prediction
unfolding mc_composite_status_info
returns-in_err-mc_prediction c = returned _ _ c.from_residual-in_err-mc_prediction.ensures.1 (field-on c.in_ok-tc_sbgr_select.ensures.reads (field-on c.in_ok-dyn_cross_on.ensures.reads (field-on c.in_ok-mc_prediction_on.ensures.reads (goes-on _ c.in_ok-tc_allocation.ensures (field-on (rw c.bits_if.ensures at c.in_ok-dyn_cross_lr.ensures.reads) (goes-on _ (rw (c.bits_if-mode_bits.ensures, c.bits_if-second_bits.ensures, c.bits_if-2.ensures, ← if-and) at c.in_ok-dyn_cross.ensures) (stops _ (rw c.pair-pair.ensures at c.in_err-mc_prediction.ensures))))))))

pub returns-in-Some : goal.returns-in-Some
unfolding mc_composite_status_info
returns-in-Some c = field-on c.in_ok-tc_sbgr_select.ensures.reads (field-on c.in_ok-dyn_cross_on.ensures.reads (field-on c.in_ok-mc_prediction_on.ensures.reads (goes-on _ c.in_ok-tc_allocation.ensures (field-on (rw c.bits_if.ensures at c.in_ok-dyn_cross_lr.ensures.reads) (goes-on _ (rw (c.bits_if-mode_bits.ensures, c.bits_if-second_bits.ensures, c.bits_if-2.ensures, ← if-and) at c.in_ok-dyn_cross.ensures) (goes-on _ (rw c.pair-pair.ensures at c.in_ok-mc_prediction.ensures) (forbidden _ _ _ (rw c.pair-pair.ensures at c.in-Some.ensures))))))))

pub returns : goal.returns
unfolding mc_composite_status_info
returns c = field-on c.in_ok-tc_sbgr_select.ensures.reads (field-on c.in_ok-dyn_cross_on.ensures.reads (field-on c.in_ok-mc_prediction_on.ensures.reads (goes-on _ c.in_ok-tc_allocation.ensures (field-on (rw c.bits_if.ensures at c.in_ok-dyn_cross_lr.ensures.reads) (goes-on _ (rw (c.bits_if-mode_bits.ensures, c.bits_if-second_bits.ensures, c.bits_if-2.ensures, ← if-and) at c.in_ok-dyn_cross.ensures) (goes-on _ (rw c.pair-pair.ensures at c.in_ok-mc_prediction.ensures) (allowed _ _ _ (rw c.pair-pair.ensures at c.in_default.ensures))))))))
