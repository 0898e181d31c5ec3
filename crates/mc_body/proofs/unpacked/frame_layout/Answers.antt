-- `mc_body::unpacked::frame_layout` meets its contract.
use Rattle.mc_body.proofs.UnpackedLaws.{count-is, tens-fit, number_fits, number_is}
use Rattle.mc_body.proofs.unpacked.frame_layout.Goals as goal

pub overflow_mul-result : goal.overflow_mul-result
overflow_mul-result c = search tens-fit

pub overflow_add-result : goal.overflow_add-result
overflow_add-result c = search number_fits

pub returns : goal.returns
returns c = search (count-is, number_is)
