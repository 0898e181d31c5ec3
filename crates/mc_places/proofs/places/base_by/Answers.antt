-- `mc_places::places::base_by` meets its contract.
use Rattle.mc_places.proofs.PlacesBuilt.{base-fits}
use Rattle.mc_places.proofs.places.base_by.Goals as goal

pub overflow_cast-result : goal.overflow_cast-result
overflow_cast-result c = search base-fits
