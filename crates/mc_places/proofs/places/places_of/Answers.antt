-- `mc_places::places::places_of` meets its contract.
use Rattle.mc_places.proofs.PlacesLaws.{places-whole}
use Rattle.mc_places.proofs.PlacesBuilt.{main-pair, sources-small, bases-small}
use Rattle.mc_places.proofs.places.places_of.Goals as goal

pub group_sources-sources-requires : goal.group_sources-sources-requires
group_sources-sources-requires c = search main-pair

pub by_place-requires : goal.by_place-requires
by_place-requires c = (search sources-small, search bases-small)

pub returns : goal.returns
returns c = search places-whole
