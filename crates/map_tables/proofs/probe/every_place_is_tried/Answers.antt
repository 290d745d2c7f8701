-- The places of the first tries are all places.
use Rattle.map_tables.proofs.AllPlaces.{has_all_places}
use Rattle.map_tables.proofs.probe.every_place_is_tried.Goals as goal

pub returns : goal.returns
returns c = has_all_places
