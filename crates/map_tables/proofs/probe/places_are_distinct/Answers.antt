-- The places of the first tries are distinct.
use Rattle.map_tables.proofs.Places.{has_distinct_places}
use Rattle.map_tables.proofs.probe.places_are_distinct.Goals as goal

pub returns : goal.returns
returns c = has_distinct_places
