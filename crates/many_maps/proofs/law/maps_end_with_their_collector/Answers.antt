-- The end of a map that owns its collector, from its beginning on.
use Rattle.many_maps.proofs.Among.Owners.{own_endings_begin, own_endings_stand}
use Rattle.many_maps.proofs.law.maps_end_with_their_collector.Goals as goal

pub returns : goal.returns
returns c d = record { begins = own_endings_begin _; steps = own_endings_stand _ }
