-- The loads of a lookup.
use Rattle.map_facts.proofs.Lookups.LookupsShort.{lookups_load, lookups_look_on, lookups_are_short}
use Rattle.map_facts.proofs.law.lookups_are_short.Goals as goal

pub returns : goal.returns
returns c d = record { loads = lookups_load _ _; steps = lookups_look_on _; few = lookups_are_short }
