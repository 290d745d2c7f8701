-- Why the beginning of a map is refused.
use Rattle.owner_facts.proofs.Maps.Laws.{free_roots_are_enough, only_memory_is_refused}
use Rattle.owner_facts.proofs.law.maps.beginnings_need_memory_alone.Goals as goal

pub returns : goal.returns
returns c d = record { begins = free_roots_are_enough _ _; steps = only_memory_is_refused _ _ }
