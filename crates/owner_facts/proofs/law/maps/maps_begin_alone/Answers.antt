-- The beginning of a map.
use Rattle.owner_facts.proofs.Maps.Begins.Whole.{maps_begin_alone, maps_go_on_alone}
use Rattle.owner_facts.proofs.Maps.Begins.ComesToEnd.{beginnings_end, beginnings_leave_less}
use Rattle.owner_facts.proofs.law.maps.maps_begin_alone.Goals as goal

pub returns : goal.returns
returns c d = record { begins = maps_begin_alone _; steps = maps_go_on_alone _; ends = beginnings_end _ _; less = beginnings_leave_less _ _ }
