-- Several maps on one collector.
use Rattle.many_maps.proofs.Beside.Maps.Comes.{no_maps_begin, maps_come, calls_begin_in_maps}
use Rattle.many_maps.proofs.Beside.Maps.Steps.{calls_stand_in_maps, replies_stand_in_maps}
use Rattle.many_maps.proofs.Beside.Maps.Rows.{rows_stand_in_maps, guards_stand_in_maps}
use Rattle.many_maps.proofs.law.maps_stand_together.Goals as goal

pub returns : goal.returns
returns c d = record {
  starts = no_maps_begin _;
  comes = maps_come _;
  begins = calls_begin_in_maps _;
  steps = calls_stand_in_maps _;
  replies = replies_stand_in_maps _;
  rows = rows_stand_in_maps _;
  guards = guards_stand_in_maps _;
}
