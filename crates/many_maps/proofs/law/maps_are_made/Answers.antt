-- Maps that are made among calls of many callers on other maps.
use Rattle.many_maps.proofs.Beside.Makings.CallSteps.{calls_begin_beside, calls_stand_beside, replies_stand_beside}
use Rattle.many_maps.proofs.Beside.Makings.Promised.{no_makings_begin, makings_begin, makings_stand}
use Rattle.many_maps.proofs.Beside.Makings.RowSteps.{rows_stand_beside, guards_stand_beside}
use Rattle.many_maps.proofs.law.maps_are_made.Goals as goal

pub returns : goal.returns
returns c d = record {
  starts = no_makings_begin _;
  begins = makings_begin _;
  steps = makings_stand _;
  calls_begin = calls_begin_beside _;
  calls_step = calls_stand_beside _;
  replies = replies_stand_beside _;
  rows = rows_stand_beside _;
  guards = guards_stand_beside _;
}
