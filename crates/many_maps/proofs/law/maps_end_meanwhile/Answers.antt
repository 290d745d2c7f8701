-- Whoever takes a step while maps end.
use Rattle.many_maps.proofs.Among.Begins.{no_endings_begin, endings_begin}
use Rattle.many_maps.proofs.Among.Calls.{calls_begin_among, calls_stand_among, replies_stand_among}
use Rattle.many_maps.proofs.Among.Makings.{makings_begin_among, makings_stand_among}
use Rattle.many_maps.proofs.Among.Own.Steps.{endings_stand}
use Rattle.many_maps.proofs.Among.Rows.{rows_stand_among, guards_stand_among}
use Rattle.many_maps.proofs.law.maps_end_meanwhile.Goals as goal

pub returns : goal.returns
returns c d = record {
  starts = no_endings_begin _;
  begins = endings_begin _;
  steps = endings_stand _;
  calls_begin = calls_begin_among _;
  calls_step = calls_stand_among _;
  replies = replies_stand_among _;
  rows = rows_stand_among _;
  guards = guards_stand_among _;
  makings_begin = makings_begin_among _;
  makings_step = makings_stand_among _;
}
