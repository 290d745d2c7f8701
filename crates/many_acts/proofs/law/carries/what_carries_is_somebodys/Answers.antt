-- Rows between calls, steps of calls on one key and of rows within them, ends of maps, and rest.
use Rattle.many_acts.proofs.Carries.Endings.{endings_begin_and_keep_theirs, endings_keep_theirs}
use Rattle.many_acts.proofs.Carries.Guards.{changes_keep_theirs, guards_keep_theirs, none_begins, only_tables_carry}
use Rattle.many_acts.proofs.Carries.Makings.{makings_keep_theirs}
use Rattle.many_acts.proofs.Carries.Promised.{calls_keep_theirs}
use Rattle.many_acts.proofs.Carries.Reclaiming.{reclaiming_keeps_theirs, nothing_else_waits}
use Rattle.many_acts.proofs.Carries.Rooms.{rooms_keep_theirs}
use Rattle.many_acts.proofs.Carries.Sweeps.{sweeps_keep_theirs}
use Rattle.many_acts.proofs.Carries.Within.{rows_keep_theirs, room_rows_keep_theirs, sweep_rows_keep_theirs}
use Rattle.many_acts.proofs.law.carries.what_carries_is_somebodys.Goals as goal

pub returns : goal.returns
returns c d = record {
  starts = none_begins _;
  rest = only_tables_carry _;
  changes = changes_keep_theirs _;
  guards = guards_keep_theirs _;
  calls = calls_keep_theirs _;
  rooms = rooms_keep_theirs _;
  sweeps = sweeps_keep_theirs _;
  rows = rows_keep_theirs _;
  room_rows = room_rows_keep_theirs _;
  sweep_rows = sweep_rows_keep_theirs _;
  makings = makings_keep_theirs _;
  endings_begin = endings_begin_and_keep_theirs _;
  endings = endings_keep_theirs _;
  reclaiming = reclaiming_keeps_theirs _;
  waits = nothing_else_waits _;
}
