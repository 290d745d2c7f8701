-- What is behind roots, over each kind of step.
use Rattle.run_shows.proofs.Reclaims.Left.Calls.{machines_leave_it, guards_leave_it}
use Rattle.run_shows.proofs.Reclaims.Left.Endings.{endings_begin_and_leave_it, endings_leave_it}
use Rattle.run_shows.proofs.Reclaims.Left.Makings.{makings_begin_and_leave_it, makings_leave_it}
use Rattle.run_shows.proofs.Reclaims.Left.Stays.{nothing_is_left, left_is_left_behind}
use Rattle.run_shows.proofs.law.what_is_left_stays.Goals as goal

pub returns : goal.returns
returns c d = record {
  starts = nothing_is_left _ _;
  behind = left_is_left_behind _ _;
  machines = machines_leave_it _;
  guards = guards_leave_it _;
  makings_begin = makings_begin_and_leave_it _;
  makings = makings_leave_it _;
  endings_begin = endings_begin_and_leave_it _;
  endings = endings_leave_it _;
}
