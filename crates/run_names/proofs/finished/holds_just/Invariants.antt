-- What is left of the schedule and of the list is to be the same as all of both.
use Rattle.std.specs.Prelude.{◌≡◌, length}
use Rattle.run_names.specs.Crews.Crew.{held_by, same_list}
use Rattle.run_names.proofs.finished.holds_just.Given as goal

abbrev pub invariant-loop-kept : goal.invariant-loop-kept
invariant-loop-kept g l =
    same_list g.R.Runner.same_event g.R.Runner.same_outcome (held_by l.fn.number l.fn.schedule l.fn.outcomes) l.fn.list
    ≡ same_list g.R.Runner.same_event g.R.Runner.same_outcome (held_by l.fn.number l.schedule l.outcomes) l.left

abbrev pub decreases-loop-kept : goal.decreases-loop-kept
decreases-loop-kept g l = length l.schedule
