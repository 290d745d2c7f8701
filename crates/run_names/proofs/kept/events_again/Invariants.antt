-- With the events that are left it comes to all.
use Rattle.std.specs.Prelude.{◌≡◌, ◌++◌, length}
use Rattle.run_names.specs.Crews.Crew.{events_of}
use Rattle.run_names.proofs.kept.events_again.Given as goal

abbrev pub invariant-loop-kept : goal.invariant-loop-kept
invariant-loop-kept g l = l.again.items ++ events_of l.left ≡ events_of l.fn.schedule

abbrev pub decreases-loop-kept : goal.decreases-loop-kept
decreases-loop-kept g l = length l.left
