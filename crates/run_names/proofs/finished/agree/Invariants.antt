-- It is to hold of the drivers that are left, and then holds of all.
use Rattle.std.specs.Prelude.{◌↔◌, length}
use Rattle.std.specs.List.{AllByRecursion}
use Rattle.run_names.specs.Crews.Crew.{HoldsJust}
use Rattle.run_names.proofs.finished.agree.Given as goal

abbrev pub invariant-loop-driver : goal.invariant-loop-driver
invariant-loop-driver g l =
    AllByRecursion (HoldsJust g.R.Runner.same_event g.R.Runner.same_outcome l.fn.schedule l.fn.outcomes) l.fn.drivers
    ↔ AllByRecursion (HoldsJust g.R.Runner.same_event g.R.Runner.same_outcome l.fn.schedule l.fn.outcomes) l.left

abbrev pub decreases-loop-driver : goal.decreases-loop-driver
decreases-loop-driver g l = length l.left
