-- With the maps that are left it comes to all.
use Rattle.std.specs.Prelude.{◌≡◌, ◌++◌, map}
use Rattle.papaya_steps.specs.WholeRuns.Ending.{shown_of, map_reported}
use Rattle.papaya_steps.proofs.ending.living.Given as goal

abbrev pub invariant-loop-named : goal.invariant-loop-named
invariant-loop-named l = map shown_of l.living.items ++ map (map_reported l.tally) l.named-iterator.rest.items ≡ map (map_reported l.tally) l.fn.maps
