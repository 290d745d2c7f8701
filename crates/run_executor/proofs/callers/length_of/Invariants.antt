-- Behind the places that are left to look at nobody stands.
use Rattle.std.proofs.Common.{◌<◌, ℕ}
use Rattle.run_names.specs.Presence.Crowd.{StandsAt}
use Rattle.run_executor.specs.declared.caller.NamedCaller.{NamedCaller}
use Rattle.run_executor.proofs.callers.length_of.Given as goal

abbrev pub invariant-loop-length : goal.invariant-loop-length
invariant-loop-length g l = (place : ℕ) (t : NamedCaller g.row.V.Denot) → StandsAt l.comers place t → place < l.length
