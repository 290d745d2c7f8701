use Rattle.std.proofs.Common.{◌≡◌, drop}
use Rattle.reclaimed_script.specs.Script.{hasher_from, hasher_of}
use Rattle.reclaimed_script.proofs.setup.hasher_of.Given as goal

abbrev pub invariant-loop-event : goal.invariant-loop-event
invariant-loop-event l = hasher_from l.by (drop l.event-index l.events) ≡ hasher_of l.events
