use Rattle.std.proofs.Common.{◌≡◌, ◌++◌}
use Rattle.run_names.specs.Presence.Crowd.{kept}
use Rattle.run_names.proofs.crowd.Crowd.into_items.Given as goal

-- what was taken over, with what is left, is all
abbrev pub invariant-loop-held : goal.invariant-loop-held
invariant-loop-held g l = l.items.items ++ kept l.held-iterator.rest.items ≡ kept l.self-inside.comers.items
