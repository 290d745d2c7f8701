use Rattle.std.proofs.Common.{◌≡◌, ◌++◌}
use Rattle.std.specs.List.{flat_map}
use Rattle.reclaimed_engine.specs.PrintedText.Text.{event_lines}
use Rattle.reclaimed_engine.proofs.events.append_events.Given as goal

abbrev pub invariant-loop-outcome : goal.invariant-loop-outcome
invariant-loop-outcome l = l.out.items ≡ l.fn.out.items ++ flat_map (λ event. event_lines l.run (event.0.now, event.1.now)) l.yielded
