-- Nothing has happened at the start.
use Rattle.std.specs.Prelude.{None}
use Rattle.seize_model.specs.Alone.Alone.{nothing_yet}
use Rattle.seize_tests.proofs.Tests.Slots.{started}
use Rattle.seize_tests.proofs.registering.needs_memory.Goals as goal

pub asks_once-requires : goal.asks_once-requires
asks_once-requires c = (nothing_yet, started (λ _. None) 0 0 c.in_ok-memory.memory c.in_ok-memory.ensures)
