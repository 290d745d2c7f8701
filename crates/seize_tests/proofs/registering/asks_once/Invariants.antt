-- Something has happened.
use Rattle.std.specs.Prelude.{None}
use Rattle.seize_model.specs.Alone.Alone.{History, IsHistory}
use Rattle.seize_tests.proofs.registering.asks_once.Given as goal

abbrev pub invariant-loop-slot : goal.invariant-loop-slot
invariant-loop-slot l = (h : History) × IsHistory (λ _. None) 0 0 l.memory h
