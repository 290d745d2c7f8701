-- A slot is entered where nothing has happened.
use Rattle.std.specs.Prelude.{None}
use Rattle.seize_model.specs.Alone.Alone.{nothing_yet}
use Rattle.seize_tests.proofs.Tests.Slots.{started, entered_inside}
use Rattle.seize_tests.proofs.section.is_reclaimed_backwards.Goals as goal

pub register-requires : goal.register-requires
register-requires c = (0, 0, nothing_yet, started (λ _. None) 0 0 c.in_ok-memory.memory c.in_ok-memory.ensures)

pub goes_so-requires : goal.goes_so-requires
goes_so-requires c =
    let start = started (λ _. None) 5 0 c.in_ok-memory.memory c.in_ok-memory.ensures in
    let told = c.in-Ok.ensures.told 5 0 nothing_yet start in
    entered_inside 5 c.register.new.memory nothing_yet c.in-Ok.slot told.1
