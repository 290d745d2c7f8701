use Rattle.seize_callers.specs.Kept.{kept}
use Rattle.std.proofs.Common.{◌≡◌}
use Rattle.seize_callers.specs.Seeking.{seeks}
use Rattle.seize_callers.proofs.within.Within.register.Given as goal

-- each slot below was tried
abbrev pub invariant-loop-slot : goal.invariant-loop-slot
invariant-loop-slot g l =
    ((g.C.Content.notes l.self.seat.now.view).knows ≡ seeks l.slot) × (kept l.self.blocks l.self.seat.ghost_name l.self.seat.now.id l.self.seat.now.away
    ≡ kept l.initial.self.blocks l.initial.self.seat.ghost_name l.initial.self.seat.now.id l.initial.self.seat.now.away)
    × ((g.C.Content.notes l.self.seat.now.view).guards ≡ (g.C.Content.notes l.initial.self.seat.now.view).guards)
    × (g.C.Content.beside l.self.seat.now.view ≡ g.C.Content.beside l.initial.self.seat.now.view)
