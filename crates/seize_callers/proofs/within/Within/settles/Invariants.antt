use Rattle.seize_callers.specs.Kept.{kept}
use Rattle.std.proofs.Common.{◌≡◌}
use Rattle.seize_callers.specs.Made.{IsSettling, Task, left_in}
use Rattle.seize_callers.proofs.within.Within.settles.Given as goal

-- the settling goes on, for what it is for
abbrev pub invariant-loop-self : goal.invariant-loop-self
invariant-loop-self g l =
    ((task : Task _) × IsSettling task l.row (g.C.Content.notes l.self.seat.now.view))
    × ((task : Task _) → IsSettling task l.initial.row (g.C.Content.notes l.initial.self.seat.now.view) → IsSettling task l.row (g.C.Content.notes l.self.seat.now.view))
    × (l.row.slot ≡ l.initial.row.slot) × (kept l.self.blocks l.self.seat.ghost_name l.self.seat.now.id l.self.seat.now.away
    ≡ kept l.initial.self.blocks l.initial.self.seat.ghost_name l.initial.self.seat.now.id l.initial.self.seat.now.away)
    × (g.C.Content.beside l.self.seat.now.view ≡ g.C.Content.beside l.initial.self.seat.now.view)

-- by as many steps as its view says
abbrev pub decreases-loop-self : goal.decreases-loop-self
decreases-loop-self g l = left_in (g.C.Content.notes l.self.seat.now.view)
