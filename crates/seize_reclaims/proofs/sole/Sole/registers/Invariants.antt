use Rattle.std.proofs.Common.{◌≡◌}
use Rattle.seize_reclaims.specs.Empties.Emptying.{Seeks}
use Rattle.seize_reclaims.proofs.sole.Sole.registers.Given as goal

-- each slot below was tried
abbrev pub invariant-loop-slot : goal.invariant-loop-slot
invariant-loop-slot g l =
    Seeks l.all l.slot (g.R.One.acts l.self.seat.view) (g.R.One.all l.self.seat.view) × (g.R.One.beside l.self.seat.view ≡ g.R.One.beside l.initial.self.seat.view)
    × (l.self.blocks ≡ l.initial.self.blocks)
