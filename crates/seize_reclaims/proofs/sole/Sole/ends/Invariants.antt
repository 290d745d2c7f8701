use Rattle.std.proofs.Common.{◌≡◌}
use Rattle.seize_reclaims.specs.Empties.Emptying.{IsUnderWay, left_of}
use Rattle.seize_reclaims.proofs.sole.Sole.ends.Given as goal

-- it goes on
abbrev pub invariant-loop-self : goal.invariant-loop-self
invariant-loop-self g l =
    IsUnderWay l.row (g.R.One.acts l.self.seat.view) × (g.R.One.beside l.self.seat.view ≡ g.R.One.beside l.initial.self.seat.view) × (l.self.blocks ≡ l.initial.self.blocks)

-- by as many steps as its view says
abbrev pub decreases-loop-self : goal.decreases-loop-self
decreases-loop-self g l = left_of (g.R.One.acts l.self.seat.view)
