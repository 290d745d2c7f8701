use Rattle.threads_rule.specs.Errands.Looking.{IsOfThem, LooksFor, StaysThere}
use Rattle.threads_steps.specs.Made.{IsSameSeat}
use Rattle.threads_steps.proofs.within.Within.goes_through.Given as goal

-- the lookup goes on, on the slot and in the map that were there
abbrev pub invariant-loop : goal.invariant-loop
invariant-loop g l =
    LooksFor (g.Q.Equivalent.stands_for l.fn.key) l.lookup l.self.seat.now.view × StaysThere l.initial.self.seat.now.view l.self.seat.now.view × IsSameSeat l.initial.self l.self
    × IsOfThem l.initial.self.seat.now.view l.self.seat.now.view
