use Rattle.threads_rule.specs.Errands.Counting.{IsCounting, shards_left}
use Rattle.threads_rule.specs.Errands.Looking.{IsOfThem, StaysThere}
use Rattle.threads_steps.specs.Made.{IsSameSeat}
use Rattle.threads_steps.proofs.within.Within.adds_all.Given as goal

-- the counting goes on, on the slot and in the map that were there
abbrev pub invariant-loop-count : goal.invariant-loop-count
invariant-loop-count g l =
    IsCounting l.fn.hasher l.machine l.self.seat.now.view × StaysThere l.initial.self.seat.now.view l.self.seat.now.view × IsSameSeat l.initial.self l.self
    × IsOfThem l.initial.self.seat.now.view l.self.seat.now.view

abbrev pub decreases-loop-count : goal.decreases-loop-count
decreases-loop-count g l = shards_left l.machine
