use Rattle.std.specs.Prelude.{◌≤◌, suc, if◌then◌else◌}
use Rattle.threads_steps.specs.Given.ActsLefts.{is_along}
use Rattle.threads_steps.specs.Made.{IsSameSeat}
use Rattle.threads_ends.specs.Ending.{IsEnding, StaysElse, along_in, left_in}
use Rattle.threads_ends.proofs.ending.Ender.goes_along.Given as goal

-- the end goes on, of which no more is left
abbrev pub invariant-list : goal.invariant-list
invariant-list g l =
    IsEnding l.machine l.self.within.seat.now.view × (left_in l.self.within.seat.now.view.work ≤ left_in l.initial.self.within.seat.now.view.work)
    × StaysElse l.initial.self.within.seat.now.view l.self.within.seat.now.view × IsSameSeat l.initial.self.within l.self.within

abbrev pub decreases-list : goal.decreases-list
decreases-list g l = if is_along l.machine.stands then suc (along_in l.self.within.seat.now.view.work) else 0
