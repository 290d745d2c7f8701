use Rattle.std.specs.Prelude.{◌≡◌, false}
use Rattle.threads_steps.specs.Given.ActsLefts.{is_along}
use Rattle.threads_steps.specs.Made.{IsSameSeat}
use Rattle.threads_ends.specs.Ending.{IsEnding, StaysElse, left_in}
use Rattle.threads_ends.proofs.ending.Ender.ends_by.Given as goal

-- the end goes on, at no list
abbrev pub invariant-until : goal.invariant-until
invariant-until g l =
    IsEnding l.machine l.self.within.seat.now.view × (is_along l.machine.stands ≡ false) × StaysElse l.initial.self.within.seat.now.view l.self.within.seat.now.view
    × IsSameSeat l.initial.self.within l.self.within

abbrev pub decreases-until : goal.decreases-until
decreases-until g l = left_in l.self.within.seat.now.view.work
