use Rattle.std.specs.Prelude.{ℕ}
use Rattle.threads_calls.specs.Given.StepsAsking.{HasGone}
use Rattle.threads_calls.specs.Given.Made.{IsSameSeat}
use Rattle.threads_calls.specs.Given.ErrandsLooking.{IsOfThem, StaysThere}
use Rattle.threads_updates.specs.Computing.{SaidLast, StandsAt, Told}
use Rattle.threads_updates.proofs.computing.computes.Given as goal

-- the call goes on, on the slot and in the map that were there, by so many steps and by what was said
abbrev pub invariant-loop : goal.invariant-loop
invariant-loop g l =
    StandsAt l.value l.fn.hasher l.machine l.within.seat.now.view × StaysThere l.initial.within.seat.now.view l.within.seat.now.view × IsSameSeat l.initial.within l.within
    × IsOfThem l.initial.within.seat.now.view l.within.seat.now.view
    × ((n : ℕ) × HasGone g.K.PartialEq.eq g.S.Hashes.hash (Told (g.D.Decides.gives l.fn.decider)) n l.initial.within.seat.now.view l.within.seat.now.view)
    × SaidLast (g.D.Decides.gives l.fn.decider) l.end
