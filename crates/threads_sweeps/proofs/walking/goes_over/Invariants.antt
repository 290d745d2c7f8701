use Rattle.std.specs.Prelude.{ℕ}
use Rattle.papaya_raw.specs.Given.ReservesDeclared.sweep.Purpose.TheVariants.{Walks}
use Rattle.threads_calls.specs.Given.ErrandsLooking.{IsOfThem, StaysThere}
use Rattle.threads_calls.specs.Given.ErrandsSweeping.{IsSweeping}
use Rattle.threads_calls.specs.Given.Made.{IsSameSeat}
use Rattle.threads_sweeps.specs.Closures.{TakesSteps}
use Rattle.threads_sweeps.specs.Onlookers.{SeesSo}
use Rattle.threads_sweeps.proofs.walking.goes_over.Given as goal

-- it goes on, on the slot and in the map that were there, by so many steps, and the onlooker was shown what they have told
abbrev pub invariant-loop : goal.invariant-loop
invariant-loop g l =
    IsSweeping Walks l.fn.hasher l.machine l.within.seat.now.view × StaysThere l.initial.within.seat.now.view l.within.seat.now.view × IsSameSeat l.initial.within l.within
    × IsOfThem l.initial.within.seat.now.view l.within.seat.now.view × g.T.Onlooker.may_see l.onlooker
    × ((n : ℕ) × TakesSteps g.K.PartialEq.eq g.S.Hashes.hash (SeesSo g.T.Onlooker.has_seen) n l.initial.onlooker l.initial.within.seat.now.view l.onlooker l.within.seat.now.view)
