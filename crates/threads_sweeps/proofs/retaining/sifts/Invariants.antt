use denote.Param.Always.{always_mut}
use Rattle.std.specs.Prelude.{ℕ}
use Rattle.papaya_raw.specs.Given.ReservesDeclared.sweep.Purpose.TheVariants.{Retains}
use Rattle.threads_calls.specs.Given.ErrandsLooking.{IsOfThem, StaysThere}
use Rattle.threads_calls.specs.Given.ErrandsSweeping.{IsSweeping}
use Rattle.threads_calls.specs.Given.Made.{IsSameSeat}
use Rattle.threads_sweeps.specs.Closures.{HeedsSo, TakesSteps}
use Rattle.threads_sweeps.proofs.retaining.sifts.Given as goal

-- it goes on, on the slot and in the map that were there, by so many steps, and was told what the closure has answered
abbrev pub invariant-loop : goal.invariant-loop
invariant-loop g l =
    IsSweeping Retains l.fn.hasher l.machine l.within.seat.now.view × StaysThere l.initial.within.seat.now.view l.within.seat.now.view × IsSameSeat l.initial.within l.within
    × IsOfThem l.initial.within.seat.now.view l.within.seat.now.view × always_mut g.F.FnMut l.keep
    × ((n : ℕ) × TakesSteps g.K.PartialEq.eq g.S.Hashes.hash (HeedsSo g.F.FnMut) n l.initial.keep l.initial.within.seat.now.view l.keep l.within.seat.now.view)
