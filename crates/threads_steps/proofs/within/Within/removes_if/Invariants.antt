use Rattle.std.specs.Prelude.{ℕ}
use Rattle.map_measures.specs.ByKey.ByKey.{by_key}
use Rattle.threads_steps.specs.Asking.{HasGone, MayTest, TestSays, removes_if}
use Rattle.threads_rule.specs.Errands.Calling.{IsUnderWay, wanted_of}
use Rattle.threads_kinds.specs.CallKinds.Kinds.{Stage}
use Rattle.threads_rule.specs.Errands.Looking.{IsOfThem, StaysThere}
use Rattle.threads_steps.specs.Made.{IsSameSeat}
use Rattle.threads_steps.proofs.within.Within.removes_if.Given as goal

-- the call goes on, on the slot and in the map that were there, by so many steps and answers of the test
abbrev pub invariant-loop : goal.invariant-loop
invariant-loop g l =
    ((s : Stage) × IsUnderWay removes_if s l.fn.hasher (by_key g.Q.Equivalent.stands_for l.machine) l.self.seat.now.view) × StaysThere l.initial.self.seat.now.view l.self.seat.now.view × IsSameSeat l.initial.self l.self
    × IsOfThem l.initial.self.seat.now.view l.self.seat.now.view
    × ((n : ℕ) × HasGone g.K.PartialEq.eq g.S.Hashes.hash (TestSays (MayTest g.F.Fn l.fn.test)) n l.initial.self.seat.now.view l.self.seat.now.view)

-- what is wanted is what this call does
abbrev pub ghosts-begins_on_as : goal.ghosts-begins_on_as
ghosts-begins_on_as g a = record { wanted = wanted_of (by_key g.Q.Equivalent.stands_for a._key.now) }
