use Rattle.std.specs.Prelude.{ℕ}
use Rattle.map_measures.specs.ByKey.ByKey.{by_key}
use Rattle.threads_steps.specs.Asking.{HasGone, NoneSaid}
use Rattle.threads_rule.specs.Errands.Calling.{IsUnderWay}
use Rattle.threads_kinds.specs.CallKinds.Kinds.{Kind, Stage}
use Rattle.threads_rule.specs.Errands.Looking.{IsOfThem, StaysThere}
use Rattle.threads_steps.specs.Made.{IsSameSeat}
use Rattle.threads_steps.proofs.within.Within.runs_on_by.Given as goal

-- the call goes on, whatever it is, on the slot and in the map that were there, by so many steps
abbrev pub invariant-loop : goal.invariant-loop
invariant-loop g l =
    ((k : Kind) (s : Stage) → IsUnderWay k s l.fn.hasher (by_key g.Q.Equivalent.stands_for l.initial.machine) l.initial.self.seat.now.view → IsUnderWay k s l.fn.hasher (by_key g.Q.Equivalent.stands_for l.machine) l.self.seat.now.view)
    × StaysThere l.initial.self.seat.now.view l.self.seat.now.view × IsSameSeat l.initial.self l.self × IsOfThem l.initial.self.seat.now.view l.self.seat.now.view
    × ((n : ℕ) × HasGone g.K.PartialEq.eq g.S.Hashes.hash NoneSaid n l.initial.self.seat.now.view l.self.seat.now.view)
