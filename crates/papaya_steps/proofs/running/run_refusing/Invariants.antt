-- The events so far have happened, and the hasher is the one that was given.
use Rattle.std.specs.Prelude.{◌≡◌, ◌++◌, ◌%◌, ◌^◌, List, fold}
use Rattle.run_schedules.specs.declared.event.Event.{Event}
use Rattle.play_events.specs.Given.SchedulerPlayed.{terms_given}
use Rattle.papaya_steps.specs.WholeRuns.Run.{HasCome, bounded}
use Rattle.papaya_steps.proofs.running.run_refusing.Given as goal

abbrev pub invariant-loop-event : goal.invariant-loop-event
invariant-loop-event g l =
    (events : List (Event g.row.K.Denot g.row.V.Denot)) × (events ++ l.event-iterator.rest.items ≡ l.fn.schedule.items)
    × HasCome {K = g.row.K.Denot} {V = g.row.V.Denot} {S = g.row.S.Denot} g.K.PartialEq.eq
    (λ hasher key. g.S.Hasher.Hasher.finish (fold g.S.Hasher.Hasher.write (g.S.BuildHasher.build_hasher hasher) (g.K.Hash.hash_input key)) % 2 ^ 64)
    (terms_given (bounded l.fn.setup)) events l.running × (l.running.scheduler.logged.executor.hasher ≡ l.fn.hasher)
