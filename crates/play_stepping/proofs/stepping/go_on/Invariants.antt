-- The call goes on, after the steps that it has taken, and has made nothing where growths are to be refused.
use Rattle.std.specs.Prelude.{◌≡◌, ◌+◌, ℕ}
use Rattle.play_scheduler.specs.Given.LoggedCalling.{MakesNoMore}
use Rattle.play_stepping.specs.EventSteps.Stepping.{GoneFor, IsPlaced}
use Rattle.play_stepping.proofs.EventSteps.StepsOn.{Goes}
use Rattle.play_stepping.proofs.stepping.go_on.Given as goal
use Rattle.run_executor.specs.Executing.IsThere.{PreservesSettings}

abbrev pub invariant-loop-steps : goal.invariant-loop-steps
invariant-loop-steps g l =
    (n : ℕ) × (l.steps ≡ n + 1) × PreservesSettings l.fn.scheduler.logged.executor l.scheduler.logged.executor
    × ((place : ℕ) → IsPlaced l.fn.caller place l.fn.scheduler.calls
    → Goes g.K.PartialEq.eq (g.S.Hashes.hash l.fn.scheduler.logged.executor.hasher) place l.fn.scheduler l.fn.effects.items n l.effects.items l.scheduler)
    × (k : ℕ) × (l.steps ≡ k + 1)
    × ((place : ℕ) → IsPlaced l.fn.caller place l.fn.scheduler.calls
    → GoneFor g.K.PartialEq.eq (g.S.Hashes.hash l.fn.scheduler.logged.executor.hasher) place k l.fn.effects.items l.effects.items l.fn.scheduler l.scheduler)
    × MakesNoMore l.fn.refuse l.fn.effects.items l.effects.items
