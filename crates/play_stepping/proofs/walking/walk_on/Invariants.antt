-- The walk goes over places, as many at least as it has taken steps, each of which just went on.
use Rattle.std.specs.Prelude.{◌≡◌, ◌+◌, ℕ, List}
use Rattle.run_schedules.specs.Schedules.Moment.{Moment}
use Rattle.run_schedules.specs.Schedules.Terms.{Terms}
use Rattle.play_scheduler.specs.Played.{RefinesAs}
use Rattle.play_stepping.specs.EventSteps.Stepping.{IsMidWalk, IsPlaced, ReadyAt, WalkedFor, WalksFar}
use Rattle.play_stepping.proofs.walking.walk_on.Given as goal
use Rattle.run_executor.specs.Executing.IsThere.{PreservesSettings}

abbrev pub invariant-loop-steps : goal.invariant-loop-steps
invariant-loop-steps g l =
    (n : ℕ) × (l.steps ≡ n + 1) × (l.scheduler ≡ record l.fn.scheduler { logged = l.scheduler.logged }) × PreservesSettings l.fn.scheduler.logged.executor l.scheduler.logged.executor
    × ((place : ℕ) → IsPlaced l.fn.caller place l.fn.scheduler.calls → (terms : Terms) (m : Moment g.row.K.Denot g.row.V.Denot) (own : List ℕ)
    → RefinesAs (WalksFar own 0) g.K.PartialEq.eq (g.S.Hashes.hash l.fn.scheduler.logged.executor.hasher) terms m l.fn.scheduler → ReadyAt own place l.fn.scheduler
    → IsMidWalk g.K.PartialEq.eq (g.S.Hashes.hash l.fn.scheduler.logged.executor.hasher) terms own place m n l.fn.effects.items l.effects.items l.scheduler)
    × (k : ℕ) × (l.steps ≡ k + 1)
    × ((place : ℕ) → IsPlaced l.fn.caller place l.fn.scheduler.calls
    → WalkedFor g.K.PartialEq.eq (g.S.Hashes.hash l.fn.scheduler.logged.executor.hasher) place k l.fn.effects.items l.effects.items l.fn.scheduler l.scheduler)
