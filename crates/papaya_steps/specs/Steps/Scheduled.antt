-- All that is promised of the run of a schedule.
use Rattle.std.specs.Prelude.{Bool, ℕ, List}
use Rattle.run_schedules.specs.declared.event.Event.{Event}
use Rattle.run_schedules.specs.declared.record.Run.{Run}
use Rattle.run_schedules.specs.Schedules.After.{AtEachEvent}
use Rattle.run_schedules.specs.Schedules.Runs.{IsRunOf, log_of}
use Rattle.run_schedules.specs.Schedules.Terms.{Terms}
use Rattle.papaya_steps.specs.WholeRuns.Run.{HandsOn, HoldsBlocks, IsRightRun}

-- what `run` promises: each clause of its contract
pub record IsWholeRun {K V S : Type 0} (same : K → K → Bool) (hashes : S → K → ℕ) (terms : Terms) (schedule : List (Event K V)) (run : Run K V) : Type 0 where
  pub right : IsRightRun terms schedule run
  pub whole : IsRunOf same terms schedule run
  pub hands : AtEachEvent HandsOn (log_of schedule run)
  pub live : HoldsBlocks same hashes terms schedule run
