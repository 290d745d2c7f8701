-- As the making of a map begins the moment shows it.
use Rattle.std.specs.Prelude.{◌≡◌, ◌<◌, ◌+◌, ◌^◌, ℕ, Bool, List, Some, None}
use Rattle.std.specs.Int.{IsPowerOfTwo}
use Rattle.std.proofs.Common.{sym, subst, arith}
use Rattle.play_stepping.specs.Given.SeizeDeclared.advance.Advance.{Advance}
use Rattle.play_stepping.specs.Given.SeizeWorld.{with_at}
use Rattle.play_lists.specs.Given.TablesDeclared.resize_mode.ResizeMode.{ResizeMode}
use Rattle.play_lists.specs.Given.TablesDeclared.setting.Setting.{Setting}
use Rattle.play_lists.specs.Given.FinishesMakings.{Beginning}
use Rattle.run_schedules.specs.Schedules.After.{moment}
use Rattle.run_schedules.specs.Schedules.Entry.{Entry}
use Rattle.run_schedules.specs.Schedules.Terms.{Terms}
use Rattle.play_stepping.specs.Given.LoggedShown.{IsShown}
use Rattle.play_stepping.specs.Given.SchedulerWorks.{MakingHasRun}
use Rattle.play_stepping.specs.Given.SchedulerDeclared.played.Played.{Played}
use Rattle.play_stepping.specs.Given.SchedulerDeclared.scheduler.Scheduler.{Scheduler}
use Rattle.play_events.specs.Events.Asked.{Holds}
use Rattle.play_events.specs.Events.OfCalls.{Runs}
use Rattle.play_stepping.proofs.Given.ExecutorFresh.{no_making_yet}
use Rattle.play_stepping.specs.Given.ExecutorMakingBegins.{next_making}
use Rattle.play_lists.specs.Given.ScenesScene.{Scene}

module _ {K V S : Type 0} {same : K → K → Bool} {hash : K → ℕ} {terms : Terms} {log : List (Entry K V)} {own : List ℕ} {mode : ResizeMode} {capacity : ℕ} {told : Advance Setting} {played : Played V}
    {old new : Scheduler K V S} (run : Runs same hash terms log old) (holds : Holds same hash terms (moment log) old) (d : MakingHasRun played old new own mode capacity told) where
  abbrev pub begun_as : Beginning K
  begun_as = next_making hash d.given d.places old.logged.executor

  abbrev pub begun_in : Scene K V
  begun_in = record run.stands.scene { makers = with_at run.stands.scene.makers d.caller (Some begun_as) }

  small_mask : d.given.mask + 1 < 2 ^ 64
  small_mask = let few = holds.counts.processors in let half = d.is_given.mask.2 in omega (arith, few, half)

  pub begun_shown : IsShown same hash run.stands.name (moment log) d.began begun_in
  begun_shown =
      d.begins same hash run.stands.name (moment log) run.stands.scene run.stands.shown holds.lawful (subst IsPowerOfTwo (sym d.is_given.initial) d.first.0) d.is_given.batches small_mask d.some (λ l. d.first.1)

  -- its caller made none before
  pub none_begun : run.stands.scene.makers d.caller ≡ None
  none_begun =
      subst (λ (n : ℕ). run.stands.scene.makers n ≡ None) (sym d.fresh) (no_making_yet same hash old.logged.executor run.stands.scene run.stands.shown.is_at 0 (omega arith))
