-- Once an event that is of no call is over, the run goes on in the scene to which it has led.
use Rattle.std.specs.Prelude.{◌≡◌, ◌≤◌, ℕ, Bool, false, List, ◌∷◌, None}
use Rattle.std.proofs.Common.{refl, sym, subst}
use Rattle.play_stepping.specs.Given.SeizeWorld.{SlotsTaken}
use Rattle.run_schedules.specs.declared.event.Event.{Event}
use Rattle.run_schedules.specs.declared.event.Event.TheVariants.{Go, Next, OneCall, Step}
use Rattle.run_schedules.specs.Schedules.After.{moment}
use Rattle.run_schedules.specs.Schedules.Entry.{Entry, caller_of}
use Rattle.run_schedules.specs.Schedules.InTurn.{HasRightOutcome}
use Rattle.run_schedules.specs.Schedules.Terms.{Terms}
use Rattle.play_lists.specs.Given.EffectsKnown.{known}
use Rattle.run_legal.specs.CallEvents.{IsLegalBut}
use Rattle.run_legal.specs.Carried.{RefinesRun}
use Rattle.run_legal.proofs.Come.{events_bring_things}
use Rattle.play_events.proofs.Folded.Steps.{none_in_order}
use Rattle.play_stepping.specs.Given.ReclaimsLeft.{LeftWithEndings}
use Rattle.play_stepping.specs.Given.ExecutorDeclared.caller.NamedCaller.{NamedCaller}
use Rattle.play_stepping.specs.Given.SchedulerPlayed.{IsPlayed}
use Rattle.play_stepping.specs.Given.SchedulerDeclared.scheduler.Scheduler.{Scheduler}
use Rattle.play_events.specs.Events.Asked.{is_of_calls}
use Rattle.play_events.specs.Events.OfCalls.{HaveShards, HaveValues, Runs, RunsOn}
use Rattle.play_events.proofs.Events.OfCalls.Scenes.{AreNamed, its_named, stands_in}
use Rattle.play_events.proofs.Events.OfCalls.Worth.{have_values_then, nobody_says}
use Rattle.play_events.proofs.Events.Reached.{reached_after}
use Rattle.play_events.proofs.Events.Remaining.{counted_in}
use Rattle.play_stepping.specs.Given.ExecutorIsThere.{IsThere}
use Rattle.play_lists.specs.Given.ScenesScene.{Scene}

-- an event of no call is by no caller
by_none : {K V : Type 0} (event : Event K V) → is_of_calls event ≡ false → caller_of event ≡ None
by_none (Step caller refuse) none = absurd (cc none)
by_none (Go caller refuse) none = absurd (cc none)
by_none (OneCall guard name call) none = absurd (cc none)
by_none (Next caller) none = absurd (cc none)
by_none _ none = refl

module _ {K V S : Type 0} (same : K → K → Bool) (hash : K → ℕ) (terms : Terms) (log : List (Entry K V)) (e : Entry K V) (old new : Scheduler K V S) (run : Runs same hash terms log old)
    (none : is_of_calls e.event ≡ false) (scene : Scene K V) (at_end : IsThere same hash new.logged.executor scene) (lists : ℕ → List ℕ)
    (left : LeftWithEndings new.logged.executor.roots scene.world scene.maps scene.makers scene.enders lists) (callers : new.calls ≡ old.calls) (calls : scene.calls ≡ run.stands.scene.calls) where
  named : AreNamed run.stands.name new.calls
  named = subst (λ (cs : List (NamedCaller V)). AreNamed run.stands.name cs) (sym callers) (its_named same hash terms (moment log) old run.stands)

  values : HaveValues (moment (e ∷ log)) scene new.calls
  values =
      subst (λ (cs : List (NamedCaller V)). HaveValues (moment (e ∷ log)) scene cs) (sym callers)
      (have_values_then (moment log) (moment (e ∷ log)) (nobody_says e (moment log) none) run.stands.scene scene calls old.calls run.values)

  -- Where callers are as they were, what ended maps left over is behind the roots that the moment says, and the event is legal, and shows in that scene what a run needs, the run goes on with it.
  pub over_runs : IsPlayed same hash terms (e ∷ log) new → HasRightOutcome terms log e → IsLegalBut same terms log e → RefinesRun same run.stands.name terms (e ∷ log) (known new.logged.notes) scene
      → SlotsTaken scene.world.memory (moment (e ∷ log)).slots → new.logged.executor.batch_size ≡ terms.batch_size → HaveShards terms new.logged.executor
      → (known old.logged.notes).buckets ≤ (known new.logged.notes).buckets → RunsOn same hash terms log e new
  over_runs so right legal shows taken size shards grows = record {
    legal = legal;
    hands = none_in_order log e (by_none e.event none);
    runs = record {
      stands = stands_in same hash terms (moment (e ∷ log)) new so run.stands.name scene (record {
        is_at = at_end;
        shows = shows.calls.whole;
        kept = shows.calls.kept;
        counted = counted_in same hash terms (moment (e ∷ log)) new so scene at_end lists left;
      }) named;
      shows = shows;
      come = events_bring_things K V terms log e run.come legal.life.finds;
      values = values;
      taken = taken;
      size = size;
      shards = shards;
      reached = reached_after same hash terms log e old new right so grows run.reached;
    };
  }
