-- An event after which executor, notes and callers are as they were: the run goes on with it, in the same scene, if it is legal.
use Rattle.std.specs.Prelude.{◌≡◌, ℕ, Bool, List, [], ◌∷◌}
use Rattle.std.proofs.Common.{ap, refl, subst, sym, ◌∙◌}
use Rattle.run_schedules.specs.Schedules.After.{moment, slots_on}
use Rattle.run_schedules.specs.Schedules.Entry.{Entry}
use Rattle.run_schedules.specs.Schedules.InTurn.{HasRightOutcome}
use Rattle.run_schedules.specs.Schedules.Terms.{Terms}
use Rattle.play_lists.specs.Given.EffectsKnown.{known}
use Rattle.play_stepping.specs.Given.SeizeWorld.{SlotsTaken}
use Rattle.play_stepping.specs.Given.MomentsWhole.{RefinesWhole}
use Rattle.play_lists.specs.Given.KeptKept.{RefinesKept}
use Rattle.run_legal.proofs.Come.{events_bring_things}
use Rattle.run_legal.specs.CallEvents.{IsLegalBut}
use Rattle.run_legal.specs.Carried.{RefinesRun}
use Rattle.play_stepping.specs.Given.ReclaimsLeft.{LeftWithEndings}
use Rattle.play_stepping.specs.Given.LoggedShown.{IsShown}
use Rattle.play_stepping.specs.Given.LoggedDeclared.logged.Logged.{Logged}
use Rattle.play_stepping.specs.Given.SchedulerPlayed.{IsPlayed}
use Rattle.play_stepping.specs.Given.ExecutorDeclared.caller.NamedCaller.{NamedCaller}
use Rattle.play_stepping.specs.Given.SchedulerDeclared.scheduler.Scheduler.{Scheduler}
use Rattle.play_events.proofs.Folded.Steps.{idle_in_order}
use Rattle.play_events.proofs.Events.OfCalls.Worth.{SaidIn, have_values_then}
use Rattle.play_events.specs.Events.OfCalls.{HaveShards, HaveValues, Runs, RunsOn}
use Rattle.play_events.proofs.Events.OfCalls.Scenes.{AreNamed, its_named, stands_in}
use Rattle.play_events.proofs.Events.Remaining.{counted_in}
use Rattle.play_events.proofs.Events.Reached.{reached_by}
use Rattle.play_stepping.specs.Given.ExecutorIsThere.{IsThere}

module _ {K V S : Type 0} (same : K → K → Bool) (hash : K → ℕ) (terms : Terms) (log : List (Entry K V)) (old new : Scheduler K V S) (runs : Runs same hash terms log old) (logged_is : new.logged ≡ old.logged)
    (calls_are : new.calls ≡ old.calls) (e : Entry K V) (nothing : e.effects ≡ []) (legal : IsLegalBut same terms log e) (run : RefinesRun same runs.stands.name terms (e ∷ log) (known old.logged.notes) runs.stands.scene)
    (said : SaidIn (moment log).calls (moment (e ∷ log)).calls) (plays : IsPlayed same hash terms (e ∷ log) new) (right : HasRightOutcome terms log e) (no_slot : slots_on e.outcome (moment log).slots ≡ (moment log).slots) where
  is_at : IsThere same hash new.logged.executor runs.stands.scene
  is_at = subst (λ (l : Logged K V S). IsThere same hash l.executor runs.stands.scene) (sym logged_is) runs.stands.shown.is_at

  left : LeftWithEndings new.logged.executor.roots runs.stands.scene.world runs.stands.scene.maps runs.stands.scene.makers runs.stands.scene.enders runs.stands.shown.counted.remains.lists
  left =
      subst (λ (l : Logged K V S). LeftWithEndings l.executor.roots runs.stands.scene.world runs.stands.scene.maps runs.stands.scene.makers runs.stands.scene.enders runs.stands.shown.counted.remains.lists)
      (sym logged_is) runs.stands.shown.counted.remains.left

  shown : IsShown same hash runs.stands.name (moment (e ∷ log)) new.logged runs.stands.scene
  shown = record {
    is_at = is_at;
    shows = subst (λ (l : Logged K V S). RefinesWhole same runs.stands.name (moment (e ∷ log)) (known l.notes) runs.stands.scene) (sym logged_is) run.calls.whole;
    kept = subst (λ (l : Logged K V S). RefinesKept runs.stands.name (moment (e ∷ log)) (known l.notes) runs.stands.scene) (sym logged_is) run.calls.kept;
    counted = counted_in same hash terms (moment (e ∷ log)) new plays runs.stands.scene is_at runs.stands.shown.counted.remains.lists left;
  }

  pub as_before : RunsOn same hash terms log e new
  as_before = record {
    legal = legal;
    hands = idle_in_order log e nothing;
    runs = record {
      stands = stands_in same hash terms (moment (e ∷ log)) new plays runs.stands.name runs.stands.scene shown
          (subst (λ (cs : List (NamedCaller V)). AreNamed runs.stands.name cs) (sym calls_are) (its_named same hash terms (moment log) old runs.stands));
      shows = subst (λ (l : Logged K V S). RefinesRun same runs.stands.name terms (e ∷ log) (known l.notes) runs.stands.scene) (sym logged_is) run;
      come = events_bring_things K V terms log e runs.come legal.life.finds;
      values = subst (λ (cs : List (NamedCaller V)). HaveValues (moment (e ∷ log)) runs.stands.scene cs) (sym calls_are)
          (have_values_then (moment log) (moment (e ∷ log)) said runs.stands.scene runs.stands.scene refl old.calls runs.values);
      taken = subst (SlotsTaken runs.stands.scene.world.memory) (sym no_slot) runs.taken;
      size = ap (λ (l : Logged K V S). l.executor.batch_size) logged_is ∙ runs.size;
      shards = subst (λ (l : Logged K V S). HaveShards terms l.executor) (sym logged_is) runs.shards;
      reached = reached_by same hash terms log e old new right plays (ap (λ (l : Logged K V S). known l.notes) logged_is) runs.reached;
    };
  }
