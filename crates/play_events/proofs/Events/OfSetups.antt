-- An event that sets something up, shows the tables of a map, or forgets a guard keeps its promises, and the run goes on with it.
use Rattle.std.specs.Prelude.{◌≡◌, ◌==◌, ℕ, Bool, true, false, not, MatchBool, List, [], ◌∷◌, Result, Ok, Err, IfOk, is_some}
use Rattle.std.proofs.Common.{refl, sym, ap, subst, ◌∙◌}
use Rattle.play_stepping.specs.Given.SeizeWorld.{World}
use Rattle.play_lists.specs.Given.TablesDeclared.node.Node.{Node}
use Rattle.run_schedules.specs.Given.SeizeWordsDeclared.fault.Fault.TheVariants.{Busy}
use Rattle.run_schedules.specs.declared.event.Event.{Event}
use Rattle.run_schedules.specs.declared.event.Event.TheVariants.{Begin, Choose, Collector, Forget, Go, Hash, Next, OneCall, Replied, ShowShape, Step, Stop}
use Rattle.run_schedules.specs.declared.outcome.Outcome.{Outcome}
use Rattle.run_schedules.specs.declared.outcome.Outcome.TheVariants.{Done, Refused, Shape}
use Rattle.run_schedules.specs.Schedules.After.{moment, slots_on}
use Rattle.run_schedules.specs.Schedules.Entry.{Entry}
use Rattle.run_schedules.specs.Schedules.Handing.{IsWhole}
use Rattle.run_schedules.specs.Schedules.InTurn.{HasRightOutcome, HasOutcome, InTurn, IsDone, IsKeptOut, IsShapeOf, chain_named}
use Rattle.run_schedules.specs.Schedules.InUse.{is_free_guard}
use Rattle.run_schedules.specs.Schedules.Moment.{Moment, TableThere}
use Rattle.run_schedules.specs.Schedules.Terms.{Terms}
use Rattle.run_schedules.specs.Schedules.Views.{map_of, number_of}
use Rattle.play_lists.specs.Given.EffectsKnown.{known}
use Rattle.run_legal.proofs.Come.{events_bring_things}
use Rattle.run_legal.specs.CallEvents.{IsLegalBut}
use Rattle.run_legal.specs.Carried.{RefinesRun}
use Rattle.run_legal.proofs.Choices.{choices_end}
use Rattle.run_legal.specs.Given.LoggedChoosing.{logged_chosen, scene_chosen}
use Rattle.play_stepping.specs.Given.LoggedShown.{IsShown}
use Rattle.run_legal.proofs.Given.LoggedChoosing.{choice_shown}
use Rattle.play_stepping.specs.Given.SchedulerPlayed.{IsPlayed, entry_of}
use Rattle.play_stepping.specs.Given.SchedulerWorks.{DidNothing, WorksOnSetup}
use Rattle.play_stepping.specs.Given.SchedulerDeclared.played.Played.{Played}
use Rattle.play_stepping.specs.Given.SchedulerDeclared.scheduler.Scheduler.{Scheduler}
use Rattle.play_stepping.proofs.Given.SchedulerRights.{entry, entry_is}
use Rattle.play_events.proofs.Events.OfCalls.Worth.{have_values_then, nobody_says}
use Rattle.play_events.specs.Events.Asked.{is_of_calls}
use Rattle.play_events.specs.Events.OfCalls.{Runs, RunsOn}
use Rattle.play_events.specs.Events.OfSetups.{PreservesSetup, is_of_setups}
use Rattle.play_events.proofs.Events.OfCalls.Scenes.{its_named, stands_in}
use Rattle.play_events.proofs.Events.OfRows.Lone.{alone_follows}
use Rattle.play_events.proofs.Events.OfRows.Quiet.{IsStill, still_keeps}
use Rattle.play_events.proofs.Events.Reached.{reached_by}
use Rattle.play_events.proofs.Events.Remaining.{counted_in}
use Rattle.play_lists.specs.Given.ScenesScene.{Scene}

-- One that did nothing is whole, whatever it came to,
module _ {K V : Type 0} (log : List (Entry K V)) (w : Moment K V) where
  whole_so : (its : Event K V) → is_of_setups its ≡ true → (outcome : Outcome V) → IsWhole its outcome [] (moment log) w
  whole_so (Collector setup) of (Refused Busy) = refl
  whole_so (Collector setup) of _ = tt
  whole_so (Hash by) of (Refused Busy) = refl
  whole_so (Hash by) of _ = tt
  whole_so (Choose choice) of (Refused Busy) = refl
  whole_so (Choose choice) of _ = tt
  whole_so (Forget guard) of (Refused Busy) = refl
  whole_so (Forget guard) of _ = tt
  whole_so (ShowShape name) of (Refused Busy) = refl
  whole_so (ShowShape name) of _ = tt
  whole_so _ of outcome = absurd (cc of)

-- and changes nothing.
module _ {K V : Type 0} (log : List (Entry K V)) (w : World (Node K V)) where
  setup_still : (its : Event K V) → is_of_setups its ≡ true → (outcome : Outcome V) (steps : ℕ) → IsStill log w (entry its outcome steps [])
  setup_still (Collector setup) of outcome steps = record { caller = refl; no_call = refl; changes = refl; left = refl; enters = tt; whole = whole_so log _ (Collector setup) of outcome; leaves = tt; reclaims = tt }
  setup_still (Hash by) of outcome steps = record { caller = refl; no_call = refl; changes = refl; left = refl; enters = tt; whole = whole_so log _ (Hash by) of outcome; leaves = tt; reclaims = tt }
  setup_still (Choose choice) of outcome steps = record { caller = refl; no_call = refl; changes = refl; left = refl; enters = tt; whole = whole_so log _ (Choose choice) of outcome; leaves = tt; reclaims = tt }
  setup_still (Forget guard) of outcome steps = record { caller = refl; no_call = refl; changes = refl; left = refl; enters = tt; whole = whole_so log _ (Forget guard) of outcome; leaves = tt; reclaims = tt }
  setup_still (ShowShape name) of outcome steps = record { caller = refl; no_call = refl; changes = refl; left = refl; enters = tt; whole = whole_so log _ (ShowShape name) of outcome; leaves = tt; reclaims = tt }
  setup_still _ of outcome steps = absurd (cc of)

  -- and takes no slot
  no_slot : (terms : Terms) (its : Event K V) → is_of_setups its ≡ true → (outcome : Outcome V) (steps : ℕ) → HasRightOutcome terms log (entry its outcome steps []) → slots_on outcome (moment log).slots ≡ (moment log).slots
  no_slot terms its of outcome steps right = by (moment log).is_closed its of right
    where
      busy : (o : Outcome V) → o ≡ Refused Busy → slots_on o (moment log).slots ≡ (moment log).slots
      busy o is = ap (λ (x : Outcome V). slots_on x (moment log).slots) is

      done : (q : Bool) (o : Outcome V) → InTurn q IsDone o → slots_on o (moment log).slots ≡ (moment log).slots
      done true o is = ap (λ (x : Outcome V). slots_on x (moment log).slots) is
      done false o is = busy o is

      shape : (q : Bool) (tables : List TableThere) (o : Outcome V) → InTurn q (IsShapeOf tables) o → slots_on o (moment log).slots ≡ (moment log).slots
      shape true tables (Shape shapes) is = refl
      shape true tables _ is = absurd is
      shape false tables o is = busy o is

      by : (out : Bool) (x : Event K V) → is_of_setups x ≡ true → MatchBool out (IsKeptOut x outcome) (HasOutcome terms log (moment log) (entry its outcome steps []) x outcome)
          → slots_on outcome (moment log).slots ≡ (moment log).slots
      by true (Collector setup) is_one to = busy outcome to
      by true (Hash kind) is_one to = busy outcome to
      by true (Choose choice) is_one to = busy outcome to
      by true (Forget guard) is_one to = busy outcome to
      by true (ShowShape name) is_one to = busy outcome to
      by false (Collector setup) is_one to = done ((moment log).events == 0) outcome to
      by false (Hash kind) is_one to = done (not (moment log).is_mapped) outcome to
      by false (Choose choice) is_one to = ap (λ (x : Outcome V). slots_on x (moment log).slots) to
      by false (Forget guard) is_one to = done (is_free_guard guard (moment log)) outcome to
      by false (ShowShape name) is_one to = shape (is_some (map_of name (moment log))) (chain_named (number_of name (moment log)) (moment log)) outcome to
      by out _ is_one to = absurd (cc is_one)

-- Once a choice has come the scheduler stands in the scene whose memory has it.
module _ {K V S : Type 0} (same : K → K → Bool) (hash : K → ℕ) (terms : Terms) (log : List (Entry K V)) (old : Scheduler K V S) (run : Runs same hash terms log old) (choice steps : ℕ) where
  abbrev name : ℕ → List ℕ
  name = run.stands.name

  abbrev s : Scene K V
  s = scene_chosen choice run.stands.scene

  abbrev chosen : Scheduler K V S
  chosen = record old { logged = logged_chosen choice old.logged }

  abbrev e : Entry K V
  e = entry (Choose choice) Done steps []

  shown : IsShown same hash name (moment log) (logged_chosen choice old.logged) s
  shown = choice_shown choice old.logged same hash name (moment log) run.stands.scene run.stands.shown

  module _ (after : IsPlayed same hash terms (e ∷ log) chosen) (right : HasRightOutcome terms log e) where
    it : IsLegalBut same terms log e × RefinesRun same name terms (e ∷ log) (known old.logged.notes) s
    it =
        choices_end K V same name terms log (known old.logged.notes) run.stands.scene run.shows choice (alone_follows same hash terms log old run (Choose choice) refl) shown.shows shown.kept steps
        right

    shown_then : IsShown same hash name (moment (e ∷ log)) (logged_chosen choice old.logged) s
    shown_then = record {
      is_at = shown.is_at;
      shows = it.1.calls.whole;
      kept = it.1.calls.kept;
      counted = counted_in same hash terms (moment (e ∷ log)) chosen after s shown.is_at shown.counted.remains.lists shown.counted.remains.left;
    }

    choice_on : RunsOn same hash terms log e chosen
    choice_on = record {
      legal = it.0;
      hands = tt;
      runs = record {
        stands = stands_in same hash terms (moment (e ∷ log)) chosen after name s shown_then (its_named same hash terms (moment log) old run.stands);
        shows = it.1;
        come = events_bring_things K V terms log e run.come it.0.life.finds;
        values = have_values_then (moment log) (moment (e ∷ log)) (nobody_says e (moment log) refl) run.stands.scene s refl old.calls run.values;
        taken = run.taken;
        size = run.size;
        shards = run.shards;
        reached = reached_by same hash terms log e old chosen right after refl run.reached;
      };
    }

module _ {K V S : Type 0} (same : K → K → Bool) (hash : K → ℕ) (terms : Terms) (log : List (Entry K V)) (old new : Scheduler K V S) (run : Runs same hash terms log old) (played : Played V) where
  abbrev KeepsIn : Entry K V → Scheduler K V S → Type 0
  KeepsIn x p = IsPlayed same hash terms (x ∷ log) p → HasRightOutcome terms log x → RunsOn same hash terms log x p

  -- one that did nothing keeps its promises,
  still_on : (its : Event K V) → is_of_setups its ≡ true → (new.calls ≡ old.calls) × DidNothing played old new → KeepsIn (entry_of its played) new
  still_on its of (calls, (none, logged)) =
      subst (λ (x : Entry K V). KeepsIn x new) (sym (entry_is its played played.outcome played.steps [] refl refl none))
      (λ after right. still_keeps same hash terms log old run (entry its played.outcome played.steps []) new refl
      (setup_still log run.stands.scene.world its of played.outcome played.steps) logged calls after right (no_slot log run.stands.scene.world terms its of played.outcome played.steps right))

  -- and so does one by which a choice has come.
  chosen_on : (choice : ℕ) → WorksOnSetup played old new (Choose choice) → KeepsIn (entry_of (Choose choice) played) new
  chosen_on choice (done, none, is) =
      subst (λ (p : Scheduler K V S). KeepsIn (entry_of (Choose choice) played) p) (sym is)
      (subst (λ (x : Entry K V). KeepsIn x (record old { logged = logged_chosen choice old.logged })) (sym (entry_is (Choose choice) played Done played.steps [] done refl none))
      (choice_on same hash terms log old run choice played.steps))

  setup_on : (its : Event K V) → is_of_setups its ≡ true → WorksOnSetup played old new its → KeepsIn (entry_of its played) new
  setup_on (Choose choice) of works = chosen_on choice works
  setup_on (Collector setup) of works = still_on (Collector setup) of works
  setup_on (Hash by) of works = still_on (Hash by) of works
  setup_on (Forget guard) of works = still_on (Forget guard) of works
  setup_on (ShowShape name) of works = still_on (ShowShape name) of works
  setup_on _ of works = absurd (cc of)

-- an event of a call is none of these
pub calls_set_none : {K V : Type 0} (its : Event K V) → is_of_calls its ≡ true → is_of_setups its ≡ false
calls_set_none (Begin caller guard name call) of = refl
calls_set_none (Step caller refuse) of = refl
calls_set_none (Go caller refuse) of = refl
calls_set_none (Replied caller reply) of = refl
calls_set_none (OneCall guard name call) of = refl
calls_set_none (Next caller) of = refl
calls_set_none (Stop caller) of = refl
calls_set_none _ of = absurd (cc of)

module _ {K V S : Type 0} (same : K → K → Bool) (hash : K → ℕ) (its : Event K V) (old new : Scheduler K V S) where
  -- One that is kept out did nothing,
  pub setup_out : (mapped : Bool) → new ≡ record old { is_mapped = mapped } → (played : Played V) → played.effects.items ≡ [] → PreservesSetup same hash its played old new
  setup_out mapped same_but played none = λ of terms log run after right.
      still_on same hash terms log old new run played its of (ap (λ (p : Scheduler K V S). p.calls) same_but, (none, ap (λ (p : Scheduler K V S). p.logged) same_but)) after right

  -- and of events of other kinds nothing is said.
  pub none_set : {X : Type 0} → is_of_setups its ≡ false → (result : Result (Played V) X) → IfOk result (λ played. PreservesSetup same hash its played old new)
  none_set none (Ok played) = λ of. absurd (cc (of, none))
  none_set none (Err x) = tt

-- So it is by what a function says of an event in this form.
module _ {K V S : Type 0} (same : K → K → Bool) (hash : K → ℕ) (its form : Event K V) (is : its ≡ form) (old new : Scheduler K V S) where
  pub setup_keeps : (played : Played V) → WorksOnSetup played old new form → PreservesSetup same hash its played old new
  setup_keeps played works =
      subst (λ (x : Event K V). PreservesSetup same hash x played old new) (sym is) (λ of terms log run after right. setup_on same hash terms log old new run played form of works after right)

  pub setup_keeps_if : {X : Type 0} (result : Result (Played V) X) → IfOk result (λ played. WorksOnSetup played old new form) → IfOk result (λ played. PreservesSetup same hash its played old new)
  setup_keeps_if (Ok played) works = setup_keeps played works
  setup_keeps_if (Err x) works = tt

  pub others_set : {X : Type 0} → is_of_setups form ≡ false → (result : Result (Played V) X) → IfOk result (λ played. PreservesSetup same hash its played old new)
  others_set none = none_set same hash its old new (ap is_of_setups is ∙ none)
