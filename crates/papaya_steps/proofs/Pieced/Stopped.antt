-- An event by which a walk that is ready is given up: the list of acts goes on by that.
use Rattle.std.specs.Prelude.{◌≤◌, ◌==◌, ◌+◌, ◌⊎◌, Some, option_map, length, slice_get, if◌then◌else◌}
use Rattle.std.proofs.Common.{◌≡◌, ℕ, Bool, true, false, List, [], ◌∷◌, inl, inr, refl, sym, ap, subst, arith, ◌∙◌}
use Rattle.std.proofs.lemmas.Bool.{eq-eqb}
use Rattle.papaya_raw.specs.Machine.{machine_asked}
use Rattle.papaya_raw.specs.declared.machines.machine.Machine.{Machine}
use Rattle.play_events.specs.Given.FinishesMachines.{machine_of}
use Rattle.play_events.specs.Given.ScenesReplying.{unless_stopped}
use Rattle.play_events.specs.Given.ScenesScene.{Scene, slot_of}
use Rattle.run_schedules.specs.declared.event.Event.TheVariants as event
use Rattle.run_schedules.specs.declared.effect.Effect.{Effect}
use Rattle.run_schedules.specs.declared.outcome.Outcome.{Outcome}
use Rattle.run_schedules.specs.declared.outcome.Outcome.TheVariants as outcome
use Rattle.run_schedules.specs.Schedules.After.{moment}
use Rattle.run_schedules.specs.Schedules.Entry.{Entry}
use Rattle.run_schedules.specs.Schedules.Terms.{Terms, shards_of}
use Rattle.seize_words.specs.declared.fault.Fault.TheVariants as fault
use Rattle.run_effects.specs.Effects.Known.{known}
use Rattle.play_events.specs.Given.ExecutorIsThere.{IsThere, PreservesSettings, StaysGiven}
use Rattle.play_events.specs.Given.ExecutorReplying.{StopsThere}
use Rattle.play_events.specs.Given.ExecutorDeclared.executor.Executor.{Executor}
use Rattle.play_events.specs.Given.SchedulerPlayed.{HasStopped, IsPlayed, Stops as GivesUp, entry_of}
use Rattle.play_events.specs.Given.SchedulerDeclared.played.Played.{Played}
use Rattle.play_events.specs.Given.SchedulerDeclared.scheduler.Scheduler.{Scheduler}
use Rattle.play_events.proofs.Given.SchedulerHere.{here_at, read_here}
use Rattle.play_events.proofs.Given.SchedulerStopped.{asked_ready, ready_parts, shows_is}
use Rattle.play_events.specs.Given.NamedMachines.{IsAsFar}
use Rattle.play_events.specs.Given.NamedSeen.{is_ready as is_ready_there}
use Rattle.play_events.specs.Given.ExecutorDeclared.caller.NamedCaller.{NamedCaller}
use Rattle.play_events.specs.Given.ExecutorDeclared.caller.Stands.{Stands as HowFar}
use Rattle.play_events.specs.Given.ActsActs.{OfAsking, StopsCall}
use Rattle.play_events.specs.Given.ActsLists.{Course}
use Rattle.run_schedules.specs.Deeds.Deeds.{Stops, Entry as Act}
use Rattle.play_events.specs.Given.DrivesExecutors.{IsAct}
use Rattle.play_events.proofs.Given.DrivesExecutors.{executors_act}
use Rattle.play_events.specs.Given.PlayedPlay.{Calling, State, call_stopped}
use Rattle.play_events.proofs.Given.PlayedPlayedAs.{played_as}
use Rattle.play_events.specs.Given.GroupedCalled.{CallersAre, IsCalledAs, PlaysSo}
use Rattle.play_events.specs.Given.GroupedGrouping.{Names, number_called, refuses}
use Rattle.play_events.specs.Given.GroupedReach.{Reach}
use Rattle.play_events.proofs.Given.GroupedCallers.{call_beside, each_at, remove_one, removed_count, under}
use Rattle.play_events.proofs.Given.GroupedMidst.{InEvent, event_begins, event_ends, event_goes_on, at_rest}
use Rattle.play_events.proofs.Given.GroupedOneMore.{one_act}
use Rattle.play_events.proofs.Given.GroupedReached.{goes_at}
use Rattle.papaya_steps.specs.Pieced.SoFar.{ActsSoFar}
use Rattle.papaya_steps.proofs.Pieced.Quiet.{did_nothing, later_by}
use Rattle.papaya_steps.proofs.Pieced.Taken.{works_at}
use Rattle.seize_words.proofs.General.{same_some}

-- the entry of a call that is given up
abbrev entry : {K V : Type 0} → ℕ → Act K V
entry i = record { deed = Stops i; outcome = outcome.Done; effects = []; refused = false }

module _ {K V S : Type 0} (same : K → K → Bool) (by_hasher : S → K → ℕ) (terms : Terms) (log : List (Entry K V)) (own : List ℕ) (played : Played V) (old new : Scheduler K V S)
    (did : HasStopped same (by_hasher old.logged.executor.hasher) own old new) (d : NamedCaller V) (here : slice_get old.calls did.place ≡ Some d) (named : d.name ≡ own) (its : did.whose ≡ d)
    (machine : Machine K V K) (ready : (machine_asked machine).1 ≡ true) (is_stopped : did.stopped ≡ true) (later : (moment log).made + 0 ≤ (moment (entry_of (event.Stop own) played ∷ log)).made) where
  abbrev e : Executor K V S
  e = old.logged.executor

  abbrev e2 : Executor K V S
  e2 = new.logged.executor

  -- as it is played its call is under way no more
  module _ (x : State K V S) (c : Calling K V) (at : x.now.calls d.map d.number ≡ Some c) (machine_is : c.machine ≡ machine) where
    abbrev z : State K V S
    z = call_stopped d.number d.map x c

    asked : (machine_asked c.machine).1 ≡ true
    asked = ap (λ (v : Machine K V K). (machine_asked v).1) machine_is ∙ ready

    history_then : z.history ≡ entry d.number ∷ x.history
    history_then = ap (λ (b : Bool). if b then record { deed = Stops d.number; outcome = outcome.Done; effects = []; refused = false } ∷ x.history else x.history) asked

    callers_then : (names : Names) → CallersAre names old.calls x → CallersAre names new.calls z
    callers_then names so = subst (λ (l : List (NamedCaller V)). CallersAre names l z) (sym did.calls) (record {
      each = remove_one (λ a. a.number == d.number) (λ a. IsCalledAs names x a) (λ a. IsCalledAs names z a)
          (λ a other is. record {
            name = is.name;
            call = is.call;
            here = call_beside x.now.calls d.map d.number (unless_stopped (machine_asked c.machine).1 c) a.map a.number other ∙ is.here;
            kind = is.kind;
            value = is.value;
          }) old.calls did.place d here (eq-eqb d.number d.number refl) (so.once d.number) so.each;
      once = λ n. (let few = removed_count (λ (a : NamedCaller V). a.number == n) old.calls did.place in let one = so.once n in omega (arith, few, one));
    })

    -- so it is a piece of one entry
    piece : PlaysSo log old.calls x → played.outcome ≡ outcome.Done → played.steps ≡ 0 → played.effects.items ≡ [] → PlaysSo (entry_of (event.Stop own) played ∷ log) new.calls z
    piece so done none idle =
        let begins = event_begins log (event.Stop own) at_rest refl old.calls x so in
        let name : IsCalledAs so.names x d = each_at (λ a. IsCalledAs so.names x a) old.calls did.place d here so.callers.each in
        let on = event_goes_on log (event.Stop own) [] 0 at_rest old.calls new.calls x z begins (entry d.number) history_then (λ n l. refl) refl refl
        (subst (λ (n : List ℕ). number_called n so.names ≡ Some d.number) named name.name) (callers_then so.names so.callers) in
        event_ends log (event.Stop own) played.effects.items played.steps played.outcome new.calls z later
        (subst (λ (o : Outcome V). InEvent log (event.Stop own) played.effects.items played.steps o new.calls z) (sym done)
        (subst (λ (n : ℕ). InEvent log (event.Stop own) played.effects.items n outcome.Done new.calls z) (sym none)
        (subst (λ (l : List Effect). InEvent log (event.Stop own) l 0 outcome.Done new.calls z) (sym idle) on)))

  -- So the list goes on by it.
  pub stop_goes : (any : Course V same by_hasher e.batch_size e.roots slot_of) → StaysGiven e e2 → ((s : Scene K V) → IsThere same (by_hasher e.hasher) e s → option_map machine_of (s.calls d.map d.number) ≡ Some machine)
      → played.outcome ≡ outcome.Done → played.steps ≡ 0 → played.effects.items ≡ []
      → Reach same by_hasher e.hasher e.batch_size e.roots (shards_of terms) (PlaysSo log old.calls) e (known old.logged.notes)
      → Reach same by_hasher e.hasher e.batch_size e.roots (shards_of terms) (PlaysSo (entry_of (event.Stop own) played ∷ log) new.calls) e2 (known new.logged.notes)
  stop_goes any given has done none idle at =
      one_act same by_hasher (shards_of terms) e e2 given any (known old.logged.notes) (known new.logged.notes) (PlaysSo log old.calls) (PlaysSo (entry_of (event.Stop own) played ∷ log) new.calls)
      (StopsCall d.number d.map) (OfAsking did.stopped) (tt, tt) is (λ x so. tt) (λ value. value)
      (λ value aborts x y p stage there its_abort play knows so.
      (let came = played_as same by_hasher e.batch_size e.roots aborts x y (StopsCall d.number d.map) play in
      let machine_is : came.0.machine ≡ machine = same_some came.0.machine machine
      (sym (ap (option_map (λ (c : Calling K V). c.machine)) came.1) ∙ stage.scene.calls d.map d.number ∙ has p.0 there) in (
        ap (λ (w : State K V S). w.known) came.2 ∙ knows ∙ ap known (sym did.notes),
        subst (PlaysSo (entry_of (event.Stop own) played ∷ log) new.calls) (sym came.2) (piece x came.0 came.1 machine_is so done none idle),
      ))) at
    where
      is : (s : Scene K V) → IsThere same (by_hasher e.hasher) e s → IsAct same by_hasher e e2 s (StopsCall d.number d.map) (OfAsking did.stopped)
      is s there =
          let c = under machine_of (s.calls d.map d.number) machine (has s there) in
          (executors_act V same by_hasher e e2 s there given d.number).0.stop did.stopped
          (subst (λ (i : ℕ). StopsThere same (by_hasher e.hasher) i did.stopped s e e2) (ap (λ (a : NamedCaller V). a.number) its) (did.leads s there)) d.map c.0 c.1

-- The event by which it is given up, or is out of turn.
module _ {K V S : Type 0} (same : K → K → Bool) (by_hasher : S → K → ℕ) (any : (batch_size roots : ℕ) → Course V same by_hasher batch_size roots slot_of) (own : List ℕ) (played : Played V) (old new : Scheduler K V S)
    (idle : played.steps ≡ 0) (stops : GivesUp same (by_hasher old.logged.executor.hasher) own played old new) (given : PreservesSettings old.logged.executor new.logged.executor) (terms : Terms) (log : List (Entry K V))
    (stands : IsPlayed same (by_hasher old.logged.executor.hasher) terms log old) (in_turn : (moment log).is_closed ≡ false) (next : length old.logged.executor.maps.items ≡ (moment log).made)
    (next2 : length new.logged.executor.maps.items ≡ (moment (entry_of (event.Stop own) played ∷ log)).made) where
  abbrev Goes : Type 0
  Goes = ActsSoFar same by_hasher terms log old.logged old.calls → ActsSoFar same by_hasher terms (entry_of (event.Stop own) played ∷ log) new.logged new.calls

  pub stop_goes_on : (played.outcome ≡ outcome.Done) ⊎ (played.outcome ≡ outcome.Refused fault.Busy) → (played.outcome ≡ outcome.Refused fault.Busy → (new ≡ old) × (played.effects.items ≡ [])) → Goes
  stop_goes_on (inl done) busy at =
      let hash : K → ℕ = by_hasher old.logged.executor.hasher in
      let it = stops done in
      let placed = ready_parts same hash terms log old own stands it.0.place it.0.ready in
      let here = here_at same hash terms (moment log) old stands own it.0.place placed.0 in
      let its = read_here same hash terms (moment log) old stands own it.0.place here it.0.whose it.0.reads in
      let far_is = shows_is here.caller.stands (sym (ap is_ready_there here.at) ∙ placed.1) in
      let machine : Machine K V K = machine_of here.way.0 in
      let ready = asked_ready here.caller.kind machine (subst (λ (x : HowFar). IsAsFar here.caller.kind x machine) far_is here.way.4.0) in
      let led = subst (λ (x : NamedCaller V). StopsThere same hash x.number it.0.stopped stands.scene old.logged.executor new.logged.executor) its (it.0.leads stands.scene stands.shown.is_at) in
      let is_stopped = (led.1 here.caller.map here.way.0 here.way.1).0 ∙ ready in
      let works = works_at same hash terms (moment log) old stands it.0.place here.caller here.at in
      let same_machine : works.0 ≡ machine = same_some works.0 machine (sym works.1 ∙ sym (stands.shown.is_at.calls here.caller.map here.caller.number) ∙ ap (option_map machine_of) here.way.1) in
      goes_at same by_hasher (shards_of terms) (PlaysSo log old.calls) (PlaysSo (entry_of (event.Stop own) played ∷ log) new.calls) old.logged.executor new.logged.executor (known old.logged.notes) (known new.logged.notes)
      (λ course there. stop_goes same by_hasher terms log own played old new it.0 here.caller here.at here.named its machine ready is_stopped (later_by (event.Stop own) played old new log refl given next next2) course
      (given.0, given.1, given.2) (λ s is. is.calls here.caller.map here.caller.number ∙ works.1 ∙ ap Some same_machine) done idle it.1 there)
      terms.batch_size terms.roots (any terms.batch_size terms.roots) at
  stop_goes_on (inr is) busy at =
      did_nothing (event.Stop own) played old new same by_hasher idle (busy is).1 (ap (λ (p : Scheduler K V S). p.logged) (busy is).0) (ap (λ (p : Scheduler K V S). p.calls) (busy is).0) (λ m there. inl (ap refuses is)) terms log stands in_turn next next2 at
