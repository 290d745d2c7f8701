-- A call begins: the event that begins it is legal, and the run goes on with it; and an event that goes on with it, too, is in its midst then.
use Rattle.std.specs.Prelude.{◌≡◌, ◌||◌, cond, ℕ, Bool, true, false, List, [], ◌∷◌, Option, Some, None}
use Rattle.std.specs.List.{AllByRecursion, list_any}
use Rattle.std.proofs.Common.{refl, ap, sym, subst, ◌∙◌, inl, inr}
use Rattle.play_stepping.specs.Given.SeizeWorld.{Rests}
use Rattle.run_schedules.specs.Runs.Same.{is_same}
use Rattle.run_schedules.specs.declared.call.Call.{Call}
use Rattle.run_schedules.specs.declared.call.Call.TheVariants.{Clear, Len, On, Reserve, Retain, Walk}
use Rattle.run_schedules.specs.declared.call.OneKey.{OneKey}
use Rattle.run_schedules.specs.declared.call.OneKey.TheVariants.{Get, GetKeyValue, ContainsKey, Insert, TryInsert, TryInsertWith, GetOrInsert, GetOrInsertWith, Update, UpdateOrInsert, UpdateOrInsertWith, Compute, Remove, RemoveEntry, RemoveIf}
use Rattle.run_schedules.specs.declared.event.Event.TheVariants.{Begin}
use Rattle.run_schedules.specs.declared.outcome.Outcome.TheVariants.{Goes}
use Rattle.run_schedules.specs.Schedules.After.{moment}
use Rattle.run_schedules.specs.Schedules.Beginning.{fresh_call, with_call}
use Rattle.run_schedules.specs.Schedules.Entry.{Entry}
use Rattle.run_schedules.specs.Schedules.InTurn.{HasRightOutcome}
use Rattle.run_schedules.specs.Schedules.Moment.{UnderWay as CallThere, Moment}
use Rattle.run_schedules.specs.Schedules.Terms.{Terms}
use Rattle.run_schedules.specs.Schedules.Views.{call_of, number_of}
use Rattle.play_stepping.specs.Given.CallersTogether.{UnderWay}
use Rattle.play_lists.specs.Given.EffectsKnown.{Known, known}
use Rattle.play_lists.specs.Given.FinishesMaps.{Standing}
use Rattle.play_lists.specs.Given.FollowsCalling.{NoneNamed}
use Rattle.play_lists.specs.Given.HistoriesAsCalled.{IsBegunAs}
use Rattle.play_stepping.specs.Given.RawDeclared.machines.machine.Machine.{Machine}
use Rattle.play_lists.specs.Given.FinishesMachines.{machine_of}
use Rattle.play_lists.proofs.Given.FollowsCalling.{apart_back, is_same_refl}
use Rattle.play_stepping.proofs.Given.HandsAsking.{which}
use Rattle.run_legal.specs.Given.PromisesMeanwhile.{BeginsToLook}
use Rattle.play_stepping.specs.Given.PurposesPurposes.{IsFor}
use Rattle.run_legal.proofs.Come.{events_bring_things}
use Rattle.run_legal.specs.Between.{IsBegunRight}
use Rattle.run_legal.specs.CallEvents.{IsLegalBut}
use Rattle.run_legal.specs.Carried.{RefinesRun}
use Rattle.run_legal.proofs.Begun.{begun_events_end}
use Rattle.run_legal.proofs.Over.{runs_by_other_names}
use Rattle.play_stepping.specs.Given.LoggedShown.{IsCounted, IsShown}
use Rattle.play_stepping.proofs.Given.RowsFacts.{row_rests}
use Rattle.play_stepping.specs.Given.SchedulerPlayed.{HasBegun, IsPlayed, IsUnderWay}
use Rattle.play_stepping.specs.Given.NamedSeen.{Seen, is_named}
use Rattle.play_stepping.specs.Given.ExecutorDeclared.caller.NamedCaller.{NamedCaller}
use Rattle.play_stepping.specs.Given.SchedulerDeclared.scheduler.Scheduler.{Scheduler}
use Rattle.play_stepping.proofs.Given.SchedulerBegins as beginning
use Rattle.play_stepping.proofs.Given.NamedCalled.{begins_so, begun_call, is_begun_for, is_called, its_machine}
use Rattle.play_stepping.proofs.Given.SchedulerRights.{quiet}
use Rattle.play_lists.specs.Given.ValuesValues.{KeepsValue}
use Rattle.play_lists.proofs.Given.ValuesValues.{values_begin}
use Rattle.play_events.proofs.Events.OfCalls.Worth.{SaidIn, event_says, have_values_then}
use Rattle.play_events.specs.Events.OfCalls.{HaveShards, HaveValues, IsWorth, Runs, RunsOn}
use Rattle.play_events.proofs.Events.OfCalls.Scenes.{AreNamed, stands_in}
use Rattle.play_events.proofs.Events.Remaining.{counted_in}
use Rattle.play_events.proofs.Events.Reached.{reached_by}
use Rattle.play_lists.specs.Given.ScenesBeginning.{Begins}
use Rattle.play_lists.specs.Given.ScenesReplying.{scene_with}
use Rattle.play_lists.specs.Given.ScenesScene.{HasCall, Scene, slot_of}
use Rattle.play_stepping.specs.Given.ExecutorIsThere.{held_by}
use Rattle.play_stepping.proofs.Given.General.{same_some as the}

-- what is under way then is a call as it was called
module _ {K V : Type 0} (same : K → K → Bool) (st : Standing K) (i : ℕ) where
  begun_as : (call : Call K V) → IsBegunAs (begun_call same st i call) call
  begun_as (On one) = tt
  begun_as (Reserve more) = tt
  begun_as Clear = (refl, refl)
  begun_as Retain = (refl, refl)
  begun_as Len = tt
  begun_as Walk = (refl, refl)

  begun_for : (call : Call K V) → IsFor (begun_call same st i call) call
  begun_for (On one) = tt
  begun_for (Reserve more) = refl
  begun_for Clear = refl
  begun_for Retain = refl
  begun_for Len = tt
  begun_for Walk = refl

  key_looks : (one : OneKey K V) → BeginsToLook K V same (begun_call same st i (On one)) (On one)
  key_looks (Get k) looks = (_, _, refl, refl, refl)
  key_looks (GetKeyValue k) looks = (_, _, refl, refl, refl)
  key_looks (ContainsKey k) looks = (_, _, refl, refl, refl)
  key_looks (Insert k v) looks = absurd (cc looks)
  key_looks (TryInsert k v) looks = absurd (cc looks)
  key_looks (TryInsertWith k) looks = absurd (cc looks)
  key_looks (GetOrInsert k v) looks = absurd (cc looks)
  key_looks (GetOrInsertWith k) looks = absurd (cc looks)
  key_looks (Update k) looks = absurd (cc looks)
  key_looks (UpdateOrInsert k v) looks = absurd (cc looks)
  key_looks (UpdateOrInsertWith k) looks = absurd (cc looks)
  key_looks (Compute k) looks = absurd (cc looks)
  key_looks (Remove k) looks = absurd (cc looks)
  key_looks (RemoveEntry k) looks = absurd (cc looks)
  key_looks (RemoveIf k) looks = absurd (cc looks)

  begun_to_look : (call : Call K V) → BeginsToLook K V same (begun_call same st i call) call
  begun_to_look (On one) looks = key_looks one looks
  begun_to_look (Reserve more) looks = absurd (cc looks)
  begun_to_look Clear looks = absurd (cc looks)
  begun_to_look Retain looks = absurd (cc looks)
  begun_to_look Len looks = absurd (cc looks)
  begun_to_look Walk looks = absurd (cc looks)

  begun_right : (call : Call K V) → IsBegunRight same (begun_call same st i call) call
  begun_right call = record { called = is_called same st i call; given = is_begun_for same st i call; swept = begun_as call; aim = begun_for call; looks = begun_to_look call }

module _ {K V S : Type 0} (same : K → K → Bool) (hash : K → ℕ) (terms : Terms) (log : List (Entry K V)) (old : Scheduler K V S) (runs : Runs same hash terms log old) (own guard on : List ℕ) (call : Call K V)
    (new : Scheduler K V S) (led : HasBegun same hash own guard on call old new) where
  abbrev m : Moment K V
  m = moment log

  abbrev pub i : ℕ
  i = beginning.i same hash terms m old runs.stands own guard on call led.free led.slot led.lives led.number led.setting led.found

  abbrev pub its : (number_of on m ≡ Some led.number) × (standing : Standing K) × (runs.stands.scene.maps led.number ≡ Some standing) × (standing.setting ≡ led.setting)
  its = beginning.its same hash terms m old runs.stands own guard on call led.free led.slot led.lives led.number led.setting led.found

  abbrev pub st : Standing K
  st = its.1

  abbrev pub u : UnderWay K V K
  u = begun_call same st i call

  abbrev pub names : ℕ → List ℕ
  names = beginning.names same hash terms m old runs.stands own guard on call led.free led.slot led.lives led.number led.setting led.found new.logged led.leads led.caller led.is led.numbered

  abbrev pub then_at : Scene K V
  then_at = scene_with led.number i u runs.stands.scene

  -- it is shown as it begins, by the name that its caller has then
  pub shown_begun : IsShown same hash names (with_call own guard call (Some led.number) m) new.logged then_at
  shown_begun = beginning.shown same hash terms m old runs.stands own guard on call led.free led.slot led.lives led.number led.setting led.found new.logged led.leads led.caller led.is led.numbered

  none_yet : (n : ℕ) → runs.stands.scene.calls n i ≡ None
  none_yet = beginning.none_yet same hash terms m old runs.stands own guard on call led.free led.slot led.lives led.number led.setting led.found new.logged led.leads led.caller led.is led.numbered

  pub name_here : names i ≡ own
  name_here = beginning.name_here same hash terms m old runs.stands own guard on call led.free led.slot led.lives led.number led.setting led.found new.logged led.leads led.caller led.is led.numbered

  pub under_here : then_at.calls led.number i ≡ Some u
  under_here = beginning.here_then same hash terms m old runs.stands own guard on call led.free led.slot led.lives led.number led.setting led.found new.logged led.leads led.caller led.is led.numbered

  pub at_slot : slot_of i ≡ led.slot
  at_slot = beginning.at_slot same hash terms m old runs.stands own guard on call led.free led.slot led.lives led.number led.setting led.found

  name_there : (j : ℕ) → HasCall runs.stands.scene j → names j ≡ runs.stands.name j
  name_there j (n, x, here) =
      beginning.name_then same hash terms m old runs.stands own guard on call led.free led.slot led.lives led.number led.setting led.found new.logged led.leads led.caller led.is led.numbered j
      (beginning.not_it same hash terms m old runs.stands own guard on call led.free led.slot led.lives led.number led.setting led.found new.logged led.leads led.caller led.is led.numbered n j x here)

  -- the run goes on by those names
  pub run_named : RefinesRun same names terms log (known old.logged.notes) runs.stands.scene
  run_named = runs_by_other_names K V same runs.stands.name names terms log (known old.logged.notes) runs.stands.scene name_there runs.shows

  pub free_named : NoneNamed names (names i) runs.stands.scene
  free_named n j x here =
      ap (λ (l : List ℕ). is_same l (names j)) name_here ∙ ap (λ (l : List ℕ). is_same own l) (name_there j (n, x, here))
      ∙ beginning.none_named same hash terms m old runs.stands own led.free n j x here

  pub row_here : runs.stands.scene.world.row i ≡ Rests
  row_here = row_rests same hash old.logged.executor runs.stands.scene runs.stands.shown.is_at i (runs.stands.rests i none_yet)

  pub begins_here : Begins same st i u
  begins_here = begins_so same st i (runs.stands.shown.is_at.held.together.makings.standing.fit led.number st its.2).0 call

  pub right_here : IsBegunRight same u call
  right_here = begun_right same st i call

  -- each caller has its name
  pub named_here : AreNamed names new.calls
  named_here = subst (AreNamed names) (sym led.items)
      (ap names led.numbered ∙ name_here ∙ sym (ap (λ (x : Seen). x.name) led.is), others old.calls runs.stands.calls.each)
    where
      others : (ds : List (NamedCaller V)) → AllByRecursion (IsUnderWay runs.stands.name runs.stands.scene old.there) ds → AreNamed names ds
      others [] all = tt
      others (d ∷ ds) all = (name_there d.number (d.map, all.0.0, all.0.1) ∙ all.0.2, others ds all.1)

  pub notes_here : known new.logged.notes ≡ known old.logged.notes
  notes_here = ap known led.notes

  -- the moment at which it has begun
  abbrev pub then_m : Moment K V
  then_m = with_call own guard call (Some led.number) m

  map_here : led.caller.map ≡ led.number
  map_here = ap (λ (z : Seen). z.map) led.is

  caller_named : led.caller.name ≡ own
  caller_named = ap (λ (z : Seen). z.name) led.is

  -- there is nothing yet that its caller must keep
  pub own_worth : (value : Option V) → KeepsValue call [] (machine_of u) value
  own_worth value = subst (λ (x : Machine K V K). KeepsValue call [] x value) (sym (its_machine same st i call)) (values_begin K V _ st.hash call value)

  first_worth : IsWorth then_m then_at led.caller
  first_worth x here c is =
      let x_is = the x u (sym here ∙ ap (λ (n : ℕ). then_at.calls n led.caller.number) map_here ∙ ap (λ (j : ℕ). then_at.calls led.number j) led.numbered ∙ under_here) in
      let c_is = the c (fresh_call own guard call led.number m.events) (sym is ∙ ap (λ (l : List ℕ). call_of l then_m) caller_named
      ∙ ap (λ (q : Bool). cond q (Some (fresh_call own guard call led.number m.events)) (call_of own m)) (is_same_refl own)) in
      subst (λ (y : CallThere K V). KeepsValue y.call y.replies (machine_of x) led.caller.value) (sym c_is)
      (subst (λ (y : UnderWay K V K). KeepsValue call [] (machine_of y) led.caller.value) (sym x_is) (own_worth led.caller.value))

  -- and others keep what they must
  pub olds_worth : HaveValues then_m then_at old.calls
  olds_worth = by old.calls led.free runs.stands.calls.each runs.values
    where
      one : (d : NamedCaller V) → is_named own d ≡ false → IsUnderWay runs.stands.name runs.stands.scene old.there d → IsWorth m runs.stands.scene d → IsWorth then_m then_at d
      one d other way worth x here c is =
          worth x
          (elim (which runs.stands.scene.calls led.number i (Some u) d.map d.number x here) as (λ _. runs.stands.scene.calls d.map d.number ≡ Some x) [
            | inl at ↦ absurd (let none = ap (runs.stands.scene.calls d.map) at.1 ∙ none_yet d.map in let some = way.1 in cc (none, some))
            | inr apart ↦ apart.1
          ]) c
          (sym (ap (λ (q : Bool). cond q (Some (fresh_call own guard call led.number m.events)) (call_of d.name m)) (apart_back d.name own other)) ∙ is)

      by : (ds : List (NamedCaller V)) → list_any (is_named own) ds ≡ false → AllByRecursion (IsUnderWay runs.stands.name runs.stands.scene old.there) ds → HaveValues m runs.stands.scene ds → HaveValues then_m then_at ds
      by [] free ways all = tt
      by (d ∷ ds) free ways all = both (is_named own d) refl free (by ds)
        where
          both : (q : Bool) → is_named own d ≡ q → (q || list_any (is_named own) ds) ≡ false
              → (list_any (is_named own) ds ≡ false → AllByRecursion (IsUnderWay runs.stands.name runs.stands.scene old.there) ds → HaveValues m runs.stands.scene ds → HaveValues then_m then_at ds)
              → HaveValues then_m then_at (d ∷ ds)
          both true e f ih = absurd (cc f)
          both false e f ih = (one d e ways.0 all.0, ih f ways.1 all.1)

  -- maps are as they were, and so is the size of batches
  module _ (on_size : new.logged.executor.batch_size ≡ old.logged.executor.batch_size) where
    pub shards_here : HaveShards terms new.logged.executor
    shards_here n setting is = runs.shards n setting (sym (runs.stands.shown.is_at.maps n) ∙ shown_begun.is_at.maps n ∙ is)

    -- the event by which it just begins
    module _ (right : HasRightOutcome terms log (quiet (Begin own guard on call) Goes)) (plays : IsPlayed same hash terms (quiet (Begin own guard on call) Goes ∷ log) new) where
      abbrev e : List ℕ → Entry K V
      e x = quiet (Begin x guard on call) Goes

      goes_on : IsLegalBut same terms log (e own) × RefinesRun same names terms (e own ∷ log) (known old.logged.notes) then_at
      goes_on =
          subst (λ (x : List ℕ). IsLegalBut same terms log (e x) × RefinesRun same names terms (e x ∷ log) (known old.logged.notes) then_at) name_here
          (begun_events_end K V same (λ map. hash) names terms log (known old.logged.notes) runs.stands.scene (held_by old.logged.executor) (held_by new.logged.executor) runs.stands.shown.is_at.held run_named led.number i st its.2 u call
          guard begins_here right_here free_named row_here shown_begun.is_at.held on its.0 0 (subst (λ (x : List ℕ). HasRightOutcome terms log (e x)) (sym name_here) right))

      run_then : RefinesRun same names terms (e own ∷ log) (known new.logged.notes) then_at
      run_then = subst (λ (k : Known). RefinesRun same names terms (e own ∷ log) k then_at) (sym notes_here) goes_on.1

      counted_here : IsCounted (moment (e own ∷ log)) new.logged then_at
      counted_here =
          counted_in same hash terms (moment (e own ∷ log)) new plays then_at shown_begun.is_at shown_begun.counted.remains.lists shown_begun.counted.remains.left

      values : HaveValues (moment (e own ∷ log)) then_at new.calls
      values =
          have_values_then then_m (moment (e own ∷ log))
          (subst (λ (o : Option ℕ). SaidIn (with_call own guard call o m).calls (moment (e own ∷ log)).calls) its.0 (event_says (e own) m tt)) then_at then_at refl new.calls
          (subst (HaveValues then_m then_at) (sym led.items) (first_worth, olds_worth))

      pub begun_on : RunsOn same hash terms log (e own) new
      begun_on = record {
        legal = goes_on.0;
        hands = tt;
        runs = record {
          stands = stands_in same hash terms (moment (e own ∷ log)) new plays names then_at (record { is_at = shown_begun.is_at; shows = run_then.calls.whole; kept = run_then.calls.kept; counted = counted_here }) named_here;
          shows = run_then;
          come = events_bring_things K V terms log (e own) runs.come goes_on.0.life.finds;
          values = values;
          taken = runs.taken;
          size = on_size ∙ runs.size;
          shards = shards_here;
          reached = reached_by same hash terms log (e own) old new right plays notes_here runs.reached;
        };
      }
