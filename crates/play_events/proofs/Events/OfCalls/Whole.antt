-- An event by which a whole call begins that has no name, and goes on: it keeps its promises, and the run goes on with it.
use Rattle.std.specs.Prelude.{◌≡◌, ◌≢◌, ◌≤◌, ◌&&◌, ℕ, Bool, true, false, List, [], ◌∷◌, slice_get, Option, Some, option_map, if◌then◌else◌, filter, length}
use Rattle.std.proofs.Common.{refl, ap, sym, subst, ◌∙◌, inl}
use Rattle.std.proofs.lemmas.List.{append-nil}
use Rattle.std.specs.List.{AllByRecursion}
use Rattle.seize_acts.specs.Given.SeizeWaitingHeld.{count}
use Rattle.run_schedules.specs.Given.SeizeWordsDeclared.fault.Fault.TheVariants.{Busy}
use Rattle.play_stepping.specs.Given.SeizeWorld.{Rests}
use Rattle.run_schedules.specs.Runs.Present.{slot_of_guard}
use Rattle.run_schedules.specs.Runs.Stopped.{most_steps}
use Rattle.run_schedules.specs.declared.call.Call.{Call}
use Rattle.run_schedules.specs.declared.event.Event.{Event}
use Rattle.run_schedules.specs.declared.event.Event.TheVariants.{OneCall}
use Rattle.run_schedules.specs.declared.outcome.Outcome.TheVariants.{Refused}
use Rattle.run_schedules.specs.Schedules.After.{moment}
use Rattle.run_schedules.specs.Schedules.Beginning.{at_work, fresh_call, with_call}
use Rattle.run_schedules.specs.Schedules.Entry.{Entry, acted_on, nameless}
use Rattle.run_schedules.specs.Schedules.Model.{guard_or, sets_in, things_in}
use Rattle.run_schedules.specs.Schedules.InTurn.{HasRightOutcome}
use Rattle.run_schedules.specs.Schedules.Moment.{UnderWay as CallThere, Moment}
use Rattle.run_schedules.specs.Schedules.Terms.{Terms}
use Rattle.run_schedules.specs.Schedules.Views.{call_of, number_of}
use Rattle.play_lists.specs.Given.EffectsKnown.{Known, known}
use Rattle.run_schedules.specs.declared.effect.Thing.{Thing}
use Rattle.run_schedules.specs.Runs.Same.{is_same}
use Rattle.play_lists.specs.Given.FindsWithin.{AllIsInOrder}
use Rattle.play_lists.proofs.Given.FindsBegun.{all_begun}
use Rattle.run_legal.specs.Noted.{HaveCome}
use Rattle.run_legal.proofs.Come.{called}
use Rattle.run_legal.specs.CallEvents.{InCallEvent}
use Rattle.run_legal.specs.Carried.{IsSequential}
use Rattle.run_legal.proofs.CallBegins.{whole_calls_begin}
use Rattle.play_stepping.specs.Given.LoggedShown.{IsShown}
use Rattle.play_stepping.specs.Given.SchedulerPlayed.{HasBegun, IsPlayed, RefinesFor, entry_of}
use Rattle.play_stepping.specs.Given.NamedSeen.{Seen, is_named}
use Rattle.play_stepping.specs.Given.ExecutorDeclared.caller.NamedCaller.{NamedCaller}
use Rattle.play_stepping.specs.Given.SchedulerDeclared.played.Played.{Played}
use Rattle.play_stepping.specs.Given.SchedulerDeclared.scheduler.Scheduler.{Scheduler}
use Rattle.play_stepping.proofs.Given.SchedulerHeldTold.{its_guard}
use Rattle.play_stepping.specs.EventSteps.Stepping.{HasOutcomeOfKind, StepsHaveOutcome, OutcomeIsInCase, GoesAt, StepsCome}
use Rattle.play_stepping.proofs.EventSteps.RightSteps.{not_busy as never_busy}
use Rattle.play_stepping.proofs.Given.RowsLists.{all_so}
use Rattle.play_events.specs.Events.OfCalls.{HaveValues, IsWorth, Runs, RunsOn}
use Rattle.play_stepping.specs.Given.NeedsNeeds.{AreReached}
use Rattle.play_events.proofs.Events.OfCalls.Alone.{active_of, inside_of, no_row}
use Rattle.play_events.proofs.Events.OfCalls.Begun as begun
use Rattle.play_events.proofs.Events.OfCalls.Ends.{runs_on, tells_so}
use Rattle.play_events.proofs.Events.OfCalls.Found.{all_find, gone_find}
use Rattle.play_events.proofs.Events.OfCalls.InCase.{comes_in_case}
use Rattle.play_events.proofs.Events.OfCalls.Scenes.{stands_in}
use Rattle.play_events.proofs.Events.OfCalls.Steps.{HasCome, as_told, has_come}
use Rattle.play_events.proofs.Events.OfCalls.Words.{not_busy}
use Rattle.play_lists.specs.Given.ScenesScene.{slot_of}
use Rattle.play_stepping.specs.Given.ExecutorIsThere.{held_by}
use Rattle.play_stepping.proofs.Given.General.{same_some as the}

module _ {K V S : Type 0} (same : K → K → Bool) (hash : K → ℕ) (terms : Terms) (log : List (Entry K V)) (old : Scheduler K V S) (runs : Runs same hash terms log old)
    (guard on : List ℕ) (call : Call K V) (mid : Scheduler K V S) (led : HasBegun same hash nameless guard on call old mid)
    (on_size : mid.logged.executor.batch_size ≡ old.logged.executor.batch_size)
    (mid_stands : RefinesFor same hash terms (with_call nameless guard call (Some led.number) (moment log)) mid) where
  abbrev m : Moment K V
  m = moment log

  abbrev event : Event K V
  event = OneCall guard on call

  abbrev i : ℕ
  i = begun.i same hash terms log old runs nameless guard on call mid led

  abbrev map : ℕ
  map = led.number

  abbrev names : ℕ → List ℕ
  names = begun.names same hash terms log old runs nameless guard on call mid led

  name_is : names i ≡ nameless
  name_is = begun.name_here same hash terms log old runs nameless guard on call mid led

  -- the moment at which it has begun, and the call there
  abbrev pub m1 : Moment K V
  m1 = with_call (names i) guard call (Some map) m

  abbrev pub c : CallThere K V
  c = fresh_call (names i) guard call map m.events

  m1_is : m1 ≡ with_call nameless guard call (Some map) m
  m1_is = ap (λ (x : List ℕ). with_call x guard call (Some map) m) name_is

  -- no row is under way then, where calls came one after another
  no_rows : IsSequential event log → (j : ℕ) → runs.stands.scene.world.row j ≢ Rests → j ≡ i
  no_rows alone j goes = absurd (no_row same hash terms log old runs.stands event nameless refl alone led.free j goes)

  whole : (call_of (names i) m1 ≡ Some c)
      × InCallEvent same names terms log event m1 map i c 0 [] m1 (known old.logged.notes) (begun.then_at same hash terms log old runs nameless guard on call mid led)
      (begun.u same hash terms log old runs nameless guard on call mid led)
  whole =
      whole_calls_begin K V same (λ map. hash) names terms log (known old.logged.notes) runs.stands.scene (held_by old.logged.executor) (held_by mid.logged.executor) runs.stands.shown.is_at.held
      (begun.run_named same hash terms log old runs nameless guard on call mid led) map i (begun.st same hash terms log old runs nameless guard on call mid led)
      (begun.its same hash terms log old runs nameless guard on call mid led).2 (begun.u same hash terms log old runs nameless guard on call mid led) call guard
      (begun.begins_here same hash terms log old runs nameless guard on call mid led) (begun.right_here same hash terms log old runs nameless guard on call mid led)
      (begun.free_named same hash terms log old runs nameless guard on call mid led) (begun.row_here same hash terms log old runs nameless guard on call mid led)
      (begun.shown_begun same hash terms log old runs nameless guard on call mid led).is_at.held name_is on no_rows

  pub c_is : call_of (names i) m1 ≡ Some c
  c_is = whole.0

  -- the scheduler stands for that moment in the scene in which it has begun
  abbrev mid_in : RefinesFor same hash terms (with_call nameless guard call (Some map) m) mid
  mid_in =
      stands_in same hash terms (with_call nameless guard call (Some map) m) mid mid_stands names (begun.then_at same hash terms log old runs nameless guard on call mid led)
      (begun.shown_begun same hash terms log old runs nameless guard on call mid led) (begun.named_here same hash terms log old runs nameless guard on call mid led)

  under : (begun.then_at same hash terms log old runs nameless guard on call mid led).calls map i ≡ Some (begun.u same hash terms log old runs nameless guard on call mid led)
  under = begun.under_here same hash terms log old runs nameless guard on call mid led

  slot_is : (d : CallThere K V) → call_of (names i) m1 ≡ Some d → slot_of_guard d.guard m1.there ≡ slot_of i
  slot_is d is =
      let there = mid_in.shown.shows.all.shown.calls map i _ under in
      let named : call_of (names i) m1 ≡ Some there.0 = ap (λ (x : Moment K V). call_of (names i) x) m1_is ∙ there.1 in
      ap (λ (x : CallThere K V). slot_of_guard x.guard m1.there) (the d there.0 (sym is ∙ named))
      ∙ its_guard same hash terms (with_call nameless guard call (Some map) m) mid mid_in map i _ under

  -- its own caller has its name, and others keep their values
  own_named : is_named (names i) led.caller ≡ false → IsWorth m1 (begun.then_at same hash terms log old runs nameless guard on call mid led) led.caller
  own_named other = absurd (
      let yes = ap (is_same led.caller.name) name_is ∙ ap (λ (x : List ℕ). is_same x nameless) (ap (λ (z : Seen). z.name) led.is) in
      let no : is_named (names i) led.caller ≡ true = yes in cc (other, no))

  olds : AllByRecursion (λ (d : NamedCaller V). is_named (names i) d ≡ false → IsWorth m1 (begun.then_at same hash terms log old runs nameless guard on call mid led) d) old.calls
  olds =
      all_so (λ (d : NamedCaller V). IsWorth m1 (begun.then_at same hash terms log old runs nameless guard on call mid led) d)
      (λ (d : NamedCaller V). is_named (names i) d ≡ false → IsWorth m1 (begun.then_at same hash terms log old runs nameless guard on call mid led) d) (λ d worth other. worth) old.calls
      (subst (λ (v : Moment K V). HaveValues v (begun.then_at same hash terms log old runs nameless guard on call mid led) old.calls) (sym m1_is)
      (begun.olds_worth same hash terms log old runs nameless guard on call mid led))

  abbrev pub Come : Type 0
  Come = HasCome same hash names terms log event m1 map i c 0 0 [] mid

  pub start : Come
  start = record {
    caller = led.caller;
    at = ap (λ (l : List (NamedCaller V)). slice_get l 0) led.items;
    number = led.numbered;
    on_map = ap (λ (z : Seen). z.map) led.is;
    kind = ap (λ (z : Seen). z.kind) led.is;
    named = begun.named_here same hash terms log old runs nameless guard on call mid led;
    size = on_size ∙ runs.size;
    shards = begun.shards_here same hash terms log old runs nameless guard on call mid led on_size;
    reached = subst (AreReached m.slots) (sym (begun.notes_here same hash terms log old runs nameless guard on call mid led)) runs.reached;
    now = m1;
    things = subst (λ (xs : List Thing). HaveCome xs m1) (sym (append-nil (things_in log)))
        (subst (HaveCome (things_in log)) (sym m1_is) (called nameless guard call (Some map) (things_in log) m runs.come));
    scene = begun.then_at same hash terms log old runs nameless guard on call mid led;
    under = begun.u same hash terms log old runs nameless guard on call mid led;
    shown = subst (λ (x : Moment K V). IsShown same hash names x mid.logged (begun.then_at same hash terms log old runs nameless guard on call mid led)) (sym m1_is) (begun.shown_begun same hash terms log old runs nameless guard on call mid led);
    slot = slot_is;
    c_is = c_is;
    once = subst (λ (x : List ℕ). length (filter (is_named x) mid.calls) ≤ 1) (sym name_is) (mid_stands.calls.once nameless);
    worth = begun.own_worth same hash terms log old runs nameless guard on call mid led led.caller.value;
    others = subst (λ (l : List (NamedCaller V)). AllByRecursion (λ (d : NamedCaller V). is_named (names i) d ≡ false → IsWorth m1 (begun.then_at same hash terms log old runs nameless guard on call mid led) d) l)
        (sym led.items) (own_named, olds);
    midst = subst (λ (k : Known). InCallEvent same names terms log event m1 map i c 0 [] m1 k (begun.then_at same hash terms log old runs nameless guard on call mid led)
        (begun.u same hash terms log old runs nameless guard on call mid led)) (sym (begun.notes_here same hash terms log old runs nameless guard on call mid led)) whole.1;
    taken = runs.taken;
    hands = tt;
  }

  active : IsSequential event log → 1 ≤ count (slot_of i) (sets_in terms.batch_size log).active
  active alone =
      active_of same hash terms log old runs.stands runs.size (slot_of i)
      (inside_of same hash terms log old runs.stands guard (slot_of i) (led.lives ∙ ap Some (sym (begun.at_slot same hash terms log old runs nameless guard on call mid led))))
      (runs.shows.follows (first_of m.is_alone _ alone))
    where
      first_of : (a b : Bool) → (a && b) ≡ true → a ≡ true
      first_of true b is = refl
      first_of false b is = absurd (cc is)

  module _ (played : Played V) (new : Scheduler K V S) (come : StepsCome same hash 0 most_steps played.steps played.outcome [] played.effects.items mid new) (goes : GoesAt nameless 0 mid) where
    comes : StepsHaveOutcome same hash terms nameless 0 (with_call nameless guard call (Some map) m) played.steps played.outcome [] played.effects.items new
    comes = come.1 terms (with_call nameless guard call (Some map) m) nameless mid_stands goes

    call_at : call_of nameless (with_call nameless guard call (Some map) m) ≡ Some c
    call_at = subst (λ (x : List ℕ). call_of x (with_call x guard call (Some map) m) ≡ Some c) name_is c_is

    comes_as : HasOutcomeOfKind c.call played.outcome
    comes_as = subst (λ (x : CallThere K V). HasOutcomeOfKind x.call played.outcome) (the comes.call c (sym comes.call_is ∙ call_at)) comes.comes

    never : played.outcome ≡ Refused Busy → ⊥
    never = never_busy c.call played.outcome comes_as

    -- it has begun at that moment
    begins : at_work (entry_of event played) m ≡ m1
    begins =
        ap (λ (q : Bool). if q then m else with_call nameless guard call (number_of on m) m) (not_busy played.outcome never)
        ∙ ap (λ (o : Option ℕ). with_call nameless guard call o m) (begun.its same hash terms log old runs nameless guard on call mid led).0 ∙ sym m1_is

    acting_is : call_of nameless m1 ≡ Some c
    acting_is = ap (λ (x : Moment K V). call_of nameless x) m1_is ∙ call_at

    acts_on : acted_on event m1 ≡ Some map
    acts_on = ap (λ (o : Option (CallThere K V)). option_map (λ (x : CallThere K V). x.map) o) acting_is

    -- it is refused for the length of a table only in its case
    pub whole_in_case : OutcomeIsInCase terms log (entry_of event played)
    whole_in_case =
        let by = come.2 in
        let far_on = has_come same hash names terms log event m1 map i c 0 mid start by.0 by.2 by.3 by.4 in
        comes_in_case same hash names terms log event m1 map i c 0 c_is played by.0 by.2 by.3 new far_on by.5 begins acts_on

    module _ (left : HasRightOutcome terms log (entry_of event played)) (plays : IsPlayed same hash terms (entry_of event played ∷ log) new) where
      -- all is in order as it begins
      order : AllIsInOrder m1
      order = subst AllIsInOrder (begins) (all_begun terms log (entry_of event played) event played.outcome left runs.shows.order.0)

      pub whole_on : RunsOn same hash terms log (entry_of event played) new
      whole_on =
          let by = come.2 in
          let far_on = has_come same hash names terms log event m1 map i c 0 mid start by.0 by.2 by.3 by.4 in
          runs_on same hash names terms log event m1 map i c 0 c_is (known old.logged.notes) runs.stands.scene (begun.run_named same hash terms log old runs nameless guard on call mid led) runs.come played by.0
          by.2 by.3 new far_on by.5
          (tells_so same hash names terms log event m1 map i c 0 c_is (known old.logged.notes) runs.stands.scene (begun.run_named same hash terms log old runs nameless guard on call mid led) runs.come played by.0
          by.2 by.3 new far_on by.5 comes_as) begins
          acts_on (inl refl) by.1 tt never left refl
          (all_find same hash names terms log event m1 map i c 0 c_is order by.0 by.2 played.effects.items by.3 new far_on (as_told same hash by.5)
          (gone_find same hash names terms log event m1 map i c 0 c_is order mid start by.0 by.2 by.3 by.4))
          slot_so active plays
        where
          slot_so : slot_of_guard (guard_or (call_of nameless (at_work (entry_of event played) m))) (at_work (entry_of event played) m).there ≡ slot_of i
          slot_so =
              ap (λ (b : Moment K V). slot_of_guard (guard_or (call_of nameless b)) b.there) begins
              ∙ ap (λ (o : Option (CallThere K V)). slot_of_guard (guard_or o) m1.there) acting_is ∙ slot_is c c_is
