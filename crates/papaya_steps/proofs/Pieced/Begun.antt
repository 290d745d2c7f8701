-- An event by which a call begins, or one by which it begins and takes its steps: the list of acts goes on by that.
use Rattle.std.specs.Prelude.{zero, suc, ◌==◌, Some, None, option_map, slice_get, slice_index_or, if◌then◌else◌}
use Rattle.std.specs.List.{AllByRecursion}
use Rattle.std.proofs.Common.{◌≡◌, ℕ, Bool, true, false, List, [], ◌∷◌, refl, sym, ap, subst, ◌∙◌, inl}
use Rattle.std.proofs.lemmas.Bool.{ne_eqb}
use Rattle.run_schedules.specs.Runs.Present.{guard_of, living_slot}
use Rattle.play_events.specs.Given.FinishesMaps.{Standing}
use Rattle.play_events.specs.Given.ScenesScene.{slot_of}
use Rattle.run_schedules.specs.declared.call.Call.{Call}
use Rattle.run_schedules.specs.declared.effect.Effect.{Effect}
use Rattle.run_schedules.specs.declared.event.Event.{Event}
use Rattle.run_schedules.specs.declared.event.Event.TheVariants as event
use Rattle.run_schedules.specs.declared.outcome.Outcome.{Outcome}
use Rattle.run_schedules.specs.declared.outcome.Outcome.TheVariants as outcome
use Rattle.run_schedules.specs.Schedules.After.{moment}
use Rattle.run_schedules.specs.Schedules.Beginning.{with_call}
use Rattle.run_schedules.specs.Schedules.Entry.{Entry, nameless}
use Rattle.run_schedules.specs.Schedules.Terms.{Terms, shards_of}
use Rattle.run_schedules.specs.Schedules.Views.{number_of}
use Rattle.run_schedules.specs.Runs.Stopped.{most_steps}
use Rattle.seize_words.specs.declared.fault.Fault.TheVariants as fault
use Rattle.run_effects.specs.Effects.Known.{Known, known}
use Rattle.play_events.specs.Given.ExecutorIsThere.{PreservesSettings, StaysGiven}
use Rattle.play_events.specs.Given.ExecutorDeclared.executor.Executor.{Executor}
use Rattle.play_events.proofs.Given.ShedsKeptGiven.{given_on}
use Rattle.play_events.proofs.Given.ExecutorFresh.{caller_in, no_calls_yet, no_work}
use Rattle.play_events.specs.Given.SchedulerPlayed.{Began, BeginsSo, HasBegun, IsPlayed, IsUnderWayAs, AsFar, RefinesFor, entry_of}
use Rattle.play_events.specs.Given.SchedulerDeclared.played.Played.{Played}
use Rattle.play_events.specs.Given.SchedulerDeclared.scheduler.Scheduler.{Scheduler}
use Rattle.play_events.proofs.Given.SchedulerBegins.{at_slot, entered, fits}
use Rattle.play_events.proofs.Given.SchedulerMaps.{setting_of_it}
use Rattle.play_events.specs.Given.NamedSeen.{Seen}
use Rattle.play_events.specs.Given.ExecutorDeclared.caller.NamedCaller.{NamedCaller}
use Rattle.play_events.specs.Given.ExecutorDeclared.caller.Stands.{Stands as HowFar}
use Rattle.play_events.specs.Given.ExecutorDeclared.caller.Stands.TheVariants as far
use Rattle.play_events.specs.Given.ActsLists.{Course}
use Rattle.run_schedules.specs.Deeds.Deeds.{Begins}
use Rattle.play_events.specs.Given.SteppingStepping.{GoneBy, GoneFor, SaysAgain, TakenBy, TookWhole}
use Rattle.play_events.specs.Given.PlayedPlay.{State}
use Rattle.play_events.specs.Given.GroupedCalled.{PlaysSo}
use Rattle.play_events.specs.Given.GroupedGrouping.{MayHave, Names, beginner_of, number_called, refuses}
use Rattle.play_events.specs.Given.GroupedReach.{Reach}
use Rattle.play_events.proofs.Given.GroupedCallBegins.{call_begins}
use Rattle.play_events.proofs.Given.GroupedMidst.{InEvent, event_ends}
use Rattle.play_events.proofs.Given.GroupedReached.{goes_at, reach_so}
use Rattle.papaya_steps.specs.Pieced.SoFar.{ActsSoFar, ContinuesByActs}
use Rattle.papaya_steps.proofs.Pieced.Quiet.{did_nothing, later_by}
use Rattle.papaya_steps.proofs.Pieced.StepsCall.{gone_by}
use Rattle.papaya_steps.proofs.Pieced.Taken.{works_at}
use Rattle.seize_words.proofs.General.{all_so as each_so}

module _ {K V S : Type 0} (same : K → K → Bool) (by_hasher : S → K → ℕ) (terms : Terms) (log : List (Entry K V)) (event : Event K V) (own guard name : List ℕ) (call : Call K V) (beginner : beginner_of event ≡ own)
    (old mid : Scheduler K V S) (stands : IsPlayed same (by_hasher old.logged.executor.hasher) terms log old) (led : HasBegun same (by_hasher old.logged.executor.hasher) own guard name call old mid)
    (may : (names : Names) (i slot map : ℕ) → number_called own names ≡ Some i → living_slot (guard_of guard (moment log).there.guards) ≡ Some slot → number_of name (moment log) ≡ Some map
    → MayHave names (moment log) event (Begins i slot map call)) where
  abbrev e : Executor K V S
  e = old.logged.executor

  abbrev e2 : Executor K V S
  e2 = mid.logged.executor

  abbrev its_hash : K → ℕ
  its_hash = by_hasher e.hasher

  abbrev i : ℕ
  i = caller_in e led.slot

  its_slot : slot_of i ≡ led.slot
  its_slot = at_slot same its_hash terms (moment log) old stands own guard name call led.free led.slot led.lives led.number led.setting led.found

  -- the map is there, with its setting
  its : (number_of name (moment log) ≡ Some led.number) × (standing : Standing K) × (stands.scene.maps led.number ≡ Some standing) × (standing.setting ≡ led.setting)
  its = setting_of_it same its_hash terms (moment log) old stands name led.number led.setting led.found

  setting_is : slice_index_or e.maps.items led.number None ≡ Some led.setting
  setting_is = sym (stands.shown.is_at.maps led.number) ∙ ap (option_map (λ standing. standing.setting)) its.2 ∙ ap Some its.3

  lives_there : living_slot (guard_of guard (moment log).there.guards) ≡ Some (slot_of i)
  lives_there = ap (λ there. living_slot (guard_of guard there.guards)) stands.there ∙ led.lives ∙ ap Some (sym its_slot)

  -- no caller has its number
  apart : AllByRecursion (λ d. (d.number == i) ≡ false) old.calls
  apart =
      each_so (IsUnderWayAs AsFar stands.name stands.scene old.there) (λ (d : NamedCaller V). (d.number == i) ≡ false)
      (λ d way. ne_eqb d.number i (λ is.
      (let none = no_calls_yet same its_hash e stands.scene stands.shown.is_at led.slot (fits same its_hash terms (moment log) old stands own guard name call led.free led.slot led.lives led.number led.setting led.found) d.map in
      let here = subst (λ (n : ℕ). stands.scene.calls d.map n ≡ Some way.0) is way.1 in
      let both : Some way.0 ≡ None = sym here ∙ none in cc both))) old.calls stands.calls.each

  -- So the list goes on where it begins.
  pub begin_goes : StaysGiven e e2 → Course V same by_hasher e.batch_size e.roots slot_of
      → Reach same by_hasher e.hasher e.batch_size e.roots (shards_of terms) (PlaysSo log old.calls) e (known old.logged.notes)
      → Reach same by_hasher e.hasher e.batch_size e.roots (shards_of terms) (λ (x : State K V S). InEvent log event [] 0 outcome.Goes mid.calls x) e2 (known mid.logged.notes)
  begin_goes given any at =
      subst (λ (l : List (NamedCaller V)). Reach same by_hasher e.hasher e.batch_size e.roots (shards_of terms) (λ (x : State K V S). InEvent log event [] 0 outcome.Goes l x) e2 (known mid.logged.notes)) (sym led.items)
      (subst (λ (k : Known). Reach same by_hasher e.hasher e.batch_size e.roots (shards_of terms) (λ (x : State K V S). InEvent log event [] 0 outcome.Goes (led.caller ∷ old.calls) x) e2 k) (ap known (sym led.notes))
      (call_begins log event own beginner i led.number call (λ names called. may names i (slot_of i) led.number called lives_there its.0) old.calls led.free apart led.caller (ap (λ (s : Seen). s.name) led.is) led.numbered (ap (λ (s : Seen). s.map) led.is)
      (ap (λ (s : Seen). s.kind) led.is) led.keeps_none same by_hasher (shards_of terms) e e2 given any led.slot its_slot led.setting setting_is
      (entered same its_hash terms (moment log) old stands own guard name call led.free led.slot led.lives led.number led.setting led.found)
      (no_work e led.slot (fits same its_hash terms (moment log) old stands own guard name call led.free led.slot led.lives led.number led.setting led.found)) led.begins (known old.logged.notes) at))

-- steps of a call leave what an executor was given
module _ {K V S : Type 0} (same : K → K → Bool) (hash : K → ℕ) (place : ℕ) where
  given_for : (n : ℕ) (before after : List Effect) (p q : Scheduler K V S) → GoneFor same hash place n before after p q → PreservesSettings p.logged.executor q.logged.executor
  given_for zero before after p q (same_list, same_one) = subst (λ (x : Scheduler K V S). PreservesSettings p.logged.executor x.logged.executor) same_one (refl, refl, refl, refl)
  given_for (suc n) before after p q (mid, t, outcome, before_it, on, st) = given_on p.logged.executor t.logged.executor q.logged.executor (given_for n before mid p t before_it) st.given

  given_gone : (count : ℕ) (outcome : Outcome V) (before after : List Effect) (p q : Scheduler K V S) → GoneBy same hash place count outcome before after p q → PreservesSettings p.logged.executor q.logged.executor
  given_gone count outcome before after p q (n, count_is, mid, t, before_it, st) = given_on p.logged.executor t.logged.executor q.logged.executor (given_for n before mid p t before_it) st.given

module _ {K V S : Type 0} (same : K → K → Bool) (by_hasher : S → K → ℕ) (any : (batch_size roots : ℕ) → Course V same by_hasher batch_size roots slot_of) (played : Played V) (old new : Scheduler K V S)
    (given : PreservesSettings old.logged.executor new.logged.executor) where
  abbrev hash : K → ℕ
  hash = by_hasher old.logged.executor.hasher

  -- A call begins, or is out of turn.
  pub begin_goes_on : (own guard name : List ℕ) (call : Call K V) → played.steps ≡ 0 → Began same hash own guard name call played old new → ContinuesByActs same by_hasher (event.Begin own guard name call) played old new
  begin_goes_on own guard name call idle began terms log stands in_turn next next2 at =
      let it = began terms (moment log) stands in by it.0 refl it
    where
      ev : Event K V
      ev = event.Begin own guard name call

      by : (q : Bool) → q ≡ q → (it : (begun : Bool) × BeginsSo same hash terms (moment log) own guard name call begun old new × (played.effects.items ≡ []) × (played.outcome ≡ (if begun then outcome.Goes else outcome.Refused fault.Busy)))
          → ActsSoFar same by_hasher terms (entry_of ev played ∷ log) new.logged new.calls
      by q same_q (false, so, none, says) =
          did_nothing ev played old new same by_hasher idle none (ap (λ (p : Scheduler K V S). p.logged) (so.none refl)) (ap (λ (p : Scheduler K V S). p.calls) (so.none refl)) (λ m there. inl (ap refuses says)) terms log stands in_turn next next2 at
      by q same_q (true, so, none, says) =
          let led = so.led refl in
          goes_at same by_hasher (shards_of terms) (PlaysSo log old.calls) (PlaysSo (entry_of ev played ∷ log) new.calls) old.logged.executor new.logged.executor (known old.logged.notes) (known new.logged.notes)
          (λ course there.
          (let on = begin_goes same by_hasher terms log ev own guard name call refl old new stands led (λ names n slot map called lives is. (called, lives, is, refl)) (given.0, given.1, given.2) course there in
          reach_so same by_hasher old.logged.executor.hasher old.logged.executor.batch_size old.logged.executor.roots (shards_of terms) (λ (x : State K V S). InEvent log ev [] 0 outcome.Goes new.calls x)
          (PlaysSo (entry_of ev played ∷ log) new.calls)
          (λ x in_it. event_ends log ev played.effects.items played.steps played.outcome new.calls x (later_by ev played old new log refl given next next2)
          (subst (λ (o : Outcome V). InEvent log ev played.effects.items played.steps o new.calls x) (sym says)
          (subst (λ (n : ℕ). InEvent log ev played.effects.items n outcome.Goes new.calls x) (sym idle)
          (subst (λ (l : List Effect). InEvent log ev l 0 outcome.Goes new.calls x) (sym none) in_it)))) new.logged.executor (known new.logged.notes) on))
          terms.batch_size terms.roots (any terms.batch_size terms.roots) at

  -- One begins without a name, and takes its steps.
  pub whole_goes_on : (guard name : List ℕ) (call : Call K V) → TookWhole same hash guard name call played old new → ContinuesByActs same by_hasher (event.OneCall guard name call) played old new
  whole_goes_on guard name call took terms log stands in_turn next next2 at = by (took terms (moment log) stands)
    where
      ev : Event K V
      ev = event.OneCall guard name call

      After : Type 0
      After = ActsSoFar same by_hasher terms (entry_of ev played ∷ log) new.logged new.calls

      gone_so : (mid : Scheduler K V S) → HasBegun same hash nameless guard name call old mid → RefinesFor same hash terms (with_call nameless guard call (number_of name (moment log)) (moment log)) mid
          → GoneBy same hash 0 played.steps played.outcome [] played.effects.items mid new → After
      gone_so mid led stands_mid gone =
          let here : slice_get mid.calls 0 ≡ Some led.caller = ap (λ (l : List (NamedCaller V)). slice_get l 0) led.items in
          let works = works_at same hash terms (with_call nameless guard call (number_of name (moment log)) (moment log)) mid stands_mid 0 led.caller here in
          let on = given_gone same hash 0 played.steps played.outcome [] played.effects.items mid new gone in
          let stays : StaysGiven old.logged.executor mid.logged.executor = (sym on.0 ∙ given.0, sym on.1 ∙ given.1, sym on.2 ∙ given.2) in
          goes_at same by_hasher (shards_of terms) (PlaysSo log old.calls) (PlaysSo (entry_of ev played ∷ log) new.calls) old.logged.executor new.logged.executor (known old.logged.notes) (known new.logged.notes)
          (λ course there.
          (let began = begin_goes same by_hasher terms log ev nameless guard name call refl old mid stands led (λ names n slot map called lives is. (called, lives, is, refl)) stays course there in
          let done = gone_by same by_hasher (shards_of terms) log ev 0 led.caller.number led.caller.map nameless (λ names called. called) old.logged.executor.hasher old.logged.executor.batch_size old.logged.executor.roots course
          played.steps played.outcome [] played.effects.items mid new outcome.Goes gone
          (record { caller = led.caller; at = here; name = ap (λ (s : Seen). s.name) led.is; number = refl; map = refl; works = works }) began in
          reach_so same by_hasher old.logged.executor.hasher old.logged.executor.batch_size old.logged.executor.roots (shards_of terms)
          (λ (x : State K V S). InEvent log ev played.effects.items played.steps played.outcome new.calls x) (PlaysSo (entry_of ev played ∷ log) new.calls)
          (λ x in_it. event_ends log ev played.effects.items played.steps played.outcome new.calls x (later_by ev played old new log refl given next next2) in_it) new.logged.executor (known new.logged.notes) done))
          terms.batch_size terms.roots (any terms.batch_size terms.roots) at

      steps_so : (mid : Scheduler K V S) → HasBegun same hash nameless guard name call old mid → RefinesFor same hash terms (with_call nameless guard call (number_of name (moment log)) (moment log)) mid
          → TakenBy same hash 0 most_steps far.Goes played mid new → After
      steps_so mid led stands_mid (takes, comes, gone) = gone_so mid led stands_mid gone

      by : (it : (begun : Bool) × (mid : Scheduler K V S) × BeginsSo same hash terms (moment log) nameless guard name call begun old mid
          × (mid.logged.executor.batch_size ≡ old.logged.executor.batch_size)
          × (begun ≡ true → (d : NamedCaller V) → slice_get mid.calls 0 ≡ Some d → TakenBy same hash 0 most_steps d.stands played mid new)
          × (begun ≡ false → SaysAgain same hash (outcome.Refused fault.Busy) played mid new)) → After
      by (false, mid, so, size, steps, none) =
          let n = none refl in
          let is : new ≡ old = n.3 ∙ so.none refl in
          did_nothing ev played old new same by_hasher n.1 n.2 (ap (λ (p : Scheduler K V S). p.logged) is) (ap (λ (p : Scheduler K V S). p.calls) is) (λ m there. inl (ap refuses n.0)) terms log stands in_turn next next2 at
      by (true, mid, so, size, steps, none) =
          let led = so.led refl in
          let goes : led.caller.stands ≡ far.Goes = ap (λ (s : Seen). s.far) led.is in
          let here : slice_get mid.calls 0 ≡ Some led.caller = ap (λ (l : List (NamedCaller V)). slice_get l 0) led.items in
          steps_so mid led (so.stands refl) (subst (λ (h : HowFar). TakenBy same hash 0 most_steps h played mid new) goes (steps refl led.caller here))
