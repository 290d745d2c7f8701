-- Where a run goes on, the history of each map since a call began stays within the moments of the run since then.
use Rattle.std.specs.Prelude.{◌≡◌, ℕ, Bool, true, List, [], Option, Some, Ok, ◌⊎◌, suc}
use Rattle.run_shows.specs.Given.RunsSame.{is_same}
use Rattle.run_shows.specs.Given.RawMachine.{machine_replied}
use Rattle.run_shows.specs.Given.RunsDeclared.call.Call.{Call}
use Rattle.run_shows.specs.Given.RunsDeclared.call.Reply.{Reply}
use Rattle.run_shows.specs.Given.RunsDeclared.outcome.Outcome.{Outcome}
use Rattle.run_shows.specs.Given.SchedulesBeginning.{with_call}
use Rattle.run_shows.specs.Given.SchedulesEntry.{ends_call}
use Rattle.run_shows.specs.Given.SchedulesMoment.{Asking, UnderWay as CallThere, Moment, start}
use Rattle.run_shows.specs.Given.SchedulesViews.{call_of, finite_map}
use Rattle.run_shows.specs.Given.CallersTogether.{UnderWay}
use Rattle.run_shows.specs.Given.EffectsKnown.{Known, nothing_known}
use Rattle.run_shows.specs.Given.FinishesMachines.{machine_of, RepliedOfKind}
use Rattle.run_shows.specs.Given.FinishesMaps.{Standing}
use Rattle.run_shows.specs.Follows.Calling.{NoneNamed, told, come_to}
use Rattle.run_shows.specs.Follows.Calls.{IsCalled}
use Rattle.run_places.specs.Hands.Asked.{reply_to_machine}
use Rattle.run_places.specs.Hands.Calling.{IsBegunFor, AsksJust}
use Rattle.run_places.specs.Changes.Histories.{began_of, RefinesHistory, StaysWithin}
use Rattle.run_shows.specs.Scenes.Held.{Held, IsAt}
use Rattle.run_shows.specs.Scenes.Replying.{scene_with}
use Rattle.run_shows.specs.Scenes.Scene.{Scene, at_first, slot_of}
use Rattle.run_shows.specs.Given.SchedulesTransition.{Past, further, past}

module _ {K V : Type 0} (log : Past K V) (m : Moment K V) where
  -- no pair has come or gone since the last event of the log
  abbrev pub HasJustBegun : Type 0
  HasJustBegun = (m.place ≡ log.now.place) × (m.stored ≡ log.now.stored)

  -- A class that has another pair of this map then, or none any more, had what it had at the end of the last event: no class changes twice within one event.
  abbrev pub ChangesFirst : (K → K → Bool) → ℕ → Moment K V → Type 0
  ChangesFirst same map v = (k : K) → (finite_map same map v k ≡ finite_map same map m k) ⊎ (finite_map same map m k ≡ finite_map same map log.now k)

-- The promises: so it is before all events,
abbrev pub HistoriesBegin : Type 0 → Type 0 → Type 0
HistoriesBegin K V = (same : K → K → Bool) (roots : ℕ) (name : ℕ → List ℕ) → RefinesHistory {K = K} {V = V} same name (past []) start nothing_known (at_first roots)

module _ (K V : Type 0) (same : K → K → Bool) (hash : ℕ → K → ℕ) where
  -- where a call begins at this moment of its map, by a name that no call under way has, within the next event,
  abbrev pub CallsBeginHistories : Type 0
  CallsBeginHistories =
      (name : ℕ → List ℕ) (log : Past K V) (m : Moment K V) (known : Known) (s : Scene K V) (e : Held K V) → IsAt same hash e s → (history : RefinesHistory same name log m known s)
      → (map i : ℕ) (u : UnderWay K V K) (call : Call K V) (guard : List ℕ) (standing : Standing K) → s.maps map ≡ Some standing → ((began : ℕ) → began_of u ≡ Some began → began ≡ standing.chart.now)
      → NoneNamed name (name i) s → IsCalled same u call → IsBegunFor u call → m.events ≡ log.entries
      → StaysWithin same name log m known s history log (with_call (name i) guard call (Some map) m) (scene_with map i u s)

  -- where one that asks takes what it is told,
  abbrev pub CallsTakeHistories : Type 0
  CallsTakeHistories =
      (name : ℕ → List ℕ) (log : Past K V) (m : Moment K V) (known : Known) (s : Scene K V) (e : Held K V) → IsAt same hash e s → (history : RefinesHistory same name log m known s)
      → (map i : ℕ) (u : UnderWay K V K) → s.calls map i ≡ Some u → (c : CallThere K V) → call_of (name i) m ≡ Some c → (question : Option ℕ) → c.stands ≡ Asking question
      → (standing : Standing K) → s.maps map ≡ Some standing → (is_told : Reply V) (next : UnderWay K V K)
      → machine_of next ≡ (machine_replied (machine_of u) (reply_to_machine is_told)).0 → (machine_replied (machine_of u) (reply_to_machine is_told)).1 ≡ Ok tt
      → RepliedOfKind V same same e.batch_size e.roots slot_of standing i u (reply_to_machine is_told) next
      → StaysWithin same name log m known s history log (told (name i) is_told m) (scene_with map i next s)

module _ (K V : Type 0) (same : K → K → Bool) where
  -- where one comes to an outcome,
  abbrev pub CallsComeToHistories : Type 0
  CallsComeToHistories =
      (name : ℕ → List ℕ) (log : Past K V) (m : Moment K V) (known : Known) (s : Scene K V) → (history : RefinesHistory same name log m known s)
      → (own : List ℕ) (outcome : Outcome V) (steps : ℕ) → (ends_call outcome ≡ true → NoneNamed name own s)
      → ((map i : ℕ) (u : UnderWay K V K) → s.calls map i ≡ Some u → is_same (name i) own ≡ true → AsksJust known u outcome)
      → StaysWithin same name log m known s history log (come_to own outcome steps m) s

  -- and where an event is over, and its moment is one of the log.
  abbrev pub EventsPreserveHistories : Type 0
  EventsPreserveHistories =
      (name : ℕ → List ℕ) (log : Past K V) (m : Moment K V) (known : Known) (s : Scene K V) → (history : RefinesHistory same name log m known s) → m.events ≡ suc log.entries
      → StaysWithin same name log m known s history (further m log) m s

  -- The first step of an event changes no class twice.
  abbrev pub FirstStepsChangeFirst : Type 0
  FirstStepsChangeFirst = (log : Past K V) (m v : Moment K V) (map : ℕ) → HasJustBegun log m → ChangesFirst log m same map v
