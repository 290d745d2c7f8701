-- What a moment of a run, with what is noted of the memory, shows of a scene, in one piece.
use Rattle.std.specs.Prelude.{◌≡◌, ℕ, Bool, true, List, Option, Some, Ok}
use Rattle.run_shows.specs.Given.SeizeWorld.{Rests}
use Rattle.run_shows.specs.Given.TablesDeclared.node.Node.{Node}
use Rattle.run_shows.specs.Given.RunsSame.{is_same}
use Rattle.run_shows.specs.Given.RawMachine.{machine_replied}
use Rattle.run_shows.specs.Given.RawDeclared.machines.progress.Progress.{Progress}
use Rattle.run_shows.specs.Given.RunsDeclared.call.Call.{Call}
use Rattle.run_shows.specs.Given.RunsDeclared.call.Reply.{Reply}
use Rattle.run_shows.specs.Given.RunsDeclared.outcome.Outcome.{Outcome}
use Rattle.run_shows.specs.Given.SchedulesBeginning.{with_call}
use Rattle.run_shows.specs.Given.SchedulesEffects.{with_effects}
use Rattle.run_shows.specs.Given.SchedulesEntry.{ends_call}
use Rattle.run_shows.specs.Given.SchedulesMoment.{Asking, UnderWay as CallThere, Moment, start}
use Rattle.run_shows.specs.Given.SchedulesViews.{call_of}
use Rattle.run_shows.specs.Given.CallersTogether.{UnderWay}
use Rattle.run_shows.specs.Given.EffectsEffects.{effects_of, known_after}
use Rattle.run_shows.specs.Given.EffectsKnown.{Known, nothing_known}
use Rattle.run_shows.specs.Given.EffectsDeclared.acting.Acting.TheVariants as acts
use Rattle.run_shows.specs.Given.FinishesMachines.{machine_of, RepliedOfKind}
use Rattle.run_shows.specs.Given.FinishesMaps.{Standing}
use Rattle.run_shows.specs.Follows.Calling.{NoneNamed, told, come_to}
use Rattle.run_shows.specs.Follows.Calls.{IsCalled}
use Rattle.run_places.specs.Hands.Asked.{reply_to_machine}
use Rattle.run_places.specs.Hands.Calling.{IsBegunFor, AsksJust}
use Rattle.run_places.specs.Hands.Shows.{RefinesHeld}
use Rattle.run_shows.specs.Others.Counters.{NotesCounters}
use Rattle.run_places.specs.Spots.Deferred.{WaitOutside}
use Rattle.run_places.specs.Spots.Spots.{RefinesPlaces}
use Rattle.run_places.specs.Spots.Unreclaimed.{RefinesUnreclaimed}
use Rattle.run_shows.specs.Scenes.Held.{Held, IsAt}
use Rattle.run_shows.specs.Scenes.Replying.{scene_with}
use Rattle.run_shows.specs.Scenes.Scene.{Scene, at_first, slot_of}
use Rattle.run_shows.specs.Scenes.Stepping.{StepLeads, scene_after}

-- It shows what the scene has, what calls were told, in whose hands blocks are and what rows do; where pairs lie, which blocks are not reclaimed, that what waits
-- behind tables is in no map; and the counters of maps that are being made.
pub record RefinesWhole {K V : Type 0} (same : K → K → Bool) (name : ℕ → List ℕ) (m : Moment K V) (known : Known) (s : Scene K V) : Type 0 where
  pub all : RefinesHeld same name m known s
  pub places : RefinesPlaces m known s.maps
  pub blocks : RefinesUnreclaimed m known
  pub outside : WaitOutside m
  pub counters : NotesCounters known s

-- The promises: so it is before all events,
abbrev pub WholeBegins : Type 0 → Type 0 → Type 0
WholeBegins K V = (same : K → K → Bool) (roots : ℕ) (name : ℕ → List ℕ) → RefinesWhole {K = K} {V = V} same name start nothing_known (at_first roots)

module _ (K V : Type 0) (same : K → K → Bool) (hash : ℕ → K → ℕ) where
  -- after each step of a call,
  abbrev pub CallsPreserveWhole : Type 0
  CallsPreserveWhole =
      (name : ℕ → List ℕ) (m : Moment K V) (known : Known) (s : Scene K V) (old new : Held K V) → IsAt same hash old s → RefinesWhole same name m known s
      → (map i : ℕ) (u : UnderWay K V K) (here : s.calls map i ≡ Some u) (told : Progress (Node K V)) (leads : StepLeads same hash i told s old new)
      → (let to = leads map u here in
      RefinesWhole same name (with_effects (Some (name i)) (Some map) (effects_of (acts.Call i map) known new.changed) m) (known_after (acts.Call i map) new.changed known)
      (scene_after same s old new map i to.0 u to.1 told to.4))

  -- where one that asks takes what it is told,
  abbrev pub CallsTakeWhole : Type 0
  CallsTakeWhole =
      (name : ℕ → List ℕ) (m : Moment K V) (known : Known) (s : Scene K V) (e : Held K V) → IsAt same hash e s → RefinesWhole same name m known s
      → (map i : ℕ) (u : UnderWay K V K) → s.calls map i ≡ Some u → (c : CallThere K V) → call_of (name i) m ≡ Some c → (question : Option ℕ) → c.stands ≡ Asking question
      → (standing : Standing K) → s.maps map ≡ Some standing → (is_told : Reply V) (next : UnderWay K V K)
      → machine_of next ≡ (machine_replied (machine_of u) (reply_to_machine is_told)).0 → (machine_replied (machine_of u) (reply_to_machine is_told)).1 ≡ Ok tt
      → RepliedOfKind V same same e.batch_size e.roots slot_of standing i u (reply_to_machine is_told) next
      → RefinesWhole same name (told (name i) is_told m) known (scene_with map i next s)

module _ (K V : Type 0) (same : K → K → Bool) where
  -- where one begins by a name that no call under way has, of a caller that has no row under way,
  abbrev pub CallsBeginWhole : Type 0
  CallsBeginWhole =
      (name : ℕ → List ℕ) (m : Moment K V) (known : Known) (s : Scene K V) → RefinesWhole same name m known s
      → (map i : ℕ) (u : UnderWay K V K) (call : Call K V) (guard : List ℕ) → NoneNamed name (name i) s → IsCalled same u call → IsBegunFor u call → s.world.row i ≡ Rests
      → RefinesWhole same name (with_call (name i) guard call (Some map) m) known (scene_with map i u s)

  -- and where one comes to an outcome: it asks just that, and where it has ended, no call under way has its name any more.
  abbrev pub CallsComeToWhole : Type 0
  CallsComeToWhole =
      (name : ℕ → List ℕ) (m : Moment K V) (known : Known) (s : Scene K V) → RefinesWhole same name m known s
      → (own : List ℕ) (outcome : Outcome V) (steps : ℕ) → (ends_call outcome ≡ true → NoneNamed name own s)
      → ((map i : ℕ) (u : UnderWay K V K) → s.calls map i ≡ Some u → is_same (name i) own ≡ true → AsksJust known u outcome)
      → RefinesWhole same name (come_to own outcome steps m) known s
