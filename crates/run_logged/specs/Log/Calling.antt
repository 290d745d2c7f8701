-- Where the beginning and a step of a call lead, and what they do; where a call goes on by what it is told, or asked.
use Rattle.std.specs.Prelude.{◌≡◌, ℕ, Bool, true, List, ◌++◌, Option, Some, Result, Ok}
use Rattle.std.specs.List.{list_any}
use Rattle.papaya_raw.specs.Given.TablesDeclared.node.Node.{Node}
use Rattle.papaya_raw.specs.Machine.{machine_asked, machine_replied}
use Rattle.papaya_raw.specs.declared.machines.asking.MachineReply.{MachineReply}
use Rattle.papaya_raw.specs.declared.machines.machine.Machine.{Machine}
use Rattle.papaya_raw.specs.declared.machines.progress.Progress.{Progress}
use Rattle.run_schedules.specs.Schedules.Beginning.{with_call}
use Rattle.run_schedules.specs.Schedules.Lists.{put}
use Rattle.run_schedules.specs.declared.call.Call.{Call}
use Rattle.run_schedules.specs.declared.call.Reply.{Reply}
use Rattle.run_schedules.specs.declared.effect.Effect.{Effect}
use Rattle.run_schedules.specs.Schedules.Effects.{with_effects}
use Rattle.run_schedules.specs.Schedules.Handing.{is_made}
use Rattle.run_schedules.specs.Schedules.Moment.{Asking, UnderWay as CallThere, Moment}
use Rattle.run_schedules.specs.Schedules.Views.{call_of}
use Rattle.run_shows.specs.Given.CallersTogether.{UnderWay}
use Rattle.run_effects.specs.Effects.Effects.{effects_of, known_after}
use Rattle.run_effects.specs.Effects.Known.{known}
use Rattle.run_effects.specs.declared.acting.Acting.TheVariants as acts
use Rattle.run_shows.specs.declared.row.SlotUse.TheVariants as used
use Rattle.run_shows.specs.Given.FinishesMachines.{machine_of}
use Rattle.run_shows.specs.Given.FinishesMaps.{Standing, with_call as with_call_of}
use Rattle.run_shows.specs.Follows.Calling.{NoneNamed, told as told_so}
use Rattle.run_shows.specs.Follows.Calls.{IsCalled}
use Rattle.run_executor.specs.Given.HandsAsked.{reply_to_machine}
use Rattle.run_executor.specs.Given.HandsCalling.{IsBegunFor}
use Rattle.run_shows.specs.Others.Walks.{given_up}
use Rattle.run_logged.specs.Log.Goes.{IsNotedAs, far}
use Rattle.run_logged.specs.Log.Shown.{IsShown}
use Rattle.run_logged.specs.declared.logged.Logged.{Logged}
use Rattle.run_executor.specs.Executing.IsThere.{IsThere, held_by, use_at}
use Rattle.run_executor.specs.Executing.Stepping.{StepsThere}
use Rattle.run_shows.specs.Scenes.Beginning.{Begins}
use Rattle.run_shows.specs.Scenes.Replying.{scene_with, unless_stopped}
use Rattle.run_shows.specs.Scenes.Scene.{Scene, slot_of}
use Rattle.run_shows.specs.Scenes.Stepping.{StepLeads, scene_after}

-- where growths are to be refused, nothing more is made
abbrev pub MakesNoMore : Bool → (before after : List Effect) → Type 0
MakesNoMore refuse before after = refuse ≡ true → list_any is_made after ≡ list_any is_made before

-- A step of a caller's call on a map, in whatever scene the executor is there, was noted: what it did follows in the list, and is known from then on.
pub record CallSteps {K V S : Type 0} (same : K → K → Bool) (hash : K → ℕ) (i map : ℕ) (told : Progress (Node K V)) (before after : List Effect) (old new : Logged K V S) : Type 0 where
  pub leads : (s : Scene K V) → IsThere same hash old.executor s → StepsThere same hash i told s old.executor new.executor
  pub is_noted : IsNotedAs (acts.Call i map) (far before old) (far after new)

module _ {K V S : Type 0} (same : K → K → Bool) (hash : K → ℕ) (name : ℕ → List ℕ) (m : Moment K V) (s : Scene K V) where
  -- what such a step does, by what the executor's memory tells of it
  abbrev pub step_did : (i map : ℕ) → (old new : Logged K V S) → List Effect
  step_did i map old new = effects_of (acts.Call i map) (known old.notes) new.executor.memory.changed

  -- A step of a caller's call on a map: what it does follows in the list, what is known then is noted, and the moment after that shows where the step has led.
  abbrev pub CallContinues : (i map : ℕ) → Progress (Node K V) → (before after : List Effect) → (old new : Logged K V S) → Type 0
  CallContinues i map told before after old new =
      (u : UnderWay K V K) (here : s.calls map i ≡ Some u)
      → (leads : StepLeads same (λ map. hash) i told s (held_by old.executor) (held_by new.executor)) × (after ≡ before ++ step_did i map old new)
      × (known new.notes ≡ known_after (acts.Call i map) new.executor.memory.changed (known old.notes))
      × (let to = leads map u here in
      IsShown same hash name (with_effects (Some (name i)) (Some map) (step_did i map old new) m) new (scene_after same s (held_by old.executor) (held_by new.executor) map i to.0 u to.1 told to.4))

  -- A call begins while its slot is entered, on a map that stands, by a name that no call under way has: from then on the moment at which it begins shows that it
  -- is under way, and the caller has that name.
  abbrev pub CallBegins : (i map : ℕ) → Machine K V K → (old new : Logged K V S) → Type 0
  CallBegins i map machine old new =
      (standing : Standing K) → s.maps map ≡ Some standing → use_at old.executor (slot_of i) ≡ used.Inside
      → (u : UnderWay K V K) → machine_of u ≡ machine → Begins same standing i u
      → (own guard : List ℕ) (call : Call K V) → IsCalled same u call → IsBegunFor u call → NoneNamed name own s
      → IsShown same hash (put i own name) (with_call own guard call (Some map) m) new (scene_with map i u s)

  -- One that asks, and takes what it is told, goes on by that.
  abbrev pub CallTakes : ℕ → MachineReply V → Result Unit (MachineReply V) → (old new : Logged K V S) → Type 0
  CallTakes i reply result old new =
      (map : ℕ) (u : UnderWay K V K) → s.calls map i ≡ Some u → (c : CallThere K V) → call_of (name i) m ≡ Some c → (question : Option ℕ) → c.stands ≡ Asking question
      → (is_told : Reply V) → reply ≡ reply_to_machine is_told → result ≡ Ok tt
      → (next : UnderWay K V K) × (machine_of next ≡ (machine_replied (machine_of u) reply).0) × IsShown same hash name (told_so (name i) is_told m) new (scene_with map i next s)

  -- A walk that was ready goes on to its next pair,
  abbrev pub WalkContinues : ℕ → Bool → (old new : Logged K V S) → Type 0
  WalkContinues i ready old new =
      (map : ℕ) (u : UnderWay K V K) → s.calls map i ≡ Some u
      → (ready ≡ (machine_asked (machine_of u)).1)
      × (ready ≡ true → (next : UnderWay K V K) × (machine_of next ≡ (machine_asked (machine_of u)).0) × IsShown same hash name m new (scene_with map i next s))

  -- or is under way no more, where no other call under way has its name.
  abbrev pub WalkStops : ℕ → Bool → (old new : Logged K V S) → Type 0
  WalkStops i stopped old new =
      (map : ℕ) (u : UnderWay K V K) → s.calls map i ≡ Some u
      → (let after = record s { calls = with_call_of s.calls map i (unless_stopped stopped u) } in
      (stopped ≡ (machine_asked (machine_of u)).1)
      × ((stopped ≡ true → NoneNamed name (name i) after) → IsShown same hash name (given_up (name i) stopped m) new after))
