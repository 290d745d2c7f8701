-- That a scheduler has played a log, and what is promised of an event that happens then.
use Rattle.std.specs.Prelude.{◌≡◌, ◌≤◌, ℕ, ◌==◌, ◌+◌, ◌*◌, Bool, true, false, ◌&&◌, List, [], ◌∷◌, length, filter, map, is_some, is_none, position, slice_get, slice_index_or, slice_set, Option, Some, None, Result, if◌then◌else◌}
use Rattle.std.specs.List.{AllByRecursion, list_any, remove}
use Rattle.std.specs.Result.{is_err}
use Rattle.seize_words.specs.declared.fault.Fault.TheVariants.{Busy}
use Rattle.papaya_raw.specs.Given.TablesDeclared.setting.Setting.{Setting}
use Rattle.run_shows.specs.Given.CallersTogether.{UnderWay}
use Rattle.run_shows.specs.Given.FinishesMachines.{machine_of}
use Rattle.run_shows.specs.Given.FinishesMaps.{Standing}
use Rattle.run_executor.specs.Given.HandsAsked.{reply_to_machine}
use Rattle.papaya_raw.specs.declared.machines.asking.MachineReply.{MachineReply}
use Rattle.papaya_raw.specs.declared.machines.machine.Machine.{Machine}
use Rattle.run_schedules.specs.Runs.Present.{Present, HaveNames, guard_of, living_slot}
use Rattle.run_schedules.specs.declared.setup.Setup.{Setup}
use Rattle.run_schedules.specs.declared.call.Call.{Call}
use Rattle.run_schedules.specs.declared.call.Reply.{Reply}
use Rattle.run_schedules.specs.declared.event.Event.{Event}
use Rattle.run_schedules.specs.declared.outcome.Outcome.TheVariants.{Done, Goes, Refused}
use Rattle.run_schedules.specs.Schedules.After.{moment}
use Rattle.run_schedules.specs.Schedules.Beginning.{with_call}
use Rattle.run_schedules.specs.Schedules.Entry.{Entry}
use Rattle.run_schedules.specs.Schedules.InTurn.{HasRightOutcome}
use Rattle.run_schedules.specs.Schedules.InUse.{is_living}
use Rattle.run_schedules.specs.Schedules.Moment.{Moment}
use Rattle.run_schedules.specs.Schedules.Terms.{Terms}
use Rattle.run_schedules.specs.Schedules.Views.{call_of, map_of, number_of}
use Rattle.run_shows.specs.declared.callers.TheConstants.{SLOTS}
use Rattle.run_logged.specs.Log.Calling.{CallBegins}
use Rattle.run_logged.specs.Log.Shown.{IsShown}
use Rattle.run_executor.specs.Named.Machines.{IsAsFar, RefusedForRoom, aborted_by, machine_for}
use Rattle.run_logged.specs.Rows.Rows.{used_as}
use Rattle.run_executor.specs.Named.Seen.{is_named, kind_of, named, named_of, ready_place, seen, seen_of, setting_named, takes}
use Rattle.run_executor.specs.declared.caller.NamedCaller.{NamedCaller}
use Rattle.run_executor.specs.declared.caller.Stands.TheVariants as far
use Rattle.play_scheduler.specs.declared.played.Played.{Played}
use Rattle.run_executor.specs.declared.named_map.NamedMap.{NamedMap}
use Rattle.play_scheduler.specs.declared.scheduler.Scheduler.{Scheduler}
use Rattle.run_executor.specs.Executing.Beginning.{BeginsThere}
use Rattle.run_executor.specs.Executing.IsThere.{IsThere, use_at, work_of}
use Rattle.run_executor.specs.Executing.Replying.{RepliesThere, StopsThere}
use Rattle.run_shows.specs.Scenes.Scene.{Scene, slot_of}

-- what the run is made with
abbrev pub terms_given : Setup → Terms
terms_given setup = record { batch_size = setup.batch_size; processors = setup.processors; roots = setup.roots }

-- an event, with what it came to
abbrev pub entry_of : {K V : Type 0} → Event K V → Played V → Entry K V
entry_of event played = record { event = event; outcome = played.outcome; steps = played.steps; effects = played.effects.items }

-- a machine is as far as its caller says, and is refused for nothing else than what such a call may be
abbrev pub AsFar : {K V : Type 0} → NamedCaller V → Machine K V K → Type 0
AsFar d machine = IsAsFar d.kind d.stands machine × RefusedForRoom machine

-- where this is so of the machine of each caller
module _ {K V : Type 0} (Far : NamedCaller V → Machine K V K → Type 0) (name : ℕ → List ℕ) (s : Scene K V) (there : Present) where
  -- a caller has its call under way in the scene, by its name, in the slot of its guard, which lives, and is as far
  abbrev pub IsUnderWayAs : NamedCaller V → Type 0
  IsUnderWayAs d =
      (u : UnderWay K V K) × (s.calls d.map d.number ≡ Some u) × (name d.number ≡ d.name) × (living_slot (guard_of d.guard there.guards) ≡ Some (slot_of d.number))
      × Far d (machine_of u)

  -- the callers are those of the moment, each once, and those of the scene
  pub record CallsAs (m : Moment K V) (calls : List (NamedCaller V)) : Type 0 where
    pub listed : map seen m.calls ≡ map seen_of calls
    pub once : (own : List ℕ) → length (filter (is_named own) calls) ≤ 1
    pub each : AllByRecursion IsUnderWayAs calls
    pub only : (map i : ℕ) (u : UnderWay K V K) → s.calls map i ≡ Some u → list_any (λ d. (d.map == map) && (d.number == i)) calls ≡ true

module _ {K V : Type 0} (name : ℕ → List ℕ) (s : Scene K V) (there : Present) where
  abbrev pub IsUnderWay : NamedCaller V → Type 0
  IsUnderWay = IsUnderWayAs AsFar name s there

  abbrev pub CallsAre : Moment K V → List (NamedCaller V) → Type 0
  CallsAre = CallsAs AsFar name s there

-- the maps are those of the moment, and each stands in the scene
pub record MapsAre {K V : Type 0} (s : Scene K V) (m : Moment K V) (maps : List NamedMap) : Type 0 where
  pub listed : map named m.maps ≡ map named_of maps
  pub stand : AllByRecursion (λ t. (standing : Standing K) × (s.maps t.number ≡ Some standing)) maps

-- The scheduler stands as the moment says: its executor is shown, and who is there, calls and maps have the names of the moment; slots are used as guards and
-- registrations say, and nothing is under way but these calls.
pub record RefinesAs {K V S : Type 0} (Far : NamedCaller V → Machine K V K → Type 0) (same : K → K → Bool) (hash : K → ℕ) (terms : Terms) (m : Moment K V)
    (p : Scheduler K V S) : Type 0 where
  pub name : ℕ → List ℕ
  pub scene : Scene K V
  pub shown : IsShown same hash name m p.logged scene
  pub given : terms_given p.setup ≡ terms
  pub there : m.there ≡ p.there
  pub mapped : m.is_mapped ≡ p.is_mapped
  pub closed : m.is_closed ≡ p.is_closed
  pub calls : CallsAs Far name scene p.there m p.calls
  pub maps : MapsAre scene m p.maps
  pub slots : (slot : ℕ) → use_at p.logged.executor slot ≡ used_as slot p.there
  pub rests : (i : ℕ) → ((map : ℕ) → scene.calls map i ≡ None) → work_of p.logged.executor i ≡ None
  pub names : HaveNames p.there

abbrev pub RefinesFor : {K V S : Type 0} → (K → K → Bool) → (K → ℕ) → Terms → Moment K V → Scheduler K V S → Type 0
RefinesFor same hash terms m p = RefinesAs AsFar same hash terms m p

module _ {K V S : Type 0} (same : K → K → Bool) (hash : K → ℕ) where
  abbrev pub IsPlayed : Terms → List (Entry K V) → Scheduler K V S → Type 0
  IsPlayed terms log p = RefinesFor same hash terms (moment log) p

  module _ (terms : Terms) (log : List (Entry K V)) where
    -- The event may happen: the scheduler has played the log, and the event is not kept out.
    pub record IsInTurn (event : Event K V) (p : Scheduler K V S) : Type 0 where
      pub played : IsPlayed terms log p
      pub in_turn : (moment log).is_closed ≡ false

    -- What is promised of it: it has come to what is right for it, and the scheduler has played the log with it.
    pub record Plays (e : Entry K V) (p : Scheduler K V S) : Type 0 where
      pub right : HasRightOutcome terms log e
      pub played : IsPlayed terms (e ∷ log) p

  abbrev pub MayPlay : Event K V → Scheduler K V S → Type 0
  MayPlay event p = (terms : Terms) × (log : List (Entry K V)) × IsInTurn terms log event p

  abbrev pub PlaysAt : Event K V → Played V → (old new : Scheduler K V S) → Type 0
  PlaysAt event played old new = (terms : Terms) (log : List (Entry K V)) → IsInTurn terms log event old → Plays terms log (entry_of event played) new

  -- where it is known whether the event is the first one
  abbrev pub PlaysFirst : Bool → Event K V → Played V → (old new : Scheduler K V S) → Type 0
  PlaysFirst is_first event played old new =
      (terms : Terms) (log : List (Entry K V)) → is_first ≡ ((moment log).events == 0) → IsInTurn terms log event old → Plays terms log (entry_of event played) new

  -- How a call has begun: its caller is the first of all, by a name that no call has, under a guard that lives, on a map that is there; and the executor has begun it in the slot of the guard.
  pub record HasBegun (own guard name : List ℕ) (call : Call K V) (old new : Scheduler K V S) : Type 0 where
    pub free : list_any (is_named own) old.calls ≡ false
    pub slot : ℕ
    pub lives : living_slot (guard_of guard old.there.guards) ≡ Some slot
    pub number : ℕ
    pub setting : Setting
    pub found : setting_named name old.maps old.logged.executor.maps.items ≡ Some (number, setting)
    pub leads : (names : ℕ → List ℕ) (v : Moment K V) (t : Scene K V) → IsShown same hash names v old.logged t
        → CallBegins same hash names v t (length old.logged.executor.workers.items * SLOTS + slot) number (machine_for (record setting { slot = slot }) hash call) old.logged new.logged
    pub begins : (s : Scene K V) → IsThere same hash old.logged.executor s
        → BeginsThere same hash number (machine_for (record setting { slot = slot }) hash call) (length old.logged.executor.workers.items * SLOTS + slot) s old.logged.executor new.logged.executor
    pub caller : NamedCaller V
    pub is : seen_of caller ≡ record { name = own; guard = guard; map = number; kind = kind_of call; far = far.Goes }
    pub numbered : caller.number ≡ length old.logged.executor.workers.items * SLOTS + slot
    pub keeps_none : caller.value ≡ None
    pub items : new.calls ≡ caller ∷ old.calls
    pub rest : new ≡ record old { logged = new.logged; calls = new.calls }
    pub notes : new.logged.notes ≡ old.logged.notes

  -- A call begins if its name is free, its guard lives, and its map is there; then the scheduler stands for the moment at which it has begun.
  pub record BeginsSo (terms : Terms) (m : Moment K V) (own guard map : List ℕ) (call : Call K V) (begun : Bool) (old new : Scheduler K V S) : Type 0 where
    pub so : begun ≡ (is_none (call_of own m) && is_living guard m.there && is_some (map_of map m))
    pub none : begun ≡ false → new ≡ old
    pub stands : begun ≡ true → RefinesFor same hash terms (with_call own guard call (number_of map m) m) new
    pub led : begun ≡ true → HasBegun own guard map call old new

  -- So an event has begun one, or is out of turn.
  abbrev pub Began : (own guard map : List ℕ) → Call K V → Played V → (old new : Scheduler K V S) → Type 0
  Began own guard map call played old new =
      (terms : Terms) (m : Moment K V) → RefinesFor same hash terms m old
      → (begun : Bool) × BeginsSo terms m own guard map call begun old new × (played.effects.items ≡ []) × (played.outcome ≡ (if begun then Goes else Refused Busy))

  -- How a reply was told: to the call of this name, which takes it, at its place; the executor has gone on by it.
  pub record HasReplied (own : List ℕ) (reply : Reply V) (old new : Scheduler K V S) : Type 0 where
    pub place : ℕ
    pub placed : Some place ≡ position (is_named own) old.calls
    pub asked : NamedCaller V
    pub reads : asked ≡ slice_index_or old.calls place asked
    pub taken : takes asked reply ≡ true
    pub whose : NamedCaller V
    pub reads_whose : whose ≡ slice_index_or old.calls place whose
    pub as_it : MachineReply V
    pub is_told : as_it ≡ reply_to_machine reply
    pub result : Result Unit (MachineReply V)
    pub plain : is_err result ≡ false
    pub leads : (s : Scene K V) → IsThere same hash old.logged.executor s → RepliesThere same hash whose.number as_it result s old.logged.executor new.logged.executor
    pub value : Option V
    pub value_is : value ≡ aborted_by reply
    pub calls : (d : NamedCaller V) → slice_get old.calls place ≡ Some d
        → new.calls ≡ slice_set old.calls place (record d { stands = far.Goes; value = value })
    pub notes : new.logged.notes ≡ old.logged.notes

  abbrev pub Replies : List ℕ → Reply V → Played V → (old new : Scheduler K V S) → Type 0
  Replies own reply played old new = played.outcome ≡ Goes → HasReplied own reply old new × (played.effects.items ≡ [])

  -- How a walk was given up that was ready: its caller is there no more, and the executor has given it up.
  pub record HasStopped (own : List ℕ) (old new : Scheduler K V S) : Type 0 where
    pub place : ℕ
    pub ready : Some place ≡ ready_place own old.calls
    pub whose : NamedCaller V
    pub reads : whose ≡ slice_index_or old.calls place whose
    pub stopped : Bool
    pub leads : (s : Scene K V) → IsThere same hash old.logged.executor s → StopsThere same hash whose.number stopped s old.logged.executor new.logged.executor
    pub calls : new.calls ≡ remove old.calls place
    pub notes : new.logged.notes ≡ old.logged.notes

  abbrev pub Stops : List ℕ → Played V → (old new : Scheduler K V S) → Type 0
  Stops own played old new = played.outcome ≡ Done → HasStopped own old new × (played.effects.items ≡ [])
