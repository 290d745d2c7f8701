-- What an event has done by a row on a slot, by the making of a map, or by the end of one: which steps ran; and what one has done by which none runs.
use Rattle.std.specs.Prelude.{◌≡◌, ◌≢◌, ◌<◌, ◌⊎◌, ℕ, Bool, true, false, ◌==◌, List, [], length, is_none, is_some, option_map, Some, None, ◌+◌, ◌*◌, if◌then◌else◌}
use Rattle.std.specs.List.{list_any}
use Rattle.seize.specs.declared.advance.Advance.{Advance}
use Rattle.seize.specs.declared.advance.Advance.TheVariants as progress
use Rattle.seize.specs.declared.states.TheConstants.{BATCH, HELD}
use Rattle.seize_words.specs.OneMemory.Mem.{word_at}
use Rattle.seize_words.specs.declared.at.At.TheVariants as at
use Rattle.seize_words.specs.declared.fault.Fault.{Fault}
use Rattle.seize_words.specs.declared.fault.Fault.TheVariants.{Busy}
use Rattle.papaya_raw.specs.Given.TablesDeclared.node.Node.{Node}
use Rattle.papaya_raw.specs.Given.TablesDeclared.resize_mode.ResizeMode.{ResizeMode}
use Rattle.papaya_raw.specs.Given.TablesDeclared.setting.Setting.{Setting}
use Rattle.run_schedules.specs.Runs.Runs.{map_fault}
use Rattle.run_schedules.specs.Runs.Present.{Present, guard_of, guards_on, living_on, living_slot, registration_of}
use Rattle.run_schedules.specs.declared.event.Event.{Event}
use Rattle.run_schedules.specs.declared.event.Event.TheVariants.{Choose, Register, Unregister, Enter, Own, Refresh, Flush, DropGuard}
use Rattle.run_schedules.specs.declared.outcome.Outcome.{Outcome}
use Rattle.run_schedules.specs.declared.outcome.Outcome.TheVariants.{Done, Slot, Refused}
use Rattle.run_schedules.specs.Schedules.Moment.{Moment}
use Rattle.run_executor.specs.Named.Places.{IsFirstLen, first_places}
use Rattle.run_shows.specs.declared.row.RowTold.{RowTold}
use Rattle.run_shows.specs.declared.row.RowTold.TheVariants as told
use Rattle.run_shows.specs.declared.row.SlotCall.{SlotCall}
use Rattle.run_shows.specs.declared.callers.TheConstants.{SLOTS}
use Rattle.run_shows.specs.declared.row.SlotCall.TheVariants as call
use Rattle.run_logged.specs.Log.Choosing.{logged_chosen}
use Rattle.run_logged.specs.Log.Ends.{EndIsBegun, EndIsOver, EndRan}
use Rattle.run_logged.specs.Log.Goes.{EndGone, MakingGone}
use Rattle.run_logged.specs.Log.Makings.{MakingIsBegun, MakingRan, MapIsThere}
use Rattle.run_logged.specs.Log.Roots.{MakingFinds}
use Rattle.run_logged.specs.Log.Shown.{IsShown}
use Rattle.run_logged.specs.declared.logged.Logged.{Logged}
use Rattle.run_logged.specs.Rows.Rows.{RowRan, left_as}
use Rattle.play_scheduler.specs.Mapping.{IsGivenFor}
use Rattle.run_executor.specs.Named.Seen.{free_slot, number_named}
use Rattle.play_scheduler.specs.declared.played.Played.{Played}
use Rattle.play_scheduler.specs.declared.scheduler.Scheduler.{Scheduler}
use Rattle.run_executor.specs.Executing.Ending.{EndingBegins}
use Rattle.run_executor.specs.Executing.IsThere.{IsThere, PreservesSettings, StaysGiven}
use Rattle.run_executor.specs.Executing.MakingBegins.{MakingBegins}
use Rattle.run_shows.specs.Scenes.Scene.{Scene}

module _ {K V S : Type 0} where
  -- The event is about this slot, by who is there as it comes; a registering finds a slot of its own.
  abbrev pub IsAbout : Event K V → Scheduler K V S → ℕ → Type 0
  IsAbout (Register registration) p slot = (slot ≡ 0) × (is_some (option_map (λ r. r.slot) (registration_of registration p.there.registrations)) ≡ false)
  IsAbout (Own guard) p slot = (slot ≡ 0) × (is_some (guard_of guard p.there.guards) ≡ false)
  IsAbout (Unregister registration) p slot =
      (option_map (λ r. r.slot) (registration_of registration p.there.registrations) ≡ Some slot) × ((living_on slot p.there.guards == 0) ≡ true)
  IsAbout (Enter guard registration) p slot =
      (is_some (guard_of guard p.there.guards) ≡ false) × (option_map (λ r. r.slot) (registration_of registration p.there.registrations) ≡ Some slot)
  IsAbout (Refresh guard) p slot = free_slot guard p.there p.calls ≡ Some slot
  IsAbout (DropGuard guard) p slot = free_slot guard p.there p.calls ≡ Some slot
  IsAbout (Flush guard) p slot = living_slot (guard_of guard p.there.guards) ≡ Some slot
  IsAbout _ p slot = ⊥

  -- Which row is its work there: the first guard on a slot enters it, and the only one refreshes and leaves it; a batch that is flushed is held by none.
  abbrev pub IsItsRow : Event K V → Scheduler K V S → ℕ → SlotCall → Type 0
  IsItsRow (Register registration) p slot called = called ≡ call.Register false
  IsItsRow (Own guard) p slot called = called ≡ call.Register true
  IsItsRow (Unregister registration) p slot called = (called ≡ call.Unregister) × (guards_on slot p.there.guards ≡ 0)
  IsItsRow (Enter guard registration) p slot called = (called ≡ call.Enter) × (guards_on slot p.there.guards ≡ 0)
  IsItsRow (Refresh guard) p slot called = (called ≡ call.Refresh) × (guards_on slot p.there.guards ≡ 1)
  IsItsRow (DropGuard guard) p slot called = (called ≡ left_as slot p.there) × (guards_on slot p.there.guards ≡ 1)
  IsItsRow (Flush guard) p slot called =
      (called ≡ call.Flush) × ((word : ℕ) → word_at p.logged.executor.memory.memory (at.Slot slot BATCH) ≡ Some word → false ≡ (word == HELD))
  IsItsRow _ p slot called = ⊥

module _ {K V : Type 0} where
  -- and where others are on the slot there is none
  abbrev pub HasNoRow : Event K V → Present → ℕ → Type 0
  HasNoRow (Unregister registration) there slot = guards_on slot there.guards ≢ 0
  HasNoRow (Enter guard registration) there slot = guards_on slot there.guards ≢ 0
  HasNoRow (Refresh guard) there slot = guards_on slot there.guards ≢ 1
  HasNoRow (DropGuard guard) there slot = guards_on slot there.guards ≢ 1
  HasNoRow _ there slot = ⊥

  -- a registering comes to what its row told, and the others are done
  abbrev pub outcome_of_row : RowTold (Node K V) → Outcome V
  outcome_of_row (told.Registered slot) = Slot slot
  outcome_of_row (told.Refused fault) = Refused fault
  outcome_of_row _ = Done

  abbrev pub HasOutcomeBy : Event K V → RowTold (Node K V) → Outcome V → Type 0
  HasOutcomeBy (Register registration) said outcome = outcome ≡ outcome_of_row said
  HasOutcomeBy (Own guard) said outcome = outcome ≡ outcome_of_row said
  HasOutcomeBy _ said outcome = outcome ≡ Done

module _ {K V S : Type 0} (played : Played V) (old new : Scheduler K V S) where
  -- nothing was done
  abbrev pub DidNothing : Type 0
  DidNothing = (played.effects.items ≡ []) × (new.logged ≡ old.logged)

  -- One by which no steps run has done nothing, and callers are as they were; a choice of a block's number has come, and else nothing was done.
  abbrev pub WorksOnSetup : Event K V → Type 0
  WorksOnSetup (Choose choice) = (played.outcome ≡ Done) × (played.effects.items ≡ []) × (new ≡ record old { logged = logged_chosen choice old.logged })
  WorksOnSetup _ = (new.calls ≡ old.calls) × DidNothing

  -- An event was refused, and has done nothing; or there was nothing to be done on its slot; or its row has run there, and nothing else. Callers are as they were.
  abbrev pub WorksOnSlot : Event K V → Type 0
  WorksOnSlot event =
      (new.calls ≡ old.calls)
      × (((fault : Fault) × (played.outcome ≡ Refused fault) × DidNothing)
      ⊎ ((slot : ℕ) × IsAbout event old slot
      × (((played.outcome ≡ Done) × HasNoRow event old.there slot × DidNothing)
      ⊎ ((called : SlotCall) × IsItsRow event old slot called × (said : RowTold (Node K V)) × HasOutcomeBy event said played.outcome
      × RowRan slot called said [] played.effects.items old.logged new.logged))))

  -- The making of a map has run by the next number, by such steps, from what it was to begin with; they told this at last.
  pub record MakingHasRun (own : List ℕ) (mode : ResizeMode) (capacity : ℕ) (told : Advance Setting) : Type 0 where
    pub caller : ℕ
    pub fresh : caller ≡ length old.logged.executor.workers.items * SLOTS + 0
    pub faultless : map_fault mode capacity ≡ None
    pub free : is_none (number_named own old.maps) ≡ true
    pub places : ℕ
    pub given : Setting
    pub places_are : places ≡ first_places capacity
    pub first : IsFirstLen places
    pub is_given : IsGivenFor mode places (record old { is_mapped = true }) given
    pub some : 0 < old.logged.executor.roots
    pub began : Logged K V S
    pub begins : (same : K → K → Bool) (hash : K → ℕ) (name : ℕ → List ℕ) (m : Moment K V) (s : Scene K V) → IsShown same hash name m old.logged s
        → MakingIsBegun same hash name m s given places caller old.logged began
    pub begun : (same : K → K → Bool) (hash : K → ℕ) (s : Scene K V) → IsThere same hash old.logged.executor s → MakingBegins same hash given places caller s old.logged.executor began.executor
    pub noted : began.notes ≡ old.logged.notes
    pub stays : StaysGiven old.logged.executor began.executor
    pub there : MapIsThere began
    pub ran : MakingRan caller (length old.logged.executor.maps.items) told [] played.effects.items began new.logged
    pub finds : MakingFinds caller (length old.logged.executor.maps.items) told [] played.effects.items began new.logged
    pub gone : MakingGone caller (length old.logged.executor.maps.items) told [] played.effects.items began new.logged

  -- It was refused, and has done nothing; or its making was refused, as it told; or it was made. Callers are as they were.
  abbrev pub WorksOnMap : List ℕ → ResizeMode → ℕ → Type 0
  WorksOnMap own mode capacity =
      (new.calls ≡ old.calls)
      × (((fault : Fault) × (played.outcome ≡ Refused fault) × DidNothing)
      ⊎ (((fault : Fault) × (played.outcome ≡ Refused fault) × MakingHasRun own mode capacity (progress.Refused fault))
      ⊎ ((played.outcome ≡ Done) × (setting : Setting) × MakingHasRun own mode capacity (progress.Done setting))))

  -- The map of this name has ended, by such steps: no call was on it.
  pub record HasEndedMap (own : List ℕ) : Type 0 where
    pub caller : ℕ
    pub fresh : caller ≡ length old.logged.executor.workers.items * SLOTS + 0
    pub number : ℕ
    pub found : number_named own old.maps ≡ Some number
    pub free : list_any (λ d. d.map == number) old.calls ≡ false
    pub began : Logged K V S
    pub begins : (same : K → K → Bool) (hash : K → ℕ) (name : ℕ → List ℕ) (m : Moment K V) (s : Scene K V) → IsShown same hash name m old.logged s
        → EndIsBegun same hash name m s number caller old.logged began
    pub begun : (same : K → K → Bool) (hash : K → ℕ) (s : Scene K V) → IsThere same hash old.logged.executor s → EndingBegins same hash number caller s old.logged.executor began.executor
    pub noted : began.notes ≡ old.logged.notes
    pub stays : PreservesSettings old.logged.executor began.executor
    pub ran : EndRan caller number true [] played.effects.items began new.logged
    pub over : EndIsOver new.logged
    pub gone : EndGone caller number [] played.effects.items began new.logged

  -- or it was refused, and has done nothing
  abbrev pub WorksOnEnd : List ℕ → Type 0
  WorksOnEnd own = (new.calls ≡ old.calls) × (((fault : Fault) × (played.outcome ≡ Refused fault) × DidNothing) ⊎ ((played.outcome ≡ Done) × HasEndedMap own))

module _ {K V S : Type 0} where
  -- A flush under a guard that lives is refused as busy just where a row has the batch of its slot in hand, and else it is done.
  abbrev pub FlushesUnlessHeld : List ℕ → Outcome V → Scheduler K V S → Type 0
  FlushesUnlessHeld guard outcome p =
      (slot word : ℕ) → living_slot (guard_of guard p.there.guards) ≡ Some slot → word_at p.logged.executor.memory.memory (at.Slot slot BATCH) ≡ Some word
      → outcome ≡ (if word == HELD then Refused Busy else Done)
