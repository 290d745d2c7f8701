-- Where pairs are that have left their maps, once an event has begun what it begins, and once it is over.
use Rattle.std.specs.Prelude.{◌≡◌, false, true, List, [], ℕ, Option, Some, None, if◌then◌else◌}
use Rattle.std.specs.List.{AllByRecursion, list_any}
use Rattle.run_executor.specs.Given.RunsSame.{is_same}
use Rattle.run_executor.specs.Given.RunsDeclared.call.Call.{Call}
use Rattle.run_executor.specs.Given.RunsDeclared.event.Event.{Event}
use Rattle.run_executor.specs.Given.RunsDeclared.event.Event.TheVariants.{Stop}
use Rattle.run_executor.specs.Given.RunsDeclared.outcome.Outcome.{Outcome}
use Rattle.run_executor.specs.Given.RunsDeclared.outcome.Outcome.TheVariants.{Done}
use Rattle.run_executor.specs.Given.SchedulesAfter.{after}
use Rattle.run_executor.specs.Given.SchedulesBeginning.{with_call, with_map}
use Rattle.run_executor.specs.Given.SchedulesEffects.{worked}
use Rattle.run_executor.specs.Given.SchedulesEntry.{Entry, ends_call, caller_of}
use Rattle.run_executor.specs.Given.SchedulesMoment.{MapThere, UnderWay, Moment}
use Rattle.run_executor.specs.Given.SchedulesReclaims.{is_kept}
use Rattle.run_finds.specs.Tables.{TablesAreInOrder}
use Rattle.run_finds.specs.Waiting.{PairsArePlaced}

module _ {K V : Type 0} where
  -- whose call an event ends, if one
  abbrev pub ended_by : Event K V → Outcome V → Option (List ℕ)
  ended_by (Stop caller) Done = Some caller
  ended_by event outcome = if ends_call outcome then caller_of event else None

  -- a call that the event ends has no obligation
  abbrev pub EndedHasNoObligation : Option (List ℕ) → List (UnderWay K V) → Type 0
  EndedHasNoObligation None calls = Unit {0}
  EndedHasNoObligation (Some own) calls = AllByRecursion (λ c. is_same c.caller own ≡ true → c.owes ≡ []) calls

-- The promises: where a call begins by a name that none has, or a map comes,
abbrev pub BeginningsPreservePlaced : Type 0 → Type 0 → Type 0
BeginningsPreservePlaced K V =
    (m : Moment K V) → PairsArePlaced m
    → ((own guard : List ℕ) (call : Call K V) (map : ℕ) → list_any (λ d. is_same d.caller own) m.calls ≡ false → PairsArePlaced (with_call own guard call (Some map) m))
    × ((f : MapThere) → PairsArePlaced (with_map f m))

-- and once an event is over, if a call that it ends has no obligation.
abbrev pub EventsPreservePlaced : Type 0 → Type 0 → Type 0
EventsPreservePlaced K V =
    (e : Entry K V) (m : Moment K V) → PairsArePlaced (worked e m) → EndedHasNoObligation (ended_by e.event e.outcome) (worked e m).calls → PairsArePlaced (after e m)

-- So are tables in order: where a call begins, or a map comes,
abbrev pub BeginningsPreserveTables : Type 0 → Type 0 → Type 0
BeginningsPreserveTables K V =
    (m : Moment K V) → TablesAreInOrder m → ((own guard : List ℕ) (call : Call K V) (map : ℕ) → TablesAreInOrder (with_call own guard call (Some map) m)) × ((f : MapThere) → TablesAreInOrder (with_map f m))

-- and once an event is over, if each table that had a root before it has one still: where a map goes, its tables were taken.
abbrev pub EventsPreserveTables : Type 0 → Type 0 → Type 0
EventsPreserveTables K V =
    (e : Entry K V) (m : Moment K V) → TablesAreInOrder (worked e m) → AllByRecursion (λ u. is_kept (worked e m) u ≡ true → is_kept (after e m) u ≡ true) (worked e m).tables
    → EndedHasNoObligation (ended_by e.event e.outcome) (worked e m).calls → TablesAreInOrder (after e m)
