-- What each event comes to: the outcomes that are right for it, and the refusals, each in its case alone.
use Rattle.std.specs.Prelude.{◌≡◌, ℕ, ◌==◌, nat_lt, Bool, true, false, not, ◌&&◌, List, [], length, map, Option, Some, None, is_some, is_none, if◌then◌else◌, MatchOption, MatchBool, ◌⊎◌}
use Rattle.std.specs.List.{list_any}
use Rattle.seize_words.specs.declared.fault.Fault.TheVariants.{SlotsUsedUp, RootsUsedUp, GuardsFull, Busy, Memory}
use Rattle.run_schedules.specs.Runs.Present.{Present, slot_of_registration, slot_of_guard, guards_on, living_on}
use Rattle.run_schedules.specs.Runs.Runs.{map_fault, MOST_GUARDS}
use Rattle.run_schedules.specs.declared.event.Event.{Event}
use Rattle.run_schedules.specs.declared.event.Event.TheVariants.{Collector, Hash, Choose, Register, Unregister, Enter, Own, Refresh, Flush, DropGuard, Forget, ReclaimAll, Close, MakeMap, EndMap, ShowShape, Begin, Step, Go, Replied, OneCall, Next, Stop}
use Rattle.run_schedules.specs.declared.call.Response.TheVariants as answer
use Rattle.run_schedules.specs.declared.effect.Effect.{Effect}
use Rattle.run_schedules.specs.declared.effect.Effect.TheVariants.{Asked}
use Rattle.run_schedules.specs.declared.outcome.Outcome.{Outcome}
use Rattle.run_schedules.specs.declared.outcome.Outcome.TheVariants.{Done, Slot, Goes, Shows, Answered, Shape, Refused}
use Rattle.run_schedules.specs.Schedules.Lists.{is_empty, least_free}
use Rattle.run_schedules.specs.Schedules.Terms.{Terms}
use Rattle.run_schedules.specs.Schedules.Moment.{TableThere, Moment}
use Rattle.run_schedules.specs.Schedules.Views.{call_of, map_of, number_of, chain_of}
use Rattle.run_schedules.specs.Schedules.Entry.{Entry, ByCall, caller_of, acting, nameless}
use Rattle.run_schedules.specs.Schedules.Beginning.{used_roots}
use Rattle.run_schedules.specs.Schedules.Effects.{worked}
use Rattle.run_schedules.specs.Schedules.After.{moment, moments_from}
use Rattle.run_schedules.specs.Schedules.InUse.{used_slots, is_registered, is_guard, is_living, is_free_guard, is_left, is_held}
use Rattle.run_schedules.specs.Schedules.Coming.{Progresses, fits_reply, shows_now}

-- so many slots there are
abbrev pub most_slots : ℕ
most_slots = 65536

-- some growth was asked for
abbrev pub is_growth : Effect → Bool
is_growth (Asked growth) = true
is_growth _ = false

abbrev pub has_grown : List Effect → Bool
has_grown effects = list_any is_growth effects

-- the event comes to one of these outcomes if it is in turn, and else is refused as busy
abbrev pub InTurn : {V : Type 0} → Bool → (Outcome V → Type 0) → Outcome V → Type 0
InTurn turn wanted outcome = MatchBool turn (wanted outcome) (outcome ≡ Refused Busy)

abbrev pub IsDone : {V : Type 0} → Outcome V → Type 0
IsDone outcome = outcome ≡ Done

-- it is refused for want of memory only where it has asked for a growth
abbrev pub IsShort : {V : Type 0} → List Effect → Outcome V → Type 0
IsShort effects outcome = (outcome ≡ Refused Memory) × (has_grown effects ≡ true)

-- the least slot that is not in use, if there is one
abbrev pub GetsSlot : {V : Type 0} → Present → List Effect → Outcome V → Type 0
GetsSlot there effects outcome =
    let s = least_free (used_slots there) in MatchBool (nat_lt s most_slots) ((outcome ≡ Slot s) ⊎ IsShort effects outcome) (outcome ≡ Refused SlotsUsedUp)

abbrev pub IsEntered : {V : Type 0} → ℕ → Present → Outcome V → Type 0
IsEntered slot there outcome = outcome ≡ (if nat_lt (guards_on slot there.guards) MOST_GUARDS then Done else Refused GuardsFull)

-- a flush is done, or finds the batch of the guard's slot held by a call
abbrev pub IsFlushed : {V : Type 0} → Bool → Outcome V → Type 0
IsFlushed held outcome = (outcome ≡ Done) ⊎ ((held ≡ true) × (outcome ≡ Refused Busy))

abbrev pub IsMade : {V : Type 0} → Bool → List Effect → Outcome V → Type 0
IsMade root effects outcome = MatchBool root ((outcome ≡ Done) ⊎ IsShort effects outcome) (outcome ≡ Refused RootsUsedUp)

-- `shape` shows just the tables of the map, from the root's on
abbrev pub IsShapeOf : {V : Type 0} → List TableThere → Outcome V → Type 0
IsShapeOf tables (Shape shapes) = shapes.items ≡ map (λ t. t.shape) tables
IsShapeOf tables _ = ⊥

-- a walk that is ready shows a pair, or has shown all
abbrev pub IsNext : {V : Type 0} → Outcome V → Type 0
IsNext (Shows n) = Unit {0}
IsNext (Answered answer.Absent) = Unit {0}
IsNext _ = ⊥

module _ {K V : Type 0} where
  -- some call on the map of this name is under way
  abbrev pub is_called : Option ℕ → Moment K V → Bool
  is_called None m = false
  is_called (Some map) m = list_any (λ c. c.map == map) m.calls

  abbrev pub chain_named : Option ℕ → Moment K V → List TableThere
  chain_named None m = []
  chain_named (Some map) m = chain_of map m

  -- once the collector has ended every event is busy, but that what is wrong in making a map is told first
  abbrev pub IsKeptOut : Event K V → Outcome V → Type 0
  IsKeptOut (MakeMap name mode capacity) outcome = MatchOption (map_fault mode capacity) (outcome ≡ Refused Busy) (λ fault. outcome ≡ Refused fault)
  IsKeptOut _ outcome = outcome ≡ Refused Busy

module _ {K V : Type 0} (terms : Terms) where
  -- the call of the event's caller goes on
  abbrev pub Continues : List (Entry K V) → Entry K V → Type 0
  Continues log e =
      let w = worked e (moment log) in ByCall (λ c. Progresses terms c.stands c (moments_from c.begun log) w e.outcome) (acting (caller_of e.event) w)

  -- What an event comes to otherwise. A name that is taken or unknown, and an event out of turn, is busy.
  abbrev pub HasOutcome : List (Entry K V) → Moment K V → Entry K V → Event K V → Outcome V → Type 0
  HasOutcome log m e (Collector setup) outcome = InTurn (m.events == 0) IsDone outcome
  HasOutcome log m e (Hash by) outcome = InTurn (not m.is_mapped) IsDone outcome
  HasOutcome log m e (Choose choice) outcome = outcome ≡ Done
  HasOutcome log m e (Register registration) outcome = InTurn (not (is_registered registration m.there)) (GetsSlot m.there e.effects) outcome
  HasOutcome log m e (Unregister registration) outcome =
      InTurn (is_registered registration m.there && (living_on (slot_of_registration registration m.there) m.there.guards == 0)) IsDone outcome
  HasOutcome log m e (Enter guard registration) outcome =
      InTurn (not (is_guard guard m.there) && is_registered registration m.there) (IsEntered (slot_of_registration registration m.there) m.there) outcome
  HasOutcome log m e (Own guard) outcome = InTurn (not (is_guard guard m.there)) (GetsSlot m.there e.effects) outcome
  HasOutcome log m e (Refresh guard) outcome = InTurn (is_free_guard guard m) IsDone outcome
  HasOutcome log m e (Flush guard) outcome = InTurn (is_living guard m.there) (IsFlushed (is_held (slot_of_guard guard m.there) m)) outcome
  HasOutcome log m e (DropGuard guard) outcome = InTurn (is_free_guard guard m) IsDone outcome
  HasOutcome log m e (Forget guard) outcome = InTurn (is_free_guard guard m) IsDone outcome
  HasOutcome log m e ReclaimAll outcome = InTurn (is_left m) IsDone outcome
  HasOutcome log m e Close outcome = InTurn (is_left m && is_empty m.maps) IsDone outcome
  HasOutcome log m e (MakeMap name mode capacity) outcome =
      MatchOption (map_fault mode capacity)
      (InTurn (is_none (map_of name m)) (IsMade (nat_lt (length (used_roots m)) terms.roots) e.effects) outcome)
      (λ fault. outcome ≡ Refused fault)
  HasOutcome log m e (EndMap name) outcome = InTurn (is_some (map_of name m) && not (is_called (number_of name m) m)) IsDone outcome
  HasOutcome log m e (ShowShape name) outcome = InTurn (is_some (map_of name m)) (IsShapeOf (chain_named (number_of name m) m)) outcome
  HasOutcome log m e (Begin caller guard name call) outcome =
      InTurn (is_none (call_of caller m) && is_living guard m.there && is_some (map_of name m)) (λ o. o ≡ Goes) outcome
  HasOutcome log m e (Step caller refuse) outcome = InTurn (is_some (call_of caller m)) (λ o. Continues log e) outcome
  HasOutcome log m e (Go caller refuse) outcome = InTurn (is_some (call_of caller m)) (λ o. Continues log e) outcome
  HasOutcome log m e (Replied caller reply) outcome = InTurn (fits_reply (call_of caller m) reply) (λ o. o ≡ Goes) outcome
  HasOutcome log m e (OneCall guard name call) outcome =
      InTurn (is_none (call_of nameless m) && is_living guard m.there && is_some (map_of name m)) (λ o. Continues log e) outcome
  HasOutcome log m e (Next caller) outcome = InTurn (shows_now (call_of caller m)) IsNext outcome
  HasOutcome log m e (Stop caller) outcome = InTurn (shows_now (call_of caller m)) IsDone outcome

  -- the event comes to what is right for it
  abbrev pub HasRightOutcome : List (Entry K V) → Entry K V → Type 0
  HasRightOutcome log e =
      let m = moment log in MatchBool m.is_closed (IsKeptOut e.event e.outcome) (HasOutcome log m e e.event e.outcome)
