-- What is seen of calls and maps by name, in a moment of a run and in the scheduler.
use Rattle.std.specs.Prelude.{◌≡◌, ℕ, Bool, true, false, not, ◌&&◌, List, find, position, Option, Some, None, option_map, slice_get, slice_index_or, if◌then◌else◌}
use Rattle.std.specs.List.{list_any}
use Rattle.papaya_raw.specs.Given.TablesDeclared.setting.Setting.{Setting}
use Rattle.run_schedules.specs.Runs.Present.{Present, guard_of, living_slot}
use Rattle.run_schedules.specs.Runs.Same.{is_same}
use Rattle.run_schedules.specs.declared.call.Call.{Call}
use Rattle.run_schedules.specs.declared.call.Call.TheVariants.{On, Reserve, Clear, Retain, Len, Walk}
use Rattle.run_schedules.specs.declared.call.OneKey.{OneKey}
use Rattle.run_schedules.specs.declared.call.OneKey.TheVariants.{Get, GetKeyValue, ContainsKey, Insert, TryInsert, TryInsertWith, GetOrInsert, GetOrInsertWith, Update, UpdateOrInsert, UpdateOrInsertWith, Compute, Remove, RemoveEntry, RemoveIf}
use Rattle.run_schedules.specs.declared.call.Reply.{Reply}
use Rattle.run_schedules.specs.declared.call.Reply.TheVariants.{Gives, Decides}
use Rattle.run_schedules.specs.Schedules.Moment.{CallState, Going, Asking, Told, IsReady, UnderWay, MapThere}
use Rattle.run_executor.specs.declared.caller.NamedCaller.{NamedCaller}
use Rattle.run_executor.specs.declared.caller.Stands.{Stands as HowFar}
use Rattle.run_executor.specs.declared.caller.Stands.TheVariants as far
use Rattle.run_executor.specs.declared.kind.CallKind.{CallKind}
use Rattle.run_executor.specs.declared.kind.CallKind.TheVariants as kind
use Rattle.run_executor.specs.declared.named_map.NamedMap.{NamedMap}

-- what a call is, without its keys and values
module _ {K V : Type 0} where
  abbrev pub kind_on : OneKey K V → CallKind
  kind_on (Get k) = kind.Finds
  kind_on (GetKeyValue k) = kind.Finds
  kind_on (ContainsKey k) = kind.Finds
  kind_on (Insert k v) = kind.Inserts
  kind_on (TryInsert k v) = kind.TriesToInsert
  kind_on (TryInsertWith k) = kind.TriesToInsertWith
  kind_on (GetOrInsert k v) = kind.Finds
  kind_on (GetOrInsertWith k) = kind.Finds
  kind_on (Update k) = kind.Updates
  kind_on (UpdateOrInsert k v) = kind.Updates
  kind_on (UpdateOrInsertWith k) = kind.Updates
  kind_on (Compute k) = kind.Computes
  kind_on (Remove k) = kind.Finds
  kind_on (RemoveEntry k) = kind.Finds
  kind_on (RemoveIf k) = kind.RemovesIf

  abbrev pub kind_of : Call K V → CallKind
  kind_of (On one) = kind_on one
  kind_of (Reserve more) = kind.Reserves
  kind_of Clear = kind.Clears
  kind_of Retain = kind.Retains
  kind_of Len = kind.Counts
  kind_of Walk = kind.Walks

module _ {V : Type 0} where
  abbrev pub is_gift : Reply V → Bool
  is_gift (Gives v) = true
  is_gift _ = false

  abbrev pub is_choice : Reply V → Bool
  is_choice (Decides b) = true
  is_choice _ = false

  -- whether a reply is of the kind that such a call asks for
  abbrev pub fits : CallKind → Reply V → Bool
  fits kind.Computes reply = not (is_choice reply)
  fits kind.RemovesIf reply = is_choice reply
  fits kind.Retains reply = is_choice reply
  fits kind.Reserves reply = false
  fits kind.Clears reply = false
  fits kind.Counts reply = false
  fits kind.Walks reply = false
  fits _ reply = is_gift reply

-- how far it is; that it has just got its reply is not told apart
abbrev pub far_of : CallState → HowFar
far_of Going = far.Goes
far_of (Asking question) = far.Asks question
far_of Told = far.Goes
far_of IsReady = far.Ready

abbrev pub asks : HowFar → Bool
asks (far.Asks question) = true
asks _ = false

abbrev pub shows : HowFar → Bool
shows far.Ready = true
shows _ = false

-- what is seen of a call
pub record Seen : Type 0 where
  pub name : List ℕ
  pub guard : List ℕ
  pub map : ℕ
  pub kind : CallKind
  pub far : HowFar

abbrev pub seen : {K V : Type 0} → UnderWay K V → Seen
seen c = record { name = c.caller; guard = c.guard; map = c.map; kind = kind_of c.call; far = far_of c.stands }

abbrev pub seen_of : {V : Type 0} → NamedCaller V → Seen
seen_of d = record { name = d.name; guard = d.guard; map = d.map; kind = d.kind; far = d.stands }

module _ {V : Type 0} where
  abbrev pub is_named : List ℕ → NamedCaller V → Bool
  is_named own d = is_same d.name own

  -- it asks, and the reply is of the kind that it asks for
  abbrev pub takes : NamedCaller V → Reply V → Bool
  takes d reply = asks d.stands && fits d.kind reply

  -- it is a walk that shows pairs
  abbrev pub is_ready : Option (NamedCaller V) → Bool
  is_ready None = false
  is_ready (Some d) = shows d.stands

  -- the place of a caller, if its call is one
  abbrev pub if_ready : List (NamedCaller V) → Option ℕ → Option ℕ
  if_ready calls None = None
  if_ready calls (Some place) = if is_ready (slice_get calls place) then Some place else None

  abbrev pub ready_place : List ℕ → List (NamedCaller V) → Option ℕ
  ready_place own calls = if_ready calls (position (is_named own) calls)

  -- the walk of this name has this number, and shows pairs
  abbrev pub IsReadyAt : List ℕ → List (NamedCaller V) → ℕ → Type 0
  IsReadyAt own calls number = (place : ℕ) × (whose : NamedCaller V) × (ready_place own calls ≡ Some place) × (slice_get calls place ≡ Some whose) × (number ≡ whose.number)

  -- the slot of a guard that lives, and that no call uses
  abbrev pub free_slot : List ℕ → Present → List (NamedCaller V) → Option ℕ
  free_slot guard there calls = if list_any (λ d. is_same d.guard guard) calls then None else living_slot (guard_of guard there.guards)

-- of maps: their names and numbers
abbrev pub named : MapThere → List ℕ × ℕ
named f = (f.name, f.number)

abbrev pub named_of : NamedMap → List ℕ × ℕ
named_of t = (t.name, t.number)

abbrev pub number_named : List ℕ → List NamedMap → Option ℕ
number_named own maps = option_map (λ t. t.number) (find (λ t. is_same t.name own) maps)

-- with what the calls of a map work, by its number
abbrev pub with_setting : List (Option Setting) → Option ℕ → Option (ℕ × Setting)
with_setting settings None = None
with_setting settings (Some number) = option_map (λ setting. (number, setting)) (slice_index_or settings number None)

abbrev pub setting_named : List ℕ → List NamedMap → List (Option Setting) → Option (ℕ × Setting)
setting_named own maps settings = with_setting settings (number_named own maps)
