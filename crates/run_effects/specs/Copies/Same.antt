-- Whether two events, or two outcomes, are the same, by tests of keys and of values.
use Rattle.std.specs.Prelude.{◌==◌, Bool, true, false, ◌&&◌, ◌||◌, List, [], ◌∷◌}
use Rattle.std.specs.Bool.{beq}
use Rattle.std.specs.Option.{option_eq}
use Rattle.run_schedules.specs.Given.SeizeWordsFault.{number_of}
use Rattle.run_schedules.specs.Given.TablesDeclared.resize_mode.ResizeMode.{ResizeMode}
use Rattle.run_schedules.specs.Given.TablesDeclared.resize_mode.ResizeMode.TheVariants.{Incremental, Blocking}
use Rattle.run_schedules.specs.Runs.Same.{is_same}
use Rattle.run_schedules.specs.declared.setup.Setup.{Setup}
use Rattle.run_schedules.specs.declared.key_hash.KeyHash.{KeyHash}
use Rattle.run_schedules.specs.declared.key_hash.KeyHash.TheVariants.{Key, Zero}
use Rattle.run_schedules.specs.declared.shapes.TableShape.{TableShape}
use Rattle.run_schedules.specs.declared.call.Response.{Response}
use Rattle.run_schedules.specs.declared.call.Response.TheVariants as answer
use Rattle.run_schedules.specs.declared.call.Call.{Call}
use Rattle.run_schedules.specs.declared.call.Call.TheVariants.{On, Reserve, Clear, Retain, Len, Walk}
use Rattle.run_schedules.specs.declared.call.OneKey.{OneKey}
use Rattle.run_schedules.specs.declared.call.OneKey.TheVariants.{Get, GetKeyValue, ContainsKey, Insert, TryInsert, TryInsertWith, GetOrInsert, GetOrInsertWith, Update, UpdateOrInsert, UpdateOrInsertWith, Compute, Remove, RemoveEntry, RemoveIf}
use Rattle.run_schedules.specs.declared.call.Reply.{Reply}
use Rattle.run_schedules.specs.declared.call.Reply.TheVariants.{Gives, Removes, Aborts, Decides}
use Rattle.run_schedules.specs.declared.event.Event.{Event}
use Rattle.run_schedules.specs.declared.event.Event.TheVariants.{Collector, Hash, Choose, Register, Unregister, Enter, Own, Refresh, Flush, DropGuard, Forget, ReclaimAll, Close, MakeMap, EndMap, ShowShape, Begin, Step, Go, Replied, OneCall, Next, Stop}
use Rattle.run_schedules.specs.declared.outcome.Outcome.{Outcome}
use Rattle.run_schedules.specs.declared.outcome.Outcome.TheVariants.{Done, Slot, Goes, Asks, Waits, Ready, Shows, Answered, Shape, Refused}

abbrev pub same_setup : Setup → Setup → Bool
same_setup a b = (a.batch_size == b.batch_size) && (a.processors == b.processors) && (a.roots == b.roots)

abbrev pub same_hash : KeyHash → KeyHash → Bool
same_hash Key Key = true
same_hash Zero Zero = true
same_hash _ _ = false

abbrev pub same_mode : ResizeMode → ResizeMode → Bool
same_mode (Incremental chunk) (Incremental n) = chunk == n
same_mode Blocking Blocking = true
same_mode _ _ = false

abbrev pub same_reply : {V : Type 0} → (V → V → Bool) → Reply V → Reply V → Bool
same_reply value (Gives v) (Gives w) = value v w
same_reply value Removes Removes = true
same_reply value (Aborts v) (Aborts w) = value v w
same_reply value (Decides a) (Decides b) = beq a b
same_reply value _ _ = false

-- the same by these tests of keys and of values
module _ {K V : Type 0} (key : K → K → Bool) (value : V → V → Bool) where
  -- calls with a value of their own
  abbrev pub same_storing : OneKey K V → OneKey K V → Bool
  same_storing (Insert k v) (Insert l w) = key k l && value v w
  same_storing (TryInsert k v) (TryInsert l w) = key k l && value v w
  same_storing (GetOrInsert k v) (GetOrInsert l w) = key k l && value v w
  same_storing (UpdateOrInsert k v) (UpdateOrInsert l w) = key k l && value v w
  same_storing _ _ = false

  -- calls of a key alone
  abbrev pub same_by_key : OneKey K V → OneKey K V → Bool
  same_by_key (Get k) (Get l) = key k l
  same_by_key (GetKeyValue k) (GetKeyValue l) = key k l
  same_by_key (ContainsKey k) (ContainsKey l) = key k l
  same_by_key (TryInsertWith k) (TryInsertWith l) = key k l
  same_by_key (GetOrInsertWith k) (GetOrInsertWith l) = key k l
  same_by_key (Update k) (Update l) = key k l
  same_by_key (UpdateOrInsertWith k) (UpdateOrInsertWith l) = key k l
  same_by_key (Compute k) (Compute l) = key k l
  same_by_key (Remove k) (Remove l) = key k l
  same_by_key (RemoveEntry k) (RemoveEntry l) = key k l
  same_by_key (RemoveIf k) (RemoveIf l) = key k l
  same_by_key _ _ = false

  abbrev pub same_call : Call K V → Call K V → Bool
  same_call (On a) (On b) = same_storing a b || same_by_key a b
  same_call (Reserve pairs) (Reserve n) = pairs == n
  same_call Clear Clear = true
  same_call Retain Retain = true
  same_call Len Len = true
  same_call Walk Walk = true
  same_call _ _ = false

  -- events of calls
  abbrev pub same_of_calls : Event K V → Event K V → Bool
  same_of_calls (Begin caller guard map call) (Begin c g m a) = is_same caller c && is_same guard g && is_same map m && same_call call a
  same_of_calls (Step caller refuse) (Step c r) = is_same caller c && beq refuse r
  same_of_calls (Go caller refuse) (Go c r) = is_same caller c && beq refuse r
  same_of_calls (Replied caller reply) (Replied c r) = is_same caller c && same_reply value reply r
  same_of_calls (OneCall guard map call) (OneCall g m a) = is_same guard g && is_same map m && same_call call a
  same_of_calls (Next caller) (Next c) = is_same caller c
  same_of_calls (Stop caller) (Stop c) = is_same caller c
  same_of_calls _ _ = false

-- events of registrations and guards
abbrev pub same_of_guards : {K V : Type 0} → Event K V → Event K V → Bool
same_of_guards (Register registration) (Register r) = is_same registration r
same_of_guards (Unregister registration) (Unregister r) = is_same registration r
same_of_guards (Enter guard registration) (Enter g r) = is_same guard g && is_same registration r
same_of_guards (Own guard) (Own g) = is_same guard g
same_of_guards (Refresh guard) (Refresh g) = is_same guard g
same_of_guards (Flush guard) (Flush g) = is_same guard g
same_of_guards (DropGuard guard) (DropGuard g) = is_same guard g
same_of_guards (Forget guard) (Forget g) = is_same guard g
same_of_guards _ _ = false

-- events of maps, and of the whole collector
abbrev pub same_of_maps : {K V : Type 0} → Event K V → Event K V → Bool
same_of_maps (Collector setup) (Collector s) = same_setup setup s
same_of_maps (Hash by) (Hash b) = same_hash by b
same_of_maps (Choose choice) (Choose c) = choice == c
same_of_maps ReclaimAll ReclaimAll = true
same_of_maps Close Close = true
same_of_maps (MakeMap map mode capacity) (MakeMap m o c) = is_same map m && same_mode mode o && (capacity == c)
same_of_maps (EndMap map) (EndMap m) = is_same map m
same_of_maps (ShowShape map) (ShowShape m) = is_same map m
same_of_maps _ _ = false

abbrev pub same_event : {K V : Type 0} → (K → K → Bool) → (V → V → Bool) → Event K V → Event K V → Bool
same_event key value a b = same_of_calls key value a b || same_of_guards a b || same_of_maps a b

abbrev pub same_shape : List TableShape → List TableShape → Bool
same_shape [] [] = true
same_shape (a ∷ tables) (b ∷ others) = (a.len == b.len) && (a.limit == b.limit) && same_shape tables others
same_shape _ _ = false

module _ {V : Type 0} (value : V → V → Bool) where
  abbrev pub same_answer : Response V → Response V → Bool
  same_answer answer.Absent answer.Absent = true
  same_answer (answer.Found pair) (answer.Found n) = pair == n
  same_answer (answer.Stored pair) (answer.Stored n) = pair == n
  same_answer (answer.Occupied there v) (answer.Occupied n w) = (there == n) && value v w
  same_answer (answer.Kept pair) (answer.Kept n) = pair == n
  same_answer (answer.Inserted pair) (answer.Inserted n) = pair == n
  same_answer (answer.Updated old new) (answer.Updated m n) = (old == m) && (new == n)
  same_answer (answer.Removed pair) (answer.Removed n) = pair == n
  same_answer (answer.Aborted v) (answer.Aborted w) = value v w
  same_answer answer.Completed answer.Completed = true
  same_answer (answer.Counted count) (answer.Counted n) = count == n
  same_answer _ _ = false

  abbrev pub same_outcome : Outcome V → Outcome V → Bool
  same_outcome Done Done = true
  same_outcome (Slot slot) (Slot s) = slot == s
  same_outcome Goes Goes = true
  same_outcome (Asks pair) (Asks n) = option_eq (λ a b. a == b) pair n
  same_outcome Waits Waits = true
  same_outcome Ready Ready = true
  same_outcome (Shows pair) (Shows n) = pair == n
  same_outcome (Answered a) (Answered b) = same_answer a b
  same_outcome (Shape tables) (Shape t) = same_shape tables.items t.items
  same_outcome (Refused fault) (Refused f) = number_of fault == number_of f
  same_outcome _ _ = false
