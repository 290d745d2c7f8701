-- That the rows by which calls are judged are those of the sequential specification of whole finite maps.
use Rattle.std.specs.Prelude.{◌≡◌, Bool, true, [], ◌∷◌, ◌++◌, Option, Some, None, option_map, if◌then◌else◌}
use Rattle.run_schedules.specs.Runs.Sequential.{Contents, OneKeyCall, CallAnswer, Replies, Specifies, next_number}
use Rattle.run_schedules.specs.Runs.Sequential as calls
use Rattle.run_schedules.specs.declared.call.OneKey.{OneKey}
use Rattle.run_schedules.specs.declared.call.OneKey.TheVariants.{Get, GetKeyValue, ContainsKey, Insert, TryInsert, TryInsertWith, GetOrInsert, GetOrInsertWith, Update, UpdateOrInsert, UpdateOrInsertWith, Compute, Remove, RemoveEntry, RemoveIf}
use Rattle.run_schedules.specs.declared.call.Reply.{Reply}
use Rattle.run_schedules.specs.declared.call.Reply.TheVariants.{Gives, Removes, Aborts, Decides}
use Rattle.run_schedules.specs.declared.call.Response.{Response}
use Rattle.run_schedules.specs.declared.call.Response.TheVariants as answer
use Rattle.run_schedules.specs.Schedules.Sequential.{Deed, Leaves, Puts, Takes, Meaning, Answers, Refuses, Wants, means, key_of}

module _ {K V : Type 0} where
  -- a call, a reply and an answer in the words of that specification
  abbrev pub call_in : OneKey K V → OneKeyCall K V
  call_in (Get k) = calls.Get k
  call_in (GetKeyValue k) = calls.GetKeyValue k
  call_in (ContainsKey k) = calls.ContainsKey k
  call_in (Insert k v) = calls.Insert k v
  call_in (TryInsert k v) = calls.TryInsert k v
  call_in (TryInsertWith k) = calls.TryInsertWith k
  call_in (GetOrInsert k v) = calls.GetOrInsert k v
  call_in (GetOrInsertWith k) = calls.GetOrInsertWith k
  call_in (Update k) = calls.Update k
  call_in (UpdateOrInsert k v) = calls.UpdateOrInsert k v
  call_in (UpdateOrInsertWith k) = calls.UpdateOrInsertWith k
  call_in (Compute k) = calls.Compute k
  call_in (Remove k) = calls.Remove k
  call_in (RemoveEntry k) = calls.RemoveEntry k
  call_in (RemoveIf k) = calls.RemoveIf k

abbrev pub reply_in : {V : Type 0} → Reply V → calls.Reply V V
reply_in (Gives v) = calls.Gives v
reply_in Removes = calls.Removes
reply_in (Aborts w) = calls.Aborts w
reply_in (Decides b) = calls.Decides b

-- no call on one key answers that a call on the whole map is done, or a count
abbrev pub answer_in : {V : Type 0} → Response V → Option (CallAnswer V V)
answer_in answer.Absent = Some calls.Nothing
answer_in (answer.Found n) = Some (calls.There n)
answer_in (answer.Stored n) = Some (calls.Fresh n)
answer_in (answer.Occupied n v) = Some (calls.Occupied n v)
answer_in (answer.Kept n) = Some (calls.Kept n)
answer_in (answer.Inserted n) = Some (calls.Fresh n)
answer_in (answer.Updated o n) = Some (calls.Updated o n)
answer_in (answer.Removed n) = Some (calls.Removed n)
answer_in (answer.Aborted w) = Some (calls.Aborted w)
answer_in answer.Completed = None
answer_in (answer.Counted n) = None

module _ {K V : Type 0} (eq : K → K → Bool) where
  -- what a deed makes of the contents of a map
  abbrev pub done : K → Deed V → Contents K V → Contents K V
  done k Leaves m = m
  done k (Puts v) m = record { stored = m.stored ++ (k, v) ∷ []; at = λ q. if eq k q then Some (next_number m) else m.at q }
  done k Takes m = record { stored = m.stored; at = λ q. if eq k q then None else m.at q }

  -- what a call comes to is what the specification says, where it is answered
  abbrev pub Agrees : OneKey K V → Replies V V → Contents K V → Meaning V → Type 0
  Agrees one replies m (Answers a d) =
      (told : CallAnswer V V) × (answer_in a ≡ Some told) × Specifies eq (call_in one) replies m told (done (key_of one) d m)
  Agrees one replies m Refuses = Unit {0}
  Agrees one replies m Wants = Unit {0}

-- So it is for every call, where equal keys have the same pair.
abbrev pub RowsAgree : (K V : Type 0) → (K → K → Bool) → Type 0
RowsAgree K V eq =
    (one : OneKey K V) (replies : Replies V V) (m : Contents K V) (reply : Option (Reply V))
    → ((q : K) → eq (key_of one) q ≡ true → m.at q ≡ m.at (key_of one))
    → option_map reply_in reply ≡ replies (m.at (key_of one))
    → Agrees eq one replies m (means one reply (m.at (key_of one)) (next_number m))
