-- The sequential specification of the calls on one key: what each answers, does and asks, by the pair that its key's class has, or by none.
use Rattle.std.specs.Prelude.{ℕ, Bool, true, false, List, [], ◌∷◌, Option, Some, None}
use Rattle.run_schedules.specs.declared.call.OneKey.{OneKey}
use Rattle.run_schedules.specs.declared.call.OneKey.TheVariants.{Get, GetKeyValue, ContainsKey, Insert, TryInsert, TryInsertWith, GetOrInsert, GetOrInsertWith, Update, UpdateOrInsert, UpdateOrInsertWith, Compute, Remove, RemoveEntry, RemoveIf}
use Rattle.run_schedules.specs.declared.call.Reply.{Reply}
use Rattle.run_schedules.specs.declared.call.Reply.TheVariants.{Gives, Removes, Aborts, Decides}
use Rattle.run_schedules.specs.declared.call.Response.{Response}
use Rattle.run_schedules.specs.declared.call.Response.TheVariants as answer

-- what a call does to its key's class
pub data Deed (V : Type 0) : Type 0 where
  Leaves : Deed V  -- nothing
  Puts : V → Deed V  -- a new pair of the key handed in and this value comes in, in the place of the one that is there, if one is
  Takes : Deed V  -- the pair that is there leaves

-- what a call comes to
pub data Meaning (V : Type 0) : Type 0 where
  Answers : Response V → Deed V → Meaning V
  Refuses : Meaning V  -- as there is nothing to remove
  Wants : Meaning V  -- a reply, for the pair that is there or for none

abbrev pub looked : {V : Type 0} → Option ℕ → Response V
looked None = answer.Absent
looked (Some p) = answer.Found p

-- the value of the reply is stored
abbrev pub puts_reply : {V : Type 0} → Option (Reply V) → Response V → Meaning V
puts_reply (Some (Gives v)) a = Answers a (Puts v)
puts_reply _ a = Wants

-- `compute`, where the class has none, and where it has a pair, by the reply
abbrev pub computes_none : {V : Type 0} → Option (Reply V) → ℕ → Meaning V
computes_none (Some (Gives v)) new = Answers (answer.Inserted new) (Puts v)
computes_none (Some Removes) new = Refuses
computes_none (Some (Aborts w)) new = Answers (answer.Aborted w) Leaves
computes_none _ new = Wants

abbrev pub computes : {V : Type 0} → Option (Reply V) → ℕ → ℕ → Meaning V
computes (Some (Gives v)) p new = Answers (answer.Updated p new) (Puts v)
computes (Some Removes) p new = Answers (answer.Removed p) Takes
computes (Some (Aborts w)) p new = Answers (answer.Aborted w) Leaves
computes _ p new = Wants

abbrev pub removes_if : {V : Type 0} → Option (Reply V) → ℕ → Meaning V
removes_if (Some (Decides true)) p = Answers (answer.Found p) Takes
removes_if (Some (Decides false)) p = Answers (answer.Kept p) Leaves
removes_if _ p = Wants

module _ {K V : Type 0} where
  -- The call, by the last reply for what the class has, by that, and by the number of the pair that would be stored. One row a call and case.
  abbrev pub means : OneKey K V → Option (Reply V) → Option ℕ → ℕ → Meaning V
  means (Get k) reply old new = Answers (looked old) Leaves
  means (GetKeyValue k) reply old new = Answers (looked old) Leaves
  means (ContainsKey k) reply old new = Answers (looked old) Leaves
  means (Insert k v) reply old new = Answers (looked old) (Puts v)
  means (TryInsert k v) reply None new = Answers (answer.Stored new) (Puts v)
  means (TryInsert k v) reply (Some p) new = Answers (answer.Occupied p v) Leaves
  means (TryInsertWith k) reply None new = puts_reply reply (answer.Stored new)
  means (TryInsertWith k) reply (Some p) new = Answers (answer.Kept p) Leaves
  means (GetOrInsert k v) reply None new = Answers (answer.Stored new) (Puts v)
  means (GetOrInsert k v) reply (Some p) new = Answers (answer.Found p) Leaves
  means (GetOrInsertWith k) reply None new = puts_reply reply (answer.Stored new)
  means (GetOrInsertWith k) reply (Some p) new = Answers (answer.Found p) Leaves
  means (Update k) reply None new = Answers answer.Absent Leaves
  means (Update k) reply (Some p) new = puts_reply reply (answer.Stored new)
  means (UpdateOrInsert k v) reply None new = Answers (answer.Stored new) (Puts v)
  means (UpdateOrInsert k v) reply (Some p) new = puts_reply reply (answer.Stored new)
  means (UpdateOrInsertWith k) reply old new = puts_reply reply (answer.Stored new)
  means (Compute k) reply None new = computes_none reply new
  means (Compute k) reply (Some p) new = computes reply p new
  means (Remove k) reply None new = Answers answer.Absent Leaves
  means (Remove k) reply (Some p) new = Answers (answer.Found p) Takes
  means (RemoveEntry k) reply None new = Answers answer.Absent Leaves
  means (RemoveEntry k) reply (Some p) new = Answers (answer.Found p) Takes
  means (RemoveIf k) reply None new = Answers answer.Absent Leaves
  means (RemoveIf k) reply (Some p) new = removes_if reply p

  -- the key handed in
  abbrev pub key_of : OneKey K V → K
  key_of (Get k) = k
  key_of (GetKeyValue k) = k
  key_of (ContainsKey k) = k
  key_of (Insert k v) = k
  key_of (TryInsert k v) = k
  key_of (TryInsertWith k) = k
  key_of (GetOrInsert k v) = k
  key_of (GetOrInsertWith k) = k
  key_of (Update k) = k
  key_of (UpdateOrInsert k v) = k
  key_of (UpdateOrInsertWith k) = k
  key_of (Compute k) = k
  key_of (Remove k) = k
  key_of (RemoveEntry k) = k
  key_of (RemoveIf k) = k

  -- a lookup changes nothing, and takes no memory
  abbrev pub is_lookup : OneKey K V → Bool
  is_lookup (Get k) = true
  is_lookup (GetKeyValue k) = true
  is_lookup (ContainsKey k) = true
  is_lookup _ = false

  -- only `remove_if` remembers no reply: it asks again about a pair that it meets again
  abbrev pub asks_again : OneKey K V → Bool
  asks_again (RemoveIf k) = true
  asks_again _ = false

  -- whether it asks for the value that it stores, and whether it was told one
  abbrev pub has_value : OneKey K V → Bool → Bool
  has_value (Insert k v) told = true
  has_value (TryInsert k v) told = true
  has_value (GetOrInsert k v) told = true
  has_value (UpdateOrInsert k v) told = true
  has_value (TryInsertWith k) told = told
  has_value (GetOrInsertWith k) told = told
  has_value (Update k) told = told
  has_value (UpdateOrInsertWith k) told = told
  has_value (Compute k) told = told
  has_value _ told = false

-- how the finite map changes at one class
pub data Shift : Type 0 where
  ComesIn : ℕ → Shift  -- the pair of this number
  GivesWay : ℕ → Shift  -- this pair, to the one that comes in next
  GoesOut : ℕ → Shift

-- what a deed is, where the class has this pair or none, and the next pair gets that number
abbrev pub shifts : {V : Type 0} → Option ℕ → ℕ → Deed V → List Shift
shifts old new Leaves = []
shifts None new (Puts v) = ComesIn new ∷ []
shifts (Some p) new (Puts v) = GivesWay p ∷ ComesIn new ∷ []
shifts None new Takes = []
shifts (Some p) new Takes = GoesOut p ∷ []

-- the answer that the call owes, and the value that it stores
abbrev pub answer_due : {V : Type 0} → Meaning V → Option (Response V)
answer_due (Answers a d) = Some a
answer_due _ = None

abbrev pub value_put : {V : Type 0} → Meaning V → List V
value_put (Answers a (Puts v)) = v ∷ []
value_put _ = []

-- whether it stores
abbrev pub puts_any : {V : Type 0} → Meaning V → Bool
puts_any (Answers a (Puts v)) = true
puts_any _ = false
