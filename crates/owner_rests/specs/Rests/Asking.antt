-- What calls on a key that go by closures have done, and what the pairs are after them.
use Rattle.std.specs.Prelude.{◌≡◌, Bool, List, [], ◌∷◌, ◌++◌, Result, Ok, Err, Option, Some, None, ◌⊎◌}
use Rattle.seize_words.specs.declared.fault.Fault.{Fault}
use Rattle.seize_words.specs.declared.fault.Fault.TheVariants.{RemoveNothing}
use Rattle.papaya_raw.specs.declared.machines.answer.KeyAnswer.{KeyAnswer}
use Rattle.papaya_raw.specs.declared.machines.answer.KeyAnswer.TheVariants as answers
use Rattle.papaya_raw.specs.declared.machines.asking.MachineReply.{MachineReply}
use Rattle.papaya_raw.specs.declared.machines.asking.MachineReply.TheVariants as reply
use Rattle.owner_calls.specs.Given.LateFaults.{IsRoom}
use Rattle.owner_asks.specs.Asks.Closures.{Computing}
use Rattle.owner_asks.specs.declared.computing.Computed.{Computed}
use Rattle.owner_asks.specs.declared.computing.Computed.TheVariants as computed
use Rattle.seize_words.specs.declared.operation.Operation.{Operation}
use Rattle.seize_words.specs.declared.operation.Operation.TheVariants as operation
use Rattle.owner_calls.specs.Owned.Owned.{found_by, left_by}
use Rattle.owner_rests.specs.declared.change.Change.{Change}
use Rattle.owner_rests.specs.declared.change.Change.TheVariants as change
use Rattle.owner_rests.specs.declared.change.ComputedChange.{ComputedChange}
use Rattle.owner_rests.specs.declared.change.ComputedChange.TheVariants as compute

-- what was done, by the answer of a call
abbrev pub changed_by : KeyAnswer → Change
changed_by answers.Absent = change.Missing
changed_by (answers.Found word) = change.Kept
changed_by (answers.Stored word) = change.Stored
changed_by (answers.Replaced old new) = change.Replaced
changed_by (answers.Removed word) = change.Removed

-- or why nothing was
abbrev pub ended_by : {E : Type 0} → Result KeyAnswer E → Result Change E
ended_by (Ok answer) = Ok (changed_by answer)
ended_by (Err e) = Err e

-- and so of a computing
abbrev pub computed_by : {T : Type 0} → Computed T → ComputedChange T
computed_by (computed.Changed answer) = compute.Changed (changed_by answer)
computed_by (computed.Aborted end answer) = compute.Aborted end

abbrev pub computing_ended_by : {T E : Type 0} → Result (Computed T) E → Result (ComputedChange T) E
computing_ended_by (Ok done) = Ok (computed_by done)
computing_ended_by (Err e) = Err e

-- why it was refused: for want of room, or because it was told to remove what is not there
abbrev pub IsRefusedFor : {K V : Type 0} → (K → Bool) → (Option (K × V) → MachineReply V → Type 0) → List (K × V) → Fault → Type 0
IsRefusedFor keys Told xs fault = IsRoom fault ⊎ ((fault ≡ RemoveNothing) × (found_by keys xs ≡ None) × Told None reply.Remove)

-- The map had these pairs, and a call with this key, if with one, was told so of the pair of these keys, or of none.
module _ {K V : Type 0} (keys : K → Bool) (its : Option K) (Told : Option (K × V) → MachineReply V → Type 0) (xs : List (K × V)) (After : List (K × V) → Option (K × V) → Option (K × V) → Type 0) where
  -- what it has done, and what the map has after it, which pair was taken out of it, if one was, and which was met at the key or put there, if one was
  abbrev pub HasDone : Change → Type 0
  HasDone change.Missing = (found_by keys xs ≡ None) × Told None reply.Abort × After xs None None
  HasDone change.Kept = (x : K × V) × (found_by keys xs ≡ Some x) × Told (Some x) reply.Abort × After xs None (Some x)
  HasDone change.Stored = (k : K) × (v : V) × (found_by keys xs ≡ None) × (its ≡ Some k) × Told None (reply.Insert v) × After (xs ++ ((k, v) ∷ [])) None (Some (k, v))
  HasDone change.Replaced =
      (x : K × V) × (k : K) × (v : V) × (found_by keys xs ≡ Some x) × (its ≡ Some k) × Told (Some x) (reply.Insert v) × After (left_by keys xs ++ ((k, v) ∷ [])) (Some x) (Some (k, v))
  HasDone change.Removed = (x : K × V) × (found_by keys xs ≡ Some x) × Told (Some x) reply.Remove × After (left_by keys xs) (Some x) None

  -- what it has come to
  abbrev pub ChangeHasOutcome : {E : Type 0} → (E → Fault) → Result Change E → Type 0
  ChangeHasOutcome fault_of (Ok done) = HasDone done
  ChangeHasOutcome fault_of (Err e) = IsRefusedFor keys Told xs (fault_of e) × After xs None None

-- so of a computing, which gives these operations
module _ {K V T : Type 0} (keys : K → Bool) (its : Option K) (Gives : Option (K × V) → Operation V T → Type 0) (xs : List (K × V)) (After : List (K × V) → Option (K × V) → Option (K × V) → Type 0) where
  abbrev pub HasComputed : ComputedChange T → Type 0
  HasComputed (compute.Changed done) = HasDone keys its (Computing Gives) xs After done
  HasComputed (compute.Aborted end) = Gives (found_by keys xs) (operation.Abort end) × After xs None (found_by keys xs)

  abbrev pub ComputesToIt : {E : Type 0} → (E → Fault) → Result (ComputedChange T) E → Type 0
  ComputesToIt fault_of (Ok done) = HasComputed done
  ComputesToIt fault_of (Err e) = IsRefusedFor keys (Computing Gives) xs (fault_of e) × After xs None None
