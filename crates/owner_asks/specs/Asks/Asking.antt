-- Calls on a key that ask, for one owner: what they are told, and what they come to by that.
use Rattle.std.specs.Prelude.{◌≡◌, ◌≢◌, ℕ, Bool, List, [], ◌∷◌, ◌++◌, Result, Ok, Err, Option, Some, None, ◌⊎◌}
use denote.Ref.{Bor}
use Rattle.seize_words.specs.OneMemory.Mem.{Mem}
use Rattle.seize_words.specs.OneMemory.Word.{block_in}
use Rattle.seize_words.specs.declared.fault.Fault.{Fault}
use Rattle.seize_words.specs.declared.fault.Fault.TheVariants.{Capacity, RemoveNothing}
use Rattle.map_tables.specs.declared.node.Node.{Node}
use Rattle.map_tables.specs.declared.node.Node.TheVariants as node
use Rattle.map_tables.specs.declared.setting.Setting.{Setting}
use Rattle.papaya_raw.specs.declared.machines.answer.KeyAnswer.{KeyAnswer}
use Rattle.papaya_raw.specs.declared.machines.answer.KeyAnswer.TheVariants as answers
use Rattle.papaya_raw.specs.declared.machines.answer.Missing.TheVariants as missing
use Rattle.papaya_raw.specs.declared.machines.answer.There.TheVariants as there
use Rattle.papaya_raw.specs.declared.machines.asking.MachineReply.{MachineReply}
use Rattle.papaya_raw.specs.declared.machines.asking.MachineReply.TheVariants as reply
use Rattle.papaya_raw.specs.declared.machines.asking.Takes.{Takes}
use Rattle.papaya_raw.specs.declared.machines.asking.Takes.TheVariants as takes
use Rattle.papaya_raw.specs.declared.machines.asking.Told.TheVariants as tells
use Rattle.papaya_raw.specs.CallAsks.{replied}
use Rattle.papaya_raw.specs.declared.machines.call.KeyCall.{KeyCall}
use Rattle.owner_calls.specs.Given.CallersKind.{Kind}
use Rattle.owner_calls.specs.Given.CallersPairs.{IsTold}
use Rattle.owner_calls.specs.Given.CallersTogether.{IsBegun}
use Rattle.owner_calls.specs.Given.LateFaults.{IsRoom}
use Rattle.owner_calls.specs.Given.ShownChain.{CannotGrowIn}
use Rattle.map_tables.specs.declared.lent.Lent.{Lent}
use Rattle.owner_calls.specs.Given.StridesEnding.{RunsTo}
use Rattle.owner_calls.specs.Owned.Machines.{on_key_plan}
use Rattle.owner_calls.specs.Owned.Owned.{Holds, IsPairAt, IsWordOf, found_by, left_by}
use Rattle.owner_calls.specs.Given.StridesStanding.{Waits}
use Rattle.owner_calls.specs.declared.machines.OnKey.{OnKey}
use Rattle.owner_calls.specs.declared.machines.Stop.{Stop}
use Rattle.owner_calls.specs.declared.machines.Stop.TheVariants as stop

-- what a reply comes to: yes, that the pair is to be removed, and no, that nothing is to change
abbrev pub meant : {V : Type 0} → MachineReply V → MachineReply V
meant reply.Yes = reply.Remove
meant reply.No = reply.Abort
meant told = told

-- A call that takes these replies takes this one where it asks about the pair of a word, or about none.
abbrev pub IsTaken : {V : Type 0} → Takes → Option ℕ → MachineReply V → Type 0
IsTaken takes.Values asked (reply.Insert value) = Unit {0}
IsTaken takes.Changes asked (reply.Insert value) = Unit {0}
IsTaken takes.Changes asked reply.Remove = Unit {0}
IsTaken takes.Changes asked reply.Abort = Unit {0}
IsTaken takes.Choices (Some word) reply.Yes = Unit {0}
IsTaken takes.Choices (Some word) reply.No = Unit {0}
IsTaken _ asked told = ⊥

-- Where the map had these pairs, and a call with this key, if with one, was told so of the pair of these keys that the map had, or of none: what the map has now,
-- by its answer, and which pairs are in the blocks of its words: one that was replaced or removed waits there, apart from those of the map. Where it does not
-- ask, it goes by what is known before.
module _ {K V : Type 0} (same : K → K → Bool) (hash : K → ℕ) (setting : Setting) (m : Mem (Node K V)) (keys : K → Bool) (xs : List (K × V)) (its : Option K) (Told : Option (K × V) → MachineReply V → Type 0) where
  abbrev pub AnswersAs : KeyAnswer → Type 0
  AnswersAs answers.Absent = Told None reply.Abort × (found_by keys xs ≡ None) × Holds same hash setting m xs
  AnswersAs (answers.Found word) = (x : K × V) × Told (Some x) reply.Abort × (found_by keys xs ≡ Some x) × IsPairAt m word x × Holds same hash setting m xs
  AnswersAs (answers.Stored word) =
      (k : K) × (v : V) × (its ≡ Some k) × Told None (reply.Insert v) × (found_by keys xs ≡ None) × IsPairAt m word (k, v) × Holds same hash setting m (xs ++ ((k, v) ∷ []))
  AnswersAs (answers.Replaced old new) =
      (x : K × V) × (k : K) × (v : V) × (its ≡ Some k) × Told (Some x) (reply.Insert v) × (found_by keys xs ≡ Some x) × IsPairAt m old x × IsPairAt m new (k, v)
      × Holds same hash setting m (left_by keys xs ++ ((k, v) ∷ [])) × Waits m (block_in old) x (left_by keys xs ++ ((k, v) ∷ []))
  AnswersAs (answers.Removed word) =
      (x : K × V) × Told (Some x) reply.Remove × (found_by keys xs ≡ Some x) × IsPairAt m word x × Holds same hash setting m (left_by keys xs) × Waits m (block_in word) x (left_by keys xs)

  -- It is refused for room, for the length of a table only where none can follow the last one, or the removal of what is not there, which it was told. No
  -- pair has changed.
  abbrev pub RefusedAs : Fault → Type 0
  RefusedAs fault = (IsRoom fault ⊎ ((fault ≡ RemoveNothing) × Told None reply.Remove × (found_by keys xs ≡ None))) × Holds same hash setting m xs × (fault ≡ Capacity → CannotGrowIn m setting)

  abbrev pub EndsAs : Result KeyAnswer Fault → Type 0
  EndsAs (Ok answer) = AnswersAs answer
  EndsAs (Err fault) = RefusedAs fault

-- For what a call may be refused once it was told this, of a pair or of none: for room where it is to store a value, and the removal of what is not there;
-- else it is not refused.
abbrev pub MayRefuse : {V : Type 0} → Option ℕ → MachineReply V → Fault → Type 0
MayRefuse asked (reply.Insert value) fault = IsRoom fault
MayRefuse None reply.Remove fault = fault ≡ RemoveNothing
MayRefuse asked told fault = ⊥

-- A call of this kind, with this key, if with one, was begun where the map had these pairs, and has come to this question.
pub record Pauses {K V Q S : Type 0} (asks : Q → K → Bool) (same : K → K → Bool) (hashes : S → K → ℕ) (setting : Setting) (kind : Kind) (its : Option K) (keys : K → Bool) (xs : List (K × V))
    (x : OnKey K V Q S) (m : Mem (Node K V)) (asked : Option ℕ) : Type 0 where
  pub before : Mem (Node K V)
  pub call : KeyCall K V Q
  pub begun : IsBegun V same (hashes x.hasher.now) asks setting (λ i. setting.slot) 0 keys (IsTold kind its []) call
  pub held : Holds same (hashes x.hasher.now) setting before xs
  pub runs : RunsTo (on_key_plan asks same hashes) (record { call = call; hasher = x.hasher; unstored = None }) before x m (Ok (stop.Asks asked))

-- a call of this kind asks so: about a pair, or where the key is missing
abbrev pub AsksOf : Kind → Option ℕ → Type 0
AsksOf kind (Some word) = kind.present ≡ there.Asks
AsksOf kind None = kind.absent ≡ missing.Asks

-- where it does not ask, it changes nothing
abbrev pub Unasked : {K V : Type 0} → Kind → Option (K × V) → MachineReply V → Type 0
Unasked kind (Some x) reply.Abort = kind.present ≢ there.Asks
Unasked kind None reply.Abort = kind.absent ≢ missing.Asks
Unasked kind about told = ⊥

-- it was told this, of what the map had of these keys
abbrev pub RepliedThis : {K V : Type 0} → (K → Bool) → List (K × V) → MachineReply V → Option (K × V) → MachineReply V → Type 0
RepliedThis keys xs told about meaning = (about ≡ found_by keys xs) × (meaning ≡ meant told)

module _ {K V Q S : Type 0} where
  -- its key is in hand, or was handed out with a value
  abbrev pub HasKeyBack : OnKey K V Q S → K → Type 0
  HasKeyBack x key = ((x.unstored ≡ None) × (x.call.replies.key ≡ Some key)) ⊎ ((value : V) × (x.unstored ≡ Some (node.Pair key value)))

  -- and so is the value that it was told to store where the key is missing
  abbrev pub HasPairBack : OnKey K V Q S → K → V → Type 0
  HasPairBack x key value = ((x.unstored ≡ None) × (x.call.replies.key ≡ Some key) × (x.call.replies.absent ≡ tells.Value value)) ⊎ (x.unstored ≡ Some (node.Pair key value))

-- What a call has come to that was begun: a question, about the pair of its keys that the map has, or about none where it has none; or an answer, or a refusal for
-- room, with its key in hand, where it has asked nothing.
abbrev pub StartsAs : {K V Q S : Type 0} → (Q → K → Bool) → (K → K → Bool) → (S → K → ℕ) → Setting → Kind → Option K → (K → Bool) → List (K × V) → Bor S → OnKey K V Q S → Mem (Node K V) → Result Stop Fault → Type 0
StartsAs asks same hashes setting kind its keys xs b x m (Ok (stop.Answered answer)) = AnswersAs same (hashes b.now) setting m keys xs its (Unasked kind) answer
StartsAs asks same hashes setting kind its keys xs b x m (Ok (stop.Asks asked)) = Pauses asks same hashes setting kind its keys xs x m asked × (x.hasher ≡ b) × IsWordOf keys m xs asked × AsksOf kind asked
StartsAs {K} asks same hashes setting kind its keys xs b x m (Err fault) =
    IsRoom fault × Holds same (hashes b.now) setting m xs × ((k : K) → its ≡ Some k → HasKeyBack x k) × (fault ≡ Capacity → CannotGrowIn m setting)

-- what stands for keys, lent, passes the keys that it passes by itself
abbrev pub by_lent : {K Q : Type 0} → (Q → K → Bool) → Lent K Q → K → Bool
by_lent asks x key = asks x.asked.now key

-- Where a call has come to a question, and is told what it takes, it is refused for this alone.
abbrev pub RepliedCallsRefuse : (K V Q S : Type 0) → Type 0
RepliedCallsRefuse K V Q S =
    (asks : Q → K → Bool) (same : K → K → Bool) (hashes : S → K → ℕ) (setting : Setting) (kind : Kind) (its : Option K) (keys : K → Bool) (xs : List (K × V)) (x : OnKey K V Q S) (m : Mem (Node K V))
    (asked : Option ℕ) → Pauses asks same hashes setting kind its keys xs x m asked → (told : MachineReply V) → IsTaken kind.takes asked told
    → (z : OnKey K V Q S) (m2 : Mem (Node K V)) (fault : Fault) → RunsTo (on_key_plan asks same hashes) (record x { call = (replied x.call told).0 }) m z m2 (Err fault) → MayRefuse asked told fault
