-- What a call has asked, and what it was told. What it changes is what it was told to change, and what it leaves as it is it was told to leave.
use Rattle.std.specs.Prelude.{◌≡◌, ◌≢◌, ℕ, ◌/◌, ◌<◌, ◌==◌, ◌⊎◌, Bool, true, false, List, ◌∷◌, [], Option, Some, None, if◌then◌else◌}
use Rattle.seize_model.specs.Given.SeizeWordsDeclared.fault.Fault.TheVariants.{RemoveNothing}
use Rattle.seize_model.specs.Given.SeizeWordsMem.{Mem, value_at}
use Rattle.seize_model.specs.Given.SeizeWordsWord.{block_in}
use Rattle.map_facts_late.specs.Given.TablesDeclared.marks.TheConstants.{TOMBSTONE}
use Rattle.map_facts_late.specs.Given.TablesDeclared.node.Node.{Node}
use Rattle.map_facts_late.specs.Given.TablesDeclared.node.Node.TheVariants as node
use Rattle.map_facts_late.specs.Given.RawDeclared.machines.answer.End.{End}
use Rattle.map_facts_late.specs.Given.RawDeclared.machines.answer.End.TheVariants as ends
use Rattle.map_facts_late.specs.Given.RawDeclared.machines.answer.KeyAnswer.{KeyAnswer}
use Rattle.map_facts_late.specs.Given.RawDeclared.machines.answer.KeyAnswer.TheVariants as answers
use Rattle.map_facts_late.specs.Given.RawDeclared.machines.answer.Missing.{Missing}
use Rattle.map_facts_late.specs.Given.RawDeclared.machines.answer.Missing.TheVariants as missing
use Rattle.map_facts_late.specs.Given.RawDeclared.machines.answer.There.{There}
use Rattle.map_facts_late.specs.Given.RawDeclared.machines.answer.There.TheVariants as there
use Rattle.map_facts_late.specs.Given.RawDeclared.machines.asking.Asking.TheVariants as asking
use Rattle.map_facts_late.specs.Given.RawDeclared.machines.asking.Replies.{Replies}
use Rattle.map_facts_late.specs.Given.RawDeclared.machines.asking.MachineReply.{MachineReply}
use Rattle.map_facts_late.specs.Given.RawDeclared.machines.asking.MachineReply.TheVariants as reply
use Rattle.map_facts_late.specs.Given.RawDeclared.machines.asking.Takes.{Takes}
use Rattle.map_facts_late.specs.Given.RawDeclared.machines.asking.Takes.TheVariants as takes
use Rattle.map_facts_late.specs.Given.RawDeclared.machines.asking.Told.TheVariants as tells
use Rattle.map_facts_late.specs.Given.RawDeclared.machines.call.KeyCall.{KeyCall}
use Rattle.map_facts_late.specs.Given.RawDeclared.machines.call.Calling.{Calling}
use Rattle.map_facts_late.specs.Given.RawDeclared.machines.call.Calling.TheVariants as at
use Rattle.map_facts_late.specs.Given.RuleChart.{Phase, Chart, Holds, Still}
use Rattle.map_facts_late.specs.Given.RuleWords.{Blocks, place_word}
use Rattle.map_facts_late.specs.Given.PointsFactsCalls.{Change, Unchanged, Stored, Replaced, Removed}
use Rattle.many_calls.specs.Kind.{Kind}

-- a question and its reply: the question is about a pair, by its number, or about none, where the key is missing
pub record Asked (V : Type 0) : Type 0 where
  pub about : Option ℕ
  pub told : MachineReply V

abbrev pub is_about : Option ℕ → Option ℕ → Bool
is_about None None = true
is_about (Some n) (Some o) = n == o
is_about _ _ = false

-- the last reply to a question, where the last one stands first
abbrev pub last_reply : {V : Type 0} → Option ℕ → List (Asked V) → Option (MachineReply V)
last_reply about [] = None
last_reply about (a ∷ asked) = if is_about a.about about then Some a.told else last_reply about asked

-- what a call may know from the beginning is its first reply
abbrev pub replies_before : {V : Type 0} → Option V → List (Asked V)
replies_before (Some value) = record { about = None; told = reply.Insert value } ∷ []
replies_before None = []

-- what it was told, the last reply first
module _ {V : Type 0} (asked : List (Asked V)) where
  -- A pair, or that there is none, it was told to leave so: to abort, or not to remove the pair.
  abbrev pub IsToLeave : Takes → Option ℕ → Type 0
  IsToLeave takes.Changes about = last_reply about asked ≡ Some reply.Abort
  IsToLeave takes.Choices (Some n) = last_reply (Some n) asked ≡ Some reply.No
  IsToLeave _ about = ⊥

  -- So it is, if it asks there. If it does not, it was told nothing of that.
  abbrev pub LeavesPair : There → Takes → ℕ → Type 0
  LeavesPair there.Asks kind n = IsToLeave kind (Some n)
  LeavesPair _ kind n = last_reply (Some n) asked ≡ None

  abbrev pub LeavesNone : Missing → Takes → Type 0
  LeavesNone missing.Asks kind = IsToLeave kind None
  LeavesNone _ kind = last_reply None asked ≡ None

  -- it was told nothing of what a call of this kind does not ask about
  abbrev pub RepliesWithin : Kind → Type 0
  RepliesWithin kind = (kind.present ≢ there.Asks → (n : ℕ) → last_reply (Some n) asked ≡ None) × (kind.absent ≢ missing.Asks → last_reply None asked ≡ None)

-- of a call with this key, if it may store one
module _ {K V : Type 0} (hash : K → ℕ) (m : Mem (Node K V)) (c : Chart K) (blocks : Blocks) (its : Option K) (asked : List (Asked V)) where
  -- the pair of this number can still be looked at
  abbrev pub IsThere : ℕ → Type 0
  IsThere n = (n < c.stored) × (blocks.pair_known n ≡ true)

  -- a block has the call's own key, with the value that it was told to store
  abbrev pub HasValueReplied : Option ℕ → ℕ → Type 0
  HasValueReplied about block =
      (key : K) × (value : V) × (value_at m block ≡ Some (node.Pair key value)) × (its ≡ Some key) × (last_reply about asked ≡ Some (reply.Insert value))

  -- it was told to remove this pair
  abbrev pub IsToRemove : ℕ → Type 0
  IsToRemove n = (last_reply (Some n) asked ≡ Some reply.Remove) ⊎ (last_reply (Some n) asked ≡ Some reply.Yes)

  -- What was changed is what it was told to change: the very pair that it was asked about, or by the reply for none.
  abbrev pub ChangesAsReplied : Change → Type 0
  ChangesAsReplied Unchanged = Unit {0}
  ChangesAsReplied (Stored n) = IsThere n × HasValueReplied None (blocks.pair n)
  ChangesAsReplied (Replaced o n) = IsThere n × HasValueReplied (Some o) (blocks.pair n)
  ChangesAsReplied (Removed o) = IsToRemove o

  -- Of an answer without a change: the very pair that was found, or that there is none, it was told to leave so, if a call of this kind asks there.
  abbrev pub AnswersAsReplied : Kind → KeyAnswer → Type 0
  AnswersAsReplied kind (answers.Found word) =
      (n : ℕ) → IsThere n → (phase : Phase) (borrowed : Bool) → word ≡ place_word hash c blocks (Holds n phase borrowed)
      → LeavesPair asked kind.present kind.takes n
  AnswersAsReplied kind answers.Absent = LeavesNone asked kind.absent kind.takes
  AnswersAsReplied kind _ = ⊥

  -- what a word is about: a pair that is not marked, or none
  abbrev pub IsWordOf : ℕ → Option ℕ → Type 0
  IsWordOf word None = word ≡ 0
  IsWordOf word (Some n) = IsThere n × (borrowed : Bool) × (word ≡ place_word hash c blocks (Holds n Still borrowed))

  -- the call's own block has the value that it was told to store
  abbrev pub OwnHasValueReplied : ℕ → Option ℕ → Type 0
  OwnHasValueReplied own about = (0 < own / 2048) × HasValueReplied about (own / 2048)

  -- it recalls the pair that it was told of last, by its block
  abbrev pub Recalls : Replies K V → (ℕ → Type 0) → Type 0
  Recalls r Told = (n : ℕ) × IsThere n × (blocks.pair n ≡ r.pair) × Told n

  -- What a call remembers of its replies is what it was told, and a value in its own block, too. It is one that asks, and has its own key.
  pub record IsAsReplied (r : Replies K V) (own : ℕ) : Type 0 where
    pub asks : r.takes ≢ takes.Nothing
    pub key : (k : K) → r.key ≡ Some k → its ≡ Some k
    pub key_own : (k : K) (v : V) → 0 < own / 2048 → value_at m (own / 2048) ≡ Some (node.Pair k v) → its ≡ Some k
    pub absent_first : r.absent ≡ tells.Nothing → last_reply None asked ≡ None
    pub absent : (value : V) → r.absent ≡ tells.Value value → last_reply None asked ≡ Some (reply.Insert value)
    pub absent_own : r.absent ≡ tells.Own → OwnHasValueReplied own None
    pub present : (value : V) → r.present ≡ tells.Value value → Recalls r (λ n. last_reply (Some n) asked ≡ Some (reply.Insert value))
    pub present_own : r.present ≡ tells.Own → Recalls r (λ n. OwnHasValueReplied own (Some n))
    pub present_removes : r.present ≡ tells.Removes → Recalls r (λ n. last_reply (Some n) asked ≡ Some reply.Remove)

  -- What it is about to do is what it was told to do. It asks with none where it was told nothing of that.
  abbrev pub DoesAsReplied : Replies K V → ℕ → Calling → Type 0
  DoesAsReplied r own (at.Tries word new) =
      ((new ≡ own) × (about : Option ℕ) × IsWordOf word about × OwnHasValueReplied own about)
      ⊎ ((new ≡ TOMBSTONE) × (n : ℕ) × IsWordOf word (Some n) × IsToRemove n)
  DoesAsReplied r own (at.Asks (asking.Absent gap)) = r.absent ≡ tells.Nothing
  DoesAsReplied r own (at.Asks (asking.Fills word)) = word ≢ 0 → block_in word ≡ r.pair
  DoesAsReplied r own (at.Asks (asking.GivesUp word)) = (n : ℕ) × IsWordOf word (Some n) × IsToRemove n
  DoesAsReplied r own _ = Unit {0}

  -- Of the end that it is to come to, without a change: what it asked about it was told to leave so, and to remove what is not there it was told, too.
  abbrev pub EndsAsReplied : There → Missing → Takes → End → Type 0
  EndsAsReplied present absent kind (ends.Answered (answers.Found word)) = present ≡ there.Asks → (n : ℕ) × IsWordOf word (Some n) × IsToLeave asked kind (Some n)
  EndsAsReplied present absent kind (ends.Answered answers.Absent) = absent ≡ missing.Asks → IsToLeave asked kind None
  EndsAsReplied present absent kind (ends.Answered _) = Unit {0}
  EndsAsReplied present absent kind (ends.Refused fault) = fault ≡ RemoveNothing → last_reply None asked ≡ Some reply.Remove

  -- of its end, with or without a change
  abbrev pub OverAsReplied : Change → There → Missing → Takes → End → Type 0
  OverAsReplied change present absent kind end = ChangesAsReplied change × (change ≡ Unchanged → EndsAsReplied present absent kind end)

  -- what a call that asks keeps of its replies, until it has changed the map, and then of its change
  abbrev pub RemembersReplies : {Q : Type 0} → Change → KeyCall K V Q → Calling → Type 0
  RemembersReplies change p (at.Counts removed) = ChangesAsReplied change
  RemembersReplies change p (at.Disposes dispose answer) = ChangesAsReplied change
  RemembersReplies change p (at.Drops end) = EndsAsReplied p.there p.missing p.replies.takes end
  RemembersReplies change p (at.Over end) = OverAsReplied change p.there p.missing p.replies.takes end
  RemembersReplies change p stands = IsAsReplied p.replies p.own × DoesAsReplied p.replies p.own stands
