-- What a call on one key may answer, and for what it may be refused, by what it does where its key is in the map, and where it is not, and which
-- replies it takes.
use Rattle.std.specs.Prelude.{◌≡◌, ◌≢◌, ℕ, Bool, Some, None, ◌⊎◌}
use Rattle.map_facts.specs.Given.SeizeWordsDeclared.fault.Fault.{Fault}
use Rattle.map_facts.specs.Given.SeizeWordsDeclared.fault.Fault.TheVariants.{RemoveNothing}
use Rattle.map_facts.specs.Given.SeizeWordsMem.{Mem, Took, value_at}
use Rattle.map_facts.specs.Given.SeizeWordsPlan.{Steps}
use Rattle.map_facts.specs.Given.TablesDeclared.marks.TheConstants.{TOMBSTONE}
use Rattle.map_facts.specs.Given.TablesDeclared.node.Node.{Node}
use Rattle.map_facts.specs.Given.TablesDeclared.setting.Setting.{Setting}
use Rattle.map_facts.specs.Given.RawCall.{call_plan}
use Rattle.map_facts.specs.Given.RawCallPoints.{getting, removing, inserting, trying_to_insert}
use Rattle.map_facts.specs.Given.RawDeclared.machines.answer.Called.{Called}
use Rattle.map_facts.specs.Given.RawDeclared.machines.answer.Called.TheVariants as called
use Rattle.map_facts.specs.Given.RawDeclared.machines.answer.KeyAnswer.{KeyAnswer}
use Rattle.map_facts.specs.Given.RawDeclared.machines.answer.KeyAnswer.TheVariants as answers
use Rattle.map_facts.specs.Given.RawDeclared.machines.answer.End.{End}
use Rattle.map_facts.specs.Given.RawDeclared.machines.answer.End.TheVariants as over
use Rattle.map_facts.specs.Given.RawDeclared.machines.answer.Missing.{Missing}
use Rattle.map_facts.specs.Given.RawDeclared.machines.answer.Missing.TheVariants as missing
use Rattle.map_facts.specs.Given.RawDeclared.machines.answer.There.{There}
use Rattle.map_facts.specs.Given.RawDeclared.machines.answer.There.TheVariants as there
use Rattle.map_facts.specs.Given.RawCallAsks.{computing, updating, updating_or_inserting, trying_to_insert_with, removing_if, replied}
use Rattle.map_facts.specs.Given.RawDeclared.machines.asking.Asking.{Asking}
use Rattle.map_facts.specs.Given.RawDeclared.machines.asking.Asking.TheVariants as asking
use Rattle.map_facts.specs.Given.RawDeclared.machines.asking.Replies.{Replies}
use Rattle.map_facts.specs.Given.RawDeclared.machines.asking.MachineReply.{MachineReply}
use Rattle.map_facts.specs.Given.RawDeclared.machines.asking.Takes.{Takes}
use Rattle.map_facts.specs.Given.RawDeclared.machines.asking.Takes.TheVariants as told
use Rattle.map_facts.specs.Given.RawDeclared.machines.asking.Told.{Told}
use Rattle.map_facts.specs.Given.RawDeclared.machines.asking.Told.TheVariants as tells
use Rattle.map_facts.specs.Given.RawDeclared.machines.call.KeyCall.{KeyCall}
use Rattle.map_facts.specs.Given.RawDeclared.machines.call.Calling.{Calling}
use Rattle.map_facts.specs.Given.RawDeclared.machines.call.Calling.TheVariants as at
use Rattle.map_facts_late.specs.Faults.{IsRoom, RoomInMaking, RoomInCopying}

-- what it was told of a pair it may do, and choices are not kept
pub record RepliesFit {K V : Type 0} (takes : Takes) (r : Replies K V) : Type 0 where
  pub takes_is : r.takes ≡ takes
  pub removes : r.present ≡ tells.Removes → takes ≡ told.Changes
  pub choices : takes ≡ told.Choices → r.present ≡ tells.Nothing

module _ (present : There) (absent : Missing) (takes : Takes) where
  -- it is more than a lookup
  abbrev pub IsMore : Type 0
  IsMore = present ≡ there.Answers → absent ≡ missing.Answers → ⊥

  -- where the key is there: it answers with the pair and changes nothing, or replaces it, or removes it
  abbrev pub MayFind : Type 0
  MayFind = (present ≡ there.Answers) ⊎ ((present ≡ there.Asks) × (takes ≢ told.Values))

  abbrev pub MayReplace : Type 0
  MayReplace = (present ≡ there.Puts) ⊎ ((present ≡ there.Asks) × (takes ≢ told.Choices))

  abbrev pub MayRemove : Type 0
  MayRemove = (present ≡ there.Removes) ⊎ ((present ≡ there.Asks) × (takes ≢ told.Values))

  -- where it is not: it answers so, or stores a pair
  abbrev pub MayMiss : Type 0
  MayMiss = (absent ≡ missing.Answers) ⊎ ((absent ≡ missing.Asks) × (takes ≡ told.Changes))

  abbrev pub MayPut : Type 0
  MayPut = (absent ≡ missing.Puts) ⊎ (absent ≡ missing.Asks)

  abbrev pub Fits : KeyAnswer → Type 0
  Fits answers.Absent = MayMiss
  Fits (answers.Found word) = MayFind
  Fits (answers.Stored word) = MayPut
  Fits (answers.Replaced old new) = MayReplace
  Fits (answers.Removed word) = MayRemove

  -- a lookup is never refused, another one for room, and one that is told changes where it is to remove what is not there
  abbrev pub FaultFits : Fault → Type 0
  FaultFits fault = (IsMore × IsRoom fault) ⊎ ((takes ≡ told.Changes) × (absent ≡ missing.Asks) × (fault ≡ RemoveNothing))

  -- the end that it comes to
  abbrev pub OverFits : End → Type 0
  OverFits (over.Answered answer) = Fits answer
  OverFits (over.Refused fault) = FaultFits fault

  -- its own pair where there was none, or in place of another one
  abbrev pub FitsStore : ℕ → Type 0
  FitsStore word = (word ≡ 0 → MayPut) × (word ≢ 0 → MayReplace)

  -- or a tombstone in place of a pair
  abbrev pub FitsExchange : ℕ → ℕ → Type 0
  FitsExchange word new = (new ≡ TOMBSTONE → (word ≢ 0) × MayRemove) × (new ≢ TOMBSTONE → FitsStore word)

  -- it counts a pair stored, or that of this word removed
  abbrev pub FitsCount : ℕ → Type 0
  FitsCount removed = (removed ≡ 0 → MayPut) × (removed ≢ 0 → MayRemove)

  -- it asks where the key is missing, or for the pair of a word, or goes by what it was told
  abbrev pub FitsAsking : Asking → Type 0
  FitsAsking (asking.Absent gap) = absent ≡ missing.Asks
  FitsAsking (asking.Present word) = (present ≡ there.Asks) × (word ≢ 0)
  FitsAsking (asking.Fills word) = IsMore × FitsStore word
  FitsAsking (asking.GivesUp word) = IsMore × (word ≢ 0) × MayRemove

  -- at each point: what it is to answer, or to exchange and to count, and for what it may be refused
  abbrev pub FitsAt : Calling → Type 0
  FitsAt (at.Looks lookup) = (present ≡ there.Answers) × (absent ≡ missing.Answers)
  FitsAt (at.Tries word new) = IsMore × FitsExchange word new
  FitsAt (at.Counts removed) = FitsCount removed
  FitsAt (at.Firsts making) = IsMore × RoomInMaking making.stands
  FitsAt (at.Allocs making) = IsMore × RoomInMaking making.stands
  FitsAt (at.Helps copier goal) = IsMore × RoomInCopying copier.stands
  FitsAt (at.Copies copier) = IsMore × RoomInCopying copier.stands
  FitsAt (at.Asks stands) = FitsAsking stands
  FitsAt (at.Disposes dispose answer) = Fits answer
  FitsAt (at.Drops end) = OverFits end
  FitsAt (at.Over end) = OverFits end
  FitsAt _ = IsMore

  -- what it tells
  abbrev pub OutcomeFits : {T : Type 0} → Called T → Type 0
  OutcomeFits (called.Done answer) = Fits answer
  OutcomeFits (called.Refused fault) = FaultFits fault
  OutcomeFits (called.Asks None) = absent ≡ missing.Asks
  OutcomeFits (called.Asks (Some word)) = present ≡ there.Asks
  OutcomeFits _ = Unit {0}

  module _ {K V Q : Type 0} where
    -- a call is of this kind, and so is where it stands; the word of its own pair is none of a pair that was removed
    abbrev pub IsFit : KeyCall K V Q → Type 0
    IsFit p = (p.there ≡ present) × (p.missing ≡ absent) × RepliesFit takes p.replies × (p.own ≢ TOMBSTONE) × FitsAt p.stands

    -- and what it tells
    abbrev pub StepFits : KeyCall K V Q × Called (Node K V) → Type 0
    StepFits end = IsFit end.0 × OutcomeFits end.1

module _ (K V Q : Type 0) where
  -- The kinds that never ask, from their first points on,
  abbrev pub KindsBegin : Type 0
  KindsBegin =
      (setting : Setting) (code : ℕ) (q : Q) (key : K) (value : V)
      → IsFit there.Answers missing.Answers told.Nothing (getting {K = K} {V = V} setting code q)
      × IsFit there.Removes missing.Answers told.Nothing (removing {K = K} {V = V} setting code q)
      × IsFit there.Puts missing.Puts told.Nothing (inserting {Q = Q} setting code key value)
      × IsFit there.Answers missing.Puts told.Nothing (trying_to_insert {Q = Q} setting code key value)

  -- and those that ask.
  abbrev pub AskingKindsBegin : Type 0
  AskingKindsBegin =
      (setting : Setting) (code : ℕ) (q : Q) (key : K) (absent : Told V)
      → IsFit there.Asks missing.Asks told.Changes (computing {V = V} {Q = Q} setting code key)
      × IsFit there.Asks missing.Answers told.Values (updating {V = V} {Q = Q} setting code key)
      × IsFit there.Asks missing.Asks told.Values (updating_or_inserting {Q = Q} setting code key absent)
      × IsFit there.Answers missing.Asks told.Values (trying_to_insert_with {V = V} {Q = Q} setting code key)
      × IsFit there.Asks missing.Answers told.Choices (removing_if {K = K} {V = V} setting code q)

  -- A call stays of its kind, whatever its step finds in memory, and answers as one of it,
  abbrev pub CallsPreserveTheirKind : Type 0
  CallsPreserveTheirKind =
      (asks : Q → K → Bool) (same : K → K → Bool) (hash : K → ℕ) (present : There) (absent : Missing) (takes : Takes) (p : KeyCall K V Q) → IsFit present absent takes p
      → (m m2 : Mem (Node K V)) (end : KeyCall K V Q × Called (Node K V)) → Steps Took value_at m (call_plan asks same hash p) m2 end → StepFits present absent takes end

  -- and so it does when it is told what it has asked, or is told something else.
  abbrev pub RepliesPreserveTheKind : Type 0
  RepliesPreserveTheKind =
      (present : There) (absent : Missing) (takes : Takes) (p : KeyCall K V Q) → IsFit present absent takes p → (reply : MachineReply V) → IsFit present absent takes (replied p reply).0

-- a lookup: it has no block of its own, and looks for its key until it is over
abbrev pub LooksAt : Calling → Type 0
LooksAt (at.Looks lookup) = Unit {0}
LooksAt (at.Over end) = Unit {0}
LooksAt _ = ⊥

abbrev pub IsLookup : {K V Q : Type 0} → KeyCall K V Q → Type 0
IsLookup p = (p.own ≡ 0) × LooksAt p.stands

-- each of its steps leaves the memory as it is, and leads to a lookup
abbrev pub LookupsLeaveTheMemory : (K V Q : Type 0) → Type 0
LookupsLeaveTheMemory K V Q =
    (asks : Q → K → Bool) (same : K → K → Bool) (hash : K → ℕ) (m m2 : Mem (Node K V)) (p : KeyCall K V Q) → IsLookup p
    → (end : KeyCall K V Q × Called (Node K V)) → Steps Took value_at m (call_plan asks same hash p) m2 end → (m2 ≡ m) × IsLookup end.0
