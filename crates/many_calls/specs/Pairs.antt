-- What has become of the pair that a call was begun with, if with any, and of what it was told.
use Rattle.std.specs.Prelude.{◌≡◌, ℕ, ◌/◌, ◌<◌, ◌⊎◌, true, List, ◌∷◌, Option, None, Some, Bool, Result, Ok}
use Rattle.seize_model.specs.Given.SeizeWordsMem.{Mem, value_at}
use Rattle.map_facts_late.specs.Given.TablesDeclared.node.Node.{Node}
use Rattle.map_facts_late.specs.Given.RawCallPoints.{standing}
use Rattle.map_facts_late.specs.Given.RawDeclared.machines.answer.KeyAnswer.{KeyAnswer}
use Rattle.map_facts_late.specs.Given.RawDeclared.machines.asking.MachineReply.{MachineReply}
use Rattle.map_facts_late.specs.Given.RawDeclared.machines.asking.MachineReply.TheVariants as reply
use Rattle.map_facts_late.specs.Given.RawDeclared.machines.asking.Takes.TheVariants as takes
use Rattle.map_facts_late.specs.Given.RawDeclared.machines.call.KeyCall.{KeyCall}
use Rattle.map_facts_late.specs.Given.RawDeclared.machines.call.Calling.{Calling}
use Rattle.map_facts_late.specs.Given.RawDeclared.machines.call.Calling.TheVariants as at
use Rattle.map_facts_late.specs.Given.RuleChart.{Chart}
use Rattle.map_facts_late.specs.Given.RuleWords.{Blocks}
use Rattle.map_facts_late.specs.Given.PointsFactsCalls.{Change, Stored, Replaced}
use Rattle.map_facts_late.specs.Kinds.{IsFit}
use Rattle.many_calls.specs.Asked.{Asked, last_reply, RepliesWithin, AnswersAsReplied, ChangesAsReplied, RemembersReplies}
use Rattle.many_calls.specs.AskedOnce.{AsksOnce}
use Rattle.many_calls.specs.Kind.{Kind}

module _ {K V : Type 0} (m : Mem (Node K V)) (c : Chart K) (blocks : Blocks) (pair : Option (Node K V)) where
  -- pair n of the map is this one
  abbrev pub IsItsPair : ℕ → Type 0
  IsItsPair n = (n < c.stored) × (blocks.pair_known n ≡ true) × (value_at m (blocks.pair n) ≡ pair)

  -- what was stored is this one
  abbrev pub StoresIt : Change → Type 0
  StoresIt (Stored n) = IsItsPair n
  StoresIt (Replaced o n) = IsItsPair n
  StoresIt _ = Unit {0}

  -- the call's own block has it, if there is one
  abbrev pub HasIt : ℕ → Type 0
  HasIt own = (own ≡ 0) ⊎ (value_at m (own / 2048) ≡ pair)

  -- it is to be made, or stands in the call's own block, or in the map
  abbrev pub KeepsIt : {Q : Type 0} → Change → KeyCall K V Q → Calling → Type 0
  KeepsIt change p at.Makes = p.unmade ≡ pair
  KeepsIt change p (at.Counts removed) = StoresIt change
  KeepsIt change p (at.Disposes dispose answer) = StoresIt change
  KeepsIt change p (at.Over end) = StoresIt change
  KeepsIt change p _ = HasIt p.own

-- What a call of a kind stores, if anything: the pair that it was begun with. Or it goes by what it was told, the last reply first, with the key that it was
-- begun with, if it may store one.
pub data Given (K V : Type 0) : Type 0 where
  Begun : Kind → Option (Node K V) → Given K V
  IsTold : Kind → Option K → List (Asked V) → Given K V

abbrev pub kind_of : {K V : Type 0} → Given K V → Kind
kind_of (Begun kind pair) = kind
kind_of (IsTold kind its asked) = kind

-- a reply that is taken is kept
abbrev pub with_reply : {K V : Type 0} → Given K V → Option ℕ → MachineReply V → Result Unit (MachineReply V) → Given K V
with_reply (IsTold kind its asked) about told (Ok taken) = IsTold kind its (record { about = about; told = told } ∷ asked)
with_reply given about told _ = given

-- It was told nothing about this before. One that stores nothing only chooses whether to remove a pair, and may ask about it again.
abbrev pub AsksFirst : {K V : Type 0} → Given K V → Option ℕ → Type 0
AsksFirst (Begun kind pair) about = ⊥
AsksFirst (IsTold kind (Some key) asked) about = last_reply about asked ≡ None
AsksFirst (IsTold kind None asked) None = last_reply None asked ≡ None
AsksFirst (IsTold kind None asked) (Some n) = Unit {0}

-- what a call hands back, which it has not stored, is the pair that it was begun with, if with one
abbrev pub HandsBack : {K V : Type 0} → Given K V → Node K V → Type 0
HandsBack (Begun kind pair) value = pair ≡ Some value
HandsBack (IsTold kind its asked) value = Unit {0}

-- it was told last to remove what is not there
abbrev pub RemovesNone : {K V : Type 0} → Given K V → Type 0
RemovesNone (Begun kind pair) = ⊥
RemovesNone (IsTold kind its asked) = last_reply None asked ≡ Some reply.Remove

-- a call is of this kind, where it stands so
abbrev pub IsOfKind : {K V Q : Type 0} → Kind → KeyCall K V Q → Calling → Type 0
IsOfKind kind p stands = IsFit kind.present kind.absent kind.takes (standing p stands)

module _ {K V : Type 0} (hash : K → ℕ) (m : Mem (Node K V)) (c : Chart K) (blocks : Blocks) where
  -- what was stored is the pair that the call was begun with, if it was begun with one; or what was changed is what it was told to change
  abbrev pub StoresGiven : Given K V → Change → Type 0
  StoresGiven (Begun kind pair) change = StoresIt m c blocks pair change
  StoresGiven (IsTold kind its asked) change = ChangesAsReplied hash m c blocks its asked change

  -- what an answer without a change leaves so is what it was told to leave so
  abbrev pub LeavesGiven : Given K V → KeyAnswer → Type 0
  LeavesGiven (Begun kind pair) answer = Unit {0}
  LeavesGiven (IsTold kind its asked) answer = AnswersAsReplied hash m c blocks its asked kind answer

  -- It keeps its pair, or what it was told, until then, and which pairs of its keys it has asked about. It is of its kind, and was told nothing else.
  abbrev pub KeepsGiven : (K → Bool) → {Q : Type 0} → Given K V → Change → KeyCall K V Q → Calling → Type 0
  KeepsGiven keys (Begun kind pair) change p stands = (p.replies.takes ≡ takes.Nothing) × KeepsIt m c blocks pair change p stands × IsOfKind kind p stands
  KeepsGiven keys (IsTold kind its asked) change p stands =
      RemembersReplies hash m c blocks its asked change p stands × AsksOnce hash c blocks keys asked its p.replies stands
      × IsOfKind kind p stands × RepliesWithin asked kind
