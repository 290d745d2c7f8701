-- What is promised of each step of a call of the map, between any two steps of others.
use Rattle.std.specs.Prelude.{◌≡◌, ℕ, ◌^◌, ◌<◌, Bool, Option, Some, None}
use Rattle.std.specs.Int.{IsPowerOfTwo}
use Rattle.map_rule.specs.Given.SeizeWordsMem.{Mem, Can, Took, value_at}
use Rattle.map_rule.specs.Given.SeizeWordsPlan.{May, Steps}
use Rattle.papaya_raw.specs.Given.SeizeWorld.{World}
use Rattle.papaya_raw.specs.Given.SeizeDeclared.advance.Advance.{Advance}
use Rattle.papaya_raw.specs.Call.{call_plan}
use Rattle.papaya_raw.specs.CallAsks.{computing, updating, updating_or_inserting, trying_to_insert_with, removing_if, replied}
use Rattle.papaya_raw.specs.CallPoints.{getting, removing, inserting, trying_to_insert}
use Rattle.papaya_raw.specs.declared.machines.answer.KeyAnswer.{KeyAnswer}
use Rattle.papaya_raw.specs.declared.machines.asking.MachineReply.{MachineReply}
use Rattle.papaya_raw.specs.declared.machines.asking.Told.{Told}
use Rattle.papaya_raw.specs.declared.machines.asking.Told.TheVariants as tells
use Rattle.map_rule.specs.Given.ResizeLookup.{lookup_plan, looking}
use Rattle.papaya_raw.specs.Given.TablesDeclared.node.Node.{Node}
use Rattle.papaya_raw.specs.Given.TablesDeclared.resize_mode.ResizeMode.{ResizeMode}
use Rattle.papaya_raw.specs.Given.TablesDeclared.setting.Setting.{Setting}
use Rattle.papaya_raw.specs.declared.machines.answer.Called.{Called}
use Rattle.papaya_raw.specs.declared.machines.call.KeyCall.{KeyCall}
use Rattle.map_rule.specs.Given.ResizeDeclared.lookup.Lookup.{Lookup}
use Rattle.map_rule.specs.Chart.{Chart}
use Rattle.map_rule.specs.Rule.{IsLawful}
use Rattle.map_rule.specs.Words.{Blocks}
use Rattle.map_rule.specs.Maps.{spot_of, IsClass, IsMap}
use Rattle.map_rule.specs.InWorld.{IsMapIn, StepSpec}
use Rattle.map_facts.specs.FactsLooks.{LookupFacts}
use Rattle.map_facts.specs.FactsCalls.{Change, Unchanged, CallFacts}
use Rattle.map_facts.specs.Told.{LookupOutcome, IsRowOfCall, HasAnswered, CallOutcome}
use Rattle.map_facts.specs.FactsIdle.{IsIdle}

-- what a call may know from the beginning is to be stored where its key is missing
abbrev pub first_reply : {V : Type 0} → Option V → Told V
first_reply (Some value) = tells.Value value
first_reply None = tells.Nothing

-- keys are lawful, and a hash is a word
pub record AreLawful {K : Type 0} (same : K → K → Bool) (hash : K → ℕ) : Type 0 where
  pub lawful : IsLawful same (spot_of hash)
  pub fits : (k : K) → hash k < 2 ^ 64

module _ {K : Type 0} (same : K → K → Bool) (hash : K → ℕ) where
  -- A lookup knows what its first point knows.
  abbrev pub LookupsBegin : Type 0
  LookupsBegin = (mode : ResizeMode) (root : ℕ) (keys : K → Bool) (code : ℕ) (c : Chart K) (blocks : Blocks) → LookupFacts same hash mode root keys code c blocks (looking root mode code)

module _ {K : Type 0} (V : Type 0) (same : K → K → Bool) (hash : K → ℕ) where
  -- Where a map stands in a memory, a lookup that knows what its point knows may take its step. It changes nothing, and tells what is so.
  abbrev pub LookupsTell : Type 0
  LookupsTell =
      AreLawful same hash → (mode : ResizeMode) (root : ℕ) (keys : K → Bool) (code : ℕ) (m : Mem (Node K V)) (c : Chart K) (blocks : Blocks) (l : Lookup)
      → IsClass same hash keys code → IsMap same hash mode root m c blocks → LookupFacts same hash mode root keys code c blocks l
      → May Can Took value_at m (lookup_plan keys l)
      × ((m2 : Mem (Node K V)) (end : Lookup × Advance (Option ℕ)) → Steps Took value_at m (lookup_plan keys l) m2 end
      → (m2 ≡ m) × LookupOutcome same hash mode root keys code c blocks end)

module _ {K Q : Type 0} (V : Type 0) (same : K → K → Bool) (hash : K → ℕ) (asks : Q → K → Bool) where
  -- Where a map stands in the collector's world, a call that knows what its point knows may take its step, if that is no step of a row of the
  -- collector. It makes one move at most, and the map stands where it leads. A call changes the map in one step at most, and this is the change
  -- that it tells; one that changes nothing tells what is so.
  abbrev pub CallsPreserveTheMap : Type 0
  CallsPreserveTheMap =
      AreLawful same hash → (setting : Setting) → IsPowerOfTwo setting.initial
      → (w : World (Node K V)) (caller : ℕ) (c : Chart K) (blocks : Blocks) (keys : K → Bool) (change : Change) (p : KeyCall K V Q)
      → IsMapIn same hash setting w c blocks → CallFacts same hash asks w caller setting c blocks keys change p → (IsRowOfCall p.stands → ⊥)
      → May Can Took value_at w.memory (call_plan asks same hash p)
      × ((m2 : Mem (Node K V)) (p2 : KeyCall K V Q) (progress : Called (Node K V)) → Steps Took value_at w.memory (call_plan asks same hash p) m2 (p2, progress)
      → StepSpec same hash setting caller w c blocks m2 (λ w2 c2 blocks2. CallOutcome same hash asks caller setting keys c change p w2 c2 blocks2 p2 progress))

  -- a call that has changed nothing knows what its point knows
  abbrev pub Begins : Setting → World (Node K V) → ℕ → Chart K → Blocks → (K → Bool) → KeyCall K V Q → Type 0
  Begins setting w caller c blocks keys p = CallFacts same hash asks w caller setting c blocks keys Unchanged p

  -- It knows that from its first step on, for the keys that it is asked for, if its caller has no part in a copying.
  abbrev pub CallsBegin : Type 0
  CallsBegin =
      AreLawful same hash → (setting : Setting) (w : World (Node K V)) (caller : ℕ) (c : Chart K) (blocks : Blocks) → IsIdle same hash w caller setting c blocks
      → ((q : Q) (code : ℕ) → code < 2 ^ 64 → IsClass same hash (asks q) code
      → Begins setting w caller c blocks (asks q) (getting setting code q) × Begins setting w caller c blocks (asks q) (removing setting code q))
      × ((key : K) (value : V)
      → Begins setting w caller c blocks (same key) (inserting setting (hash key) key value)
      × Begins setting w caller c blocks (same key) (trying_to_insert setting (hash key) key value))

  -- So does a call that asks.
  abbrev pub AskingCallsBegin : Type 0
  AskingCallsBegin =
      AreLawful same hash → (setting : Setting) (w : World (Node K V)) (caller : ℕ) (c : Chart K) (blocks : Blocks) → IsIdle same hash w caller setting c blocks
      → ((q : Q) (code : ℕ) → code < 2 ^ 64 → IsClass same hash (asks q) code → Begins setting w caller c blocks (asks q) (removing_if setting code q))
      × ((key : K) (absent : Option V)
      → Begins setting w caller c blocks (same key) (computing setting (hash key) key)
      × Begins setting w caller c blocks (same key) (updating setting (hash key) key)
      × Begins setting w caller c blocks (same key) (updating_or_inserting setting (hash key) key (first_reply absent))
      × Begins setting w caller c blocks (same key) (trying_to_insert_with setting (hash key) key))

  -- A call that is told what it has asked, or anything else, knows what its next point knows. What it is to answer then is what it has asked, and
  -- nothing has changed.
  abbrev pub RepliesAreTaken : Type 0
  RepliesAreTaken =
      AreLawful same hash → (setting : Setting) → IsPowerOfTwo setting.initial
      → (w : World (Node K V)) (caller : ℕ) (c : Chart K) (blocks : Blocks) (keys : K → Bool) (change : Change) (p : KeyCall K V Q)
      → IsMapIn same hash setting w c blocks → CallFacts same hash asks w caller setting c blocks keys change p → (reply : MachineReply V)
      → CallFacts same hash asks w caller setting c blocks keys change (replied p reply).0
      × ((answer : KeyAnswer) → HasAnswered answer (replied p reply).0.stands → HasAnswered answer p.stands)
