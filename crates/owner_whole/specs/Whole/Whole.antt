-- What is promised of whole calls for one owner: where each begins, where each of its steps leads, and that its steps terminate.
use Rattle.std.specs.Prelude.{◌≡◌, ℕ, ◌^◌, ◌<◌, ◌≤◌, Bool, Some, true}
use Rattle.std.specs.Int.{IsPowerOfTwo}
use Rattle.seize_words.specs.OneMemory.Mem.{Mem, Can, Took, value_at, word_at}
use Rattle.seize_words.specs.OneMemory.Plan.{May, Steps}
use Rattle.seize_words.specs.declared.at.At.TheVariants.{Root, Word}
use Rattle.seize_words.specs.declared.fault.Fault.{Fault}
use Rattle.seize_words.specs.declared.fault.Fault.TheVariants.{RemoveNothing}
use Rattle.seize.specs.World.{World, Rests, IsInside}
use Rattle.map_tables.specs.declared.node.Node.{Node}
use Rattle.map_tables.specs.declared.setting.Setting.{Setting}
use Rattle.papaya_raw.specs.Call.{call_plan}
use Rattle.papaya_raw.specs.declared.machines.answer.Called.{Called}
use Rattle.papaya_raw.specs.declared.machines.answer.Called.TheVariants as called
use Rattle.papaya_raw.specs.declared.machines.asking.Asking.{Asking}
use Rattle.papaya_raw.specs.declared.machines.call.KeyCall.{KeyCall}
use Rattle.papaya_raw.specs.declared.machines.call.Calling.TheVariants as at
use Rattle.map_measures.specs.Given.RuleChart.{Chart}
use Rattle.map_measures.specs.Given.RuleMaps.{spot_of}
use Rattle.map_measures.specs.Given.RuleRule.{Rule, no_table}
use Rattle.map_measures.specs.Given.RuleInWorld.{IsMapIn}
use Rattle.papaya_raw.specs.CallAsks.{replied}
use Rattle.papaya_raw.specs.declared.machines.asking.MachineReply.{MachineReply}
use Rattle.papaya_raw.specs.declared.machines.answer.KeyAnswer.{KeyAnswer}
use Rattle.map_tables.specs.declared.node.Node.TheVariants as node
use Rattle.map_tables.specs.Chunks.{is_incremental}
use Rattle.owner_whole.specs.Whole.Contents.{HasRun}
use Rattle.map_measures.specs.Given.RuleWords.{Blocks}
use Rattle.owner_facts.specs.Given.PointsFactsCalls.{Change, Unchanged}
use Rattle.owner_facts.specs.Given.PointsSteps.{AreLawful}
use Rattle.owner_facts.specs.Alone.Alone.{HasChanged}
use Rattle.owner_facts.specs.Alone.Counted.{HasAdded, counted_for, counted_at}
use Rattle.owner_facts.specs.Alone.Counting.{IsCounted}
use Rattle.owner_facts.specs.Alone.Endings.{RunsEnd}
use Rattle.owner_facts.specs.Given.CallersKept.{IsMaking}
use Rattle.map_measures.specs.Given.CallersPairs.{Given, HandsBack, RemovesNone}
use Rattle.owner_facts.specs.Given.CallersSights.{Visible, seen_by}
use Rattle.owner_facts.specs.Given.CallersTogether.{CallOnKey, OnKey, CameAbout, no_blocks, no_sight, in_slot, IsBegun, begun_at, AnswersOnce, IsReclaimed, RepliesTaken}
use Rattle.map_measures.specs.Given.LateFaults.{CallRefusesSo, HoldsInCalling}
use Rattle.owner_whole.specs.Whole.Limits.{IsForTheLast, IsTheLast}
use Rattle.owner_whole.specs.Whole.Owner.{IsQuiescent, IsAlone}

-- this call on one key, where it goes on, and what it has changed
abbrev pub then_so : {K V Q : Type 0} → CallOnKey K V Q → Change → KeyCall K V Q → CallOnKey K V Q
then_so u change p = record { keys = u.keys; pair = u.pair; began = u.began; change = change; call = p }

-- a call that tells this takes a further step, and no reply
abbrev pub Continues : {T : Type 0} → Called T → Type 0
Continues (called.Done answer) = ⊥
Continues (called.Refused fault) = ⊥
Continues (called.Asks asked) = ⊥
Continues _ = Unit {0}

module _ {K V Q : Type 0} (same : K → K → Bool) (hash : K → ℕ) (asks : Q → K → Bool) where
  -- a call takes a step, and goes on
  abbrev pub StepsOn : KeyCall K V Q × Mem (Node K V) → KeyCall K V Q × Mem (Node K V) → Type 0
  StepsOn x y = (progress : Called (Node K V)) × Continues progress × Steps Took value_at x.1 (call_plan asks same hash x.0) y.1 (y.0, progress)

  -- each run of its steps comes to an end, or to a question
  abbrev pub Terminates : KeyCall K V Q → Mem (Node K V) → Type 0
  Terminates p m = RunsEnd (KeyCall K V Q × Mem (Node K V)) StepsOn (p, m)

module _ {K V Q : Type 0} (same : K → K → Bool) (hash : K → ℕ) (asks : Q → K → Bool) (setting : Setting) (slot : ℕ → ℕ) where
  -- After a step, by what it tells: it never waits. It is alone still, or asks something, or has ended, and the owner rests. What a row gives back was in
  -- a block that no section held.
  abbrev pub Leads : World (Node K V) → World (Node K V) → Chart K → Blocks → (ℕ → Visible) → CallOnKey K V Q → Called (Node K V) → Type 0
  Leads w w2 c2 blocks2 sights2 u called.Goes = IsAlone same hash asks setting slot w2 c2 blocks2 sights2 (OnKey u)
  Leads w w2 c2 blocks2 sights2 u called.Waits = ⊥
  Leads w w2 c2 blocks2 sights2 u (called.Gave value) = IsAlone same hash asks setting slot w2 c2 blocks2 sights2 (OnKey u) × IsReclaimed w w2 value
  Leads w w2 c2 blocks2 sights2 u (called.Unstored value) = IsAlone same hash asks setting slot w2 c2 blocks2 sights2 (OnKey u)
  Leads w w2 c2 blocks2 sights2 u (called.Asks asked) = IsAlone same hash asks setting slot w2 c2 blocks2 sights2 (OnKey u) × (asks_at : Asking) × (u.call.stands ≡ at.Asks asks_at)
  Leads w w2 c2 blocks2 sights2 u (called.Done answer) =
      IsQuiescent {K = K} {V = V} {Q = Q} same hash asks setting slot w2 c2 blocks2 sights2 × (seen : Blocks) × IsMapIn same hash (in_slot setting (slot 0)) w2 c2 seen
      × ((o : ℕ) → o < c2.stored → seen.pair_known o ≡ true → seen.pair o ≡ blocks2.pair o) × AnswersOnce V same hash asks setting slot w2 c2 seen 0 u u.change answer
  Leads w w2 c2 blocks2 sights2 u (called.Refused fault) = IsQuiescent {K = K} {V = V} {Q = Q} same hash asks setting slot w2 c2 blocks2 sights2 × (u.change ≡ Unchanged)

  -- where a step leads, be it one of a row of the collector
  pub record StepLeads (w : World (Node K V)) (c : Chart K) (blocks : Blocks) (u : CallOnKey K V Q) (m2 : Mem (Node K V)) (p2 : KeyCall K V Q) (progress : Called (Node K V)) : Type 0 where
    pub w2 : World (Node K V)
    pub c2 : Chart K
    pub blocks2 : Blocks
    pub sights2 : ℕ → Visible
    pub change2 : Change
    pub memory : w2.memory ≡ m2
    pub leads : Leads w w2 c2 blocks2 sights2 (then_so u change2 p2) progress
    -- what the call has changed since the map stood in some way, and that it has kept all other pairs
    pub runs : (m0 : Mem (Node K V)) (c0 : Chart K) (blocks0 : Blocks) → Rule same (spot_of hash) (is_incremental setting.mode) c0
        → HasRun same hash setting u.keys m0 c0 blocks0 u.change w.memory c blocks → HasRun same hash setting u.keys m0 c0 blocks0 change2 w2.memory c2 blocks2
    -- the shards of the counter say so much more as it has counted: what its answer tells, and no more where it is refused
    pub counts : (m0 : Mem (Node K V)) → HasAdded setting m0 (counted_at u.call.stands) w.memory → HasAdded setting m0 (counted_at p2.stands) w2.memory
    pub answered : (answer : KeyAnswer) → progress ≡ called.Done answer → counted_at p2.stands ≡ counted_for answer
    pub refused : (fault : Fault) → progress ≡ called.Refused fault → (m0 : Mem (Node K V)) → HasAdded setting m0 (counted_at u.call.stands) w.memory → HasAdded setting m0 0 w2.memory
    -- what it hands back is the pair that it was begun with
    pub hands : (value : Node K V) → progress ≡ called.Unstored value → HandsBack u.pair value
    -- it is refused the removal of what is not there where it was told to remove that
    pub removes : (fault : Fault) → progress ≡ called.Refused fault → fault ≡ RemoveNothing → RemovesNone u.pair
    -- in incremental mode it is refused for the length of a table only where the last table of the map cannot be followed, as it is then
    pub ends : is_incremental setting.mode ≡ true → setting.initial ≤ 2 ^ 48 → HoldsInCalling (IsForTheLast c) (IsTheLast c) u.call.trial.table u.call.stands
        → HoldsInCalling (IsForTheLast c2) (IsTheLast c2) p2.trial.table p2.stands × CallRefusesSo (IsForTheLast c2) progress
    -- the pairs that could be looked at can be still, in the same blocks, with the same values
    pub looks : (o : ℕ) → o < c.stored → blocks.pair_known o ≡ true
        → (blocks2.pair_known o ≡ true) × (blocks2.pair o ≡ blocks.pair o) × (value_at w2.memory (blocks.pair o) ≡ value_at w.memory (blocks.pair o))

module _ {K Q : Type 0} (V : Type 0) (same : K → K → Bool) (hash : K → ℕ) (asks : Q → K → Bool) (setting : Setting) (slot : ℕ → ℕ) where
  -- A map that has no table yet rests, where no row is under way, and the slot is within a section.
  abbrev pub MapBeginsQuiescent : Type 0
  MapBeginsQuiescent =
      (w : World (Node K V)) → CameAbout setting.batch_size w → word_at w.memory (Root setting.root) ≡ Some 0 → value_at w.memory setting.counter ≡ Some node.Shards
      → ((shard : ℕ) → shard ≤ setting.mask → (count : ℕ) × (word_at w.memory (Word setting.counter shard) ≡ Some count)) → IsMaking (w.hand setting.counter)
      → ((i : ℕ) → w.row i ≡ Rests) → IsInside (w.uses (slot 0)) → IsQuiescent {Q = Q} same hash asks setting slot w no_table no_blocks (λ s. no_sight)

  -- Where the owner rests, each call on one key begins alone.
  abbrev pub CallsBeginAlone : Type 0
  CallsBeginAlone =
      AreLawful same hash → (w : World (Node K V)) (c : Chart K) (blocks : Blocks) (sights : ℕ → Visible) → IsQuiescent {Q = Q} same hash asks setting slot w c blocks sights
      → (keys : K → Bool) (pair : Given K V) (call : KeyCall K V Q) → IsBegun V same hash asks setting slot 0 keys pair call
      → IsAlone same hash asks setting slot w c blocks sights (OnKey (begun_at V same hash asks setting slot c keys pair call))

  -- A call that is alone may take its next step, whether that is its own or one of a row of the collector.
  abbrev pub CallsContinueAlone : Type 0
  CallsContinueAlone =
      AreLawful same hash → IsPowerOfTwo setting.initial
      → (w : World (Node K V)) (c : Chart K) (blocks : Blocks) (sights : ℕ → Visible) (u : CallOnKey K V Q) → IsAlone same hash asks setting slot w c blocks sights (OnKey u)
      → May Can Took value_at w.memory (call_plan asks same hash u.call)
      × ((m2 : Mem (Node K V)) (p2 : KeyCall K V Q) (progress : Called (Node K V)) → Steps Took value_at w.memory (call_plan asks same hash u.call) m2 (p2, progress)
      → StepLeads same hash asks setting slot w c blocks u m2 p2 progress)

  -- Told anything where it asks, it is alone still.
  abbrev pub RepliesLeadOn : Type 0
  RepliesLeadOn =
      AreLawful same hash → IsPowerOfTwo setting.initial
      → (w : World (Node K V)) (c : Chart K) (blocks : Blocks) (sights : ℕ → Visible) (u : CallOnKey K V Q) → IsAlone same hash asks setting slot w c blocks sights (OnKey u)
      → (asks_at : Asking) → u.call.stands ≡ at.Asks asks_at
      → RepliesTaken V same hash asks setting slot c (seen_by blocks (sights (slot 0))) u asks_at (λ told. IsAlone same hash asks setting slot w c blocks sights (OnKey told))

  -- Each run of its steps, with those of the rows that it begins, comes to an end, or to a question.
  abbrev pub CallsComeToAnEnd : Type 0
  CallsComeToAnEnd =
      AreLawful same hash → IsPowerOfTwo setting.initial
      → (w : World (Node K V)) (c : Chart K) (blocks : Blocks) (sights : ℕ → Visible) (u : CallOnKey K V Q) → IsAlone same hash asks setting slot w c blocks sights (OnKey u)
      → Terminates same hash asks u.call w.memory

  -- A reply counts nothing.
  abbrev pub RepliesCountNothing : Type 0
  RepliesCountNothing =
      (p : KeyCall K V Q) (asks_at : Asking) → p.stands ≡ at.Asks asks_at → (reply : MachineReply V) → counted_at (replied p reply).0.stands ≡ counted_at p.stands

  -- Where a call answers, and the shards said how many pairs the map had as it began, they say so of the map at its end.
  abbrev pub CountsAtEnd : Type 0
  CountsAtEnd =
      (w : World (Node K V)) (c : Chart K) (seen : Blocks) → IsMapIn same hash (in_slot setting (slot 0)) w c seen → (m0 : Mem (Node K V)) (c0 : Chart K)
      → Rule same (spot_of hash) (is_incremental setting.mode) c0 → (u : CallOnKey K V Q) → HasChanged same hash setting u.keys c0 c u.change
      → (answer : KeyAnswer) → AnswersOnce V same hash asks setting slot w c seen 0 u u.change answer → HasAdded setting m0 (counted_for answer) w.memory
      → IsCounted setting m0 c0 → IsCounted setting w.memory c

-- So they do where nothing was changed, and nothing counted.
abbrev pub CountsWhereUnchanged : {K : Type 0} → Type 0 → (K → K → Bool) → (K → ℕ) → Setting → Type 0
CountsWhereUnchanged {K} V same hash setting =
    (w : World (Node K V)) (c : Chart K) (blocks : Blocks) → IsMapIn same hash setting w c blocks → (m0 : Mem (Node K V)) (c0 : Chart K) → Rule same (spot_of hash) (is_incremental setting.mode) c0
    → (keys : K → Bool) → HasChanged same hash setting keys c0 c Unchanged → HasAdded setting m0 0 w.memory → IsCounted setting m0 c0 → IsCounted setting w.memory c
