-- Several maps on one collector, with calls of many callers on each: under every interleaving the invariant of all maps holds.
use Rattle.std.specs.Prelude.{◌≡◌, ◌≢◌, ◌≤◌, ℕ, Bool, false, Option, Some, None}
use Rattle.std.specs.Int.{IsPowerOfTwo}
use Rattle.many_calls.specs.Given.SeizeWordsMem.{Mem, Can, Took, value_at, word_at}
use Rattle.many_calls.specs.Given.SeizeWordsPlan.{May, Steps}
use Rattle.many_calls.specs.Given.SeizeWordsDeclared.at.At.TheVariants.{Root, Word}
use Rattle.many_calls.specs.Given.SeizeWorld.{World, Rests, Request, MayStep, Begin, Step, Happens, IsInside, with_at}
use Rattle.many_calls.specs.Given.TablesNodes.{deferred_word}
use Rattle.many_calls.specs.Given.TablesChunks.{is_incremental}
use Rattle.many_calls.specs.Given.TablesDeclared.node.Node.{Node}
use Rattle.many_calls.specs.Given.TablesDeclared.node.Node.TheVariants as node
use Rattle.many_calls.specs.Given.TablesDeclared.setting.Setting.{Setting}
use Rattle.many_calls.specs.Given.RawCall.{call_plan}
use Rattle.many_calls.specs.Given.RawDeclared.machines.answer.Called.{Called}
use Rattle.many_calls.specs.Given.RawDeclared.machines.asking.Asking.{Asking}
use Rattle.many_calls.specs.Given.RawDeclared.machines.call.Calling.TheVariants as at
use Rattle.many_calls.specs.Given.RawDeclared.machines.call.KeyCall.{KeyCall}
use Rattle.many_calls.specs.Given.RuleChart.{Chart}
use Rattle.many_calls.specs.Given.RuleRule.{no_table}
use Rattle.many_calls.specs.Given.RuleWords.{Blocks}
use Rattle.many_calls.specs.Given.PointsSteps.{AreLawful}
use Rattle.many_calls.specs.Given.PointsTold.{IsRowOfCall}
use Rattle.many_calls.specs.Pairs.{Given}
use Rattle.many_calls.specs.Kept.{IsMaking}
use Rattle.many_calls.specs.Sights.{Visible, IsPartOf, seen_by}
use Rattle.many_calls.specs.Together.{RepliesTaken, CallOnKey, UnderWay, OnKey, UnlessCounts, HasCall, FewWith, CameAbout, IsOfSlots, Closes, IsBegun, begun_at, next_of, change_observed, no_blocks, no_sight, Together, StepsTogether, RowStepsTogether}

-- a map that stands: its setting, the hash of its keys, its tables, the blocks that may be looked at, and what each section sees of them
pub record Standing (K : Type 0) : Type 0 where
  pub setting : Setting
  pub hash : K → ℕ
  pub chart : Chart K
  pub blocks : Blocks
  pub sights : ℕ → Visible

-- one that has no table yet
abbrev pub new_map : {K : Type 0} → Setting → (K → ℕ) → Standing K
new_map setting hash = record { setting = setting; hash = hash; chart = no_table; blocks = no_blocks; sights = λ s. no_sight }

-- calls by map and by caller, of which one is another one now
abbrev pub with_call : {X : Type 0} → (ℕ → ℕ → Option X) → ℕ → ℕ → Option X → ℕ → ℕ → Option X
with_call calls m i it = with_at calls m (with_at (calls m) i it)

-- the map is as it was, but that fewer of its blocks may be looked at, and by whom
abbrev pub IsSameMap : {K : Type 0} → Option (Standing K) → Option (Standing K) → Type 0
IsSameMap None after = after ≡ None
IsSameMap (Some s) after = (blocks : Blocks) × (sights : ℕ → Visible) × (after ≡ Some (record s { blocks = blocks; sights = sights })) × IsPartOf s.chart blocks s.blocks

-- Maps by number, on a collector with batches of this size.
module _ {K Q : Type 0} (V : Type 0) (same : K → K → Bool) (asks : Q → K → Bool) (batch_size : ℕ) (slot : ℕ → ℕ) where
  -- Each map stands together with the calls on it. No two of them have one root, or one counter, and no caller has a call on two of them.
  pub record MapsTogether (w : World (Node K V)) (maps : ℕ → Option (Standing K)) (calls : ℕ → ℕ → Option (UnderWay K V Q)) : Type 0 where
    pub came : CameAbout batch_size w
    pub each : (m : ℕ) (s : Standing K) → maps m ≡ Some s → Together V same s.hash asks s.setting slot w s.chart s.blocks s.sights (calls m)
    pub fit : (m : ℕ) (s : Standing K) → maps m ≡ Some s → AreLawful same s.hash × IsPowerOfTwo s.setting.initial × (s.setting.batch_size ≡ batch_size)
    pub roots : (m n : ℕ) (s r : Standing K) → m ≢ n → maps m ≡ Some s → maps n ≡ Some r → s.setting.root ≢ r.setting.root
    pub counters : (m n : ℕ) (s r : Standing K) → m ≢ n → maps m ≡ Some s → maps n ≡ Some r → s.setting.counter ≢ r.setting.counter
    pub only : (m i : ℕ) → maps m ≡ None → calls m i ≡ None
    pub once : (m n i : ℕ) → HasCall (calls m) i → HasCall (calls n) i → m ≡ n

  -- the invariant holds as before, but for what may be looked at
  abbrev pub AllMapsStand : World (Node K V) → (ℕ → Option (Standing K)) → (ℕ → ℕ → Option (UnderWay K V Q)) → Type 0
  AllMapsStand w maps calls = (maps2 : ℕ → Option (Standing K)) × ((m : ℕ) → IsSameMap (maps m) (maps2 m)) × MapsTogether w maps2 calls

  -- Where no map stands, all do.
  abbrev pub NoMapsBegin : Type 0
  NoMapsBegin = (w : World (Node K V)) → CameAbout batch_size w → MapsTogether w (λ m. None) (λ m i. None)

  -- One more map stands: its root, which leads nowhere, and its counter, which is there, are no other map's.
  abbrev pub MapsCome : Type 0
  MapsCome =
      (w : World (Node K V)) (maps : ℕ → Option (Standing K)) (calls : ℕ → ℕ → Option (UnderWay K V Q)) → MapsTogether w maps calls → (m : ℕ) → maps m ≡ None
      → (setting : Setting) (hash : K → ℕ) → AreLawful same hash → IsPowerOfTwo setting.initial → setting.batch_size ≡ batch_size
      → word_at w.memory (Root setting.root) ≡ Some 0 → value_at w.memory setting.counter ≡ Some node.Shards
      → ((shard : ℕ) → shard ≤ setting.mask → (count : ℕ) × (word_at w.memory (Word setting.counter shard) ≡ Some count)) → IsMaking (w.hand setting.counter)
      → ((n : ℕ) (s : Standing K) → maps n ≡ Some s → (setting.root ≢ s.setting.root) × (setting.counter ≢ s.setting.counter))
      → MapsTogether w (with_at maps m (Some (new_map setting hash))) calls

  -- A caller that has no call on any map, and no row under way, begins one on one of them, within its section.
  abbrev pub CallsBeginInMaps : Type 0
  CallsBeginInMaps =
      (w : World (Node K V)) (maps : ℕ → Option (Standing K)) (calls : ℕ → ℕ → Option (UnderWay K V Q)) → MapsTogether w maps calls
      → (i : ℕ) → ((n : ℕ) → calls n i ≡ None) → w.row i ≡ Rests → IsInside (w.uses (slot i))
      → (m : ℕ) (s : Standing K) → maps m ≡ Some s → (keys : K → Bool) (pair : Given K V) (call : KeyCall K V Q) → IsBegun V same s.hash asks s.setting slot i keys pair call
      → (is_incremental s.setting.mode ≡ false → FewWith (calls m) i (OnKey (begun_at V same s.hash asks s.setting slot s.chart keys pair call)))
      → MapsTogether w maps (with_call calls m i (Some (OnKey (begun_at V same s.hash asks s.setting slot s.chart keys pair call))))

  -- Where a step of a call leads that is none of a row: in its own map as if this were the only one, and all others are as they were.
  pub record StepsInMaps (w : World (Node K V)) (maps : ℕ → Option (Standing K)) (calls : ℕ → ℕ → Option (UnderWay K V Q)) (m : ℕ) (s : Standing K) (i : ℕ) (u : CallOnKey K V Q)
      (m2 : Mem (Node K V)) (p2 : KeyCall K V Q) (progress : Called (Node K V)) : Type 0 where
    pub step : StepsTogether V same s.hash asks s.setting slot w s.chart s.blocks s.sights (calls m) i u m2 p2 progress
    pub together : MapsTogether step.went.w2 (with_at maps m (Some (record s { chart = step.went.c2; blocks = step.blocks2; sights = step.sights2 })))
        (with_call calls m i (next_of (record { keys = u.keys; pair = u.pair; began = u.began; change = change_observed V same s.hash asks s.setting slot step.went.told; call = p2 }) progress))

  -- The promise: whichever caller takes a step of its call, on whichever map, if it is none of a row, it may take it, and the invariant of all maps holds
  -- again.
  abbrev pub CallsStandInMaps : Type 0
  CallsStandInMaps =
      (w : World (Node K V)) (maps : ℕ → Option (Standing K)) (calls : ℕ → ℕ → Option (UnderWay K V Q)) → MapsTogether w maps calls
      → (m : ℕ) (s : Standing K) → maps m ≡ Some s → (i : ℕ) (u : CallOnKey K V Q) → calls m i ≡ Some (OnKey u) → (IsRowOfCall u.call.stands → ⊥)
      → May Can Took value_at w.memory (call_plan asks same s.hash u.call)
      × ((m2 : Mem (Node K V)) (p2 : KeyCall K V Q) (progress : Called (Node K V)) → Steps Took value_at w.memory (call_plan asks same s.hash u.call) m2 (p2, progress)
      → StepsInMaps w maps calls m s i u m2 p2 progress)

  -- The promise of replies: a call that asks, on whichever map, is told what to do, or what it does not take. The invariant of all maps holds then, as they
  -- were, with that call and with all others.
  abbrev pub RepliesStandInMaps : Type 0
  RepliesStandInMaps =
      (w : World (Node K V)) (maps : ℕ → Option (Standing K)) (calls : ℕ → ℕ → Option (UnderWay K V Q)) → MapsTogether w maps calls
      → (m : ℕ) (s : Standing K) → maps m ≡ Some s → (i : ℕ) (u : CallOnKey K V Q) → calls m i ≡ Some (OnKey u) → (asks_at : Asking) → u.call.stands ≡ at.Asks asks_at
      → RepliesTaken V same s.hash asks s.setting slot s.chart (seen_by s.blocks (s.sights (slot i))) u asks_at (λ told. MapsTogether w maps (with_call calls m i (Some (OnKey told))))

  -- Where a step of a row within a call leads: its own map is as it was.
  pub record RowStepsInMaps (w : World (Node K V)) (maps : ℕ → Option (Standing K)) (calls : ℕ → ℕ → Option (UnderWay K V Q)) (m : ℕ) (s : Standing K) (i : ℕ) (u : CallOnKey K V Q)
      (m2 : Mem (Node K V)) (p2 : KeyCall K V Q) (progress : Called (Node K V)) : Type 0 where
    pub step : RowStepsTogether V same s.hash asks s.setting slot w s.chart s.blocks s.sights (calls m) i u m2 p2 progress
    pub together : AllMapsStand step.w2 maps (with_call calls m i (next_of (record { keys = u.keys; pair = u.pair; began = u.began; change = u.change; call = p2 }) progress))

  -- The promise of the steps of rows within calls.
  abbrev pub RowsStandInMaps : Type 0
  RowsStandInMaps =
      (w : World (Node K V)) (maps : ℕ → Option (Standing K)) (calls : ℕ → ℕ → Option (UnderWay K V Q)) → MapsTogether w maps calls
      → (m : ℕ) (s : Standing K) → maps m ≡ Some s → (i : ℕ) (u : CallOnKey K V Q) → calls m i ≡ Some (OnKey u) → IsRowOfCall u.call.stands
      → May Can Took value_at w.memory (call_plan asks same s.hash u.call)
      × ((m2 : Mem (Node K V)) (p2 : KeyCall K V Q) (progress : Called (Node K V)) → Steps Took value_at w.memory (call_plan asks same s.hash u.call) m2 (p2, progress)
      → RowStepsInMaps w maps calls m s i u m2 p2 progress)

  -- The promise of rows between calls: a caller that has no call on any map registers, enters, leaves, refreshes, flushes or gives up its slot; it
  -- ends no section in which a call is under way that needs it, on whichever map.
  abbrev pub GuardsStandInMaps : Type 0
  GuardsStandInMaps =
      (w : World (Node K V)) (maps : ℕ → Option (Standing K)) (calls : ℕ → ℕ → Option (UnderWay K V Q)) → MapsTogether w maps calls → (i : ℕ) → ((m : ℕ) → calls m i ≡ None)
      → ((request : Request) → IsOfSlots request → ((m j : ℕ) (u : UnderWay K V Q) → calls m j ≡ Some u → UnlessCounts u (Closes request (slot j) → ⊥))
      → (w2 : World (Node K V)) → Happens deferred_word batch_size (Begin i request) w w2 → AllMapsStand w2 maps calls)
      × MayStep deferred_word (w.row i) w.memory
      × ((w2 : World (Node K V)) → Happens deferred_word batch_size (Step i) w w2 → AllMapsStand w2 maps calls)
