-- Maps that are made among calls of many callers on other maps: under every interleaving of makings and calls the invariant of all holds.
use Rattle.std.specs.Prelude.{◌≡◌, ◌≢◌, ℕ, ◌+◌, ◌*◌, ◌<◌, ◌≤◌, ◌^◌, ◌⊎◌, Bool, false, List, max, Option, Some, None}
use Rattle.std.specs.Int.{IsPowerOfTwo}
use Rattle.many_calls.specs.Given.SeizeWordsMem.{Mem, Can, Took, value_at, word_at}
use Rattle.many_calls.specs.Given.SeizeWordsPlan.{May, Steps}
use Rattle.many_calls.specs.Given.SeizeWordsDeclared.at.At.TheVariants.{Root, Used, Entry, Word}
use Rattle.many_calls.specs.Given.SeizeDeclared.states.TheConstants.{NEXT}
use Rattle.many_calls.specs.Given.SeizeWorld.{World, Making as MadeBy, LeftTo, Rests, Request, MayStep, Event, Begin, Step, Happens, Runs, IsInside, with_at}
use Rattle.many_calls.specs.Given.SeizeDeclared.advance.Advance.{Advance}
use Rattle.many_calls.specs.Given.SeizeDeclared.advance.Advance.TheVariants as progress
use Rattle.many_calls.specs.Given.TablesChunks.{is_incremental}
use Rattle.many_calls.specs.Given.TablesLengths.{IsTableLen}
use Rattle.many_calls.specs.Given.TablesNodes.{deferred_word}
use Rattle.many_calls.specs.Given.TablesDeclared.node.Node.{Node}
use Rattle.many_calls.specs.Given.TablesDeclared.node.Node.TheVariants as node
use Rattle.many_calls.specs.Given.TablesDeclared.setting.Setting.{Setting}
use Rattle.many_calls.specs.Given.ResizeNewMap.{at_root, with_counter, opening, new_map_plan}
use Rattle.many_calls.specs.Given.ResizeDeclared.new_table.Making.{Making}
use Rattle.many_calls.specs.Given.ResizeDeclared.new_table.Making.TheVariants as makes
use Rattle.many_calls.specs.Given.ResizeDeclared.new_map.NewMap.{NewMap}
use Rattle.many_calls.specs.Given.ResizeDeclared.new_map.Opening.{Opening}
use Rattle.many_calls.specs.Given.ResizeDeclared.new_map.Opening.TheVariants as at
use Rattle.many_calls.specs.Given.RawCall.{call_plan}
use Rattle.many_calls.specs.Given.RawDeclared.machines.answer.Called.{Called}
use Rattle.many_calls.specs.Given.RawDeclared.machines.asking.Asking.{Asking}
use Rattle.many_calls.specs.Given.RawDeclared.machines.call.Calling.TheVariants as calling
use Rattle.many_calls.specs.Given.RawDeclared.machines.call.KeyCall.{KeyCall}
use Rattle.many_calls.specs.Given.RuleChart.{Chart}
use Rattle.many_calls.specs.Given.RuleInWorld.{AllUsers, IsOut}
use Rattle.many_calls.specs.Given.RuleMaps.{spot_of}
use Rattle.many_calls.specs.Given.RuleMoves.{Links, after}
use Rattle.many_calls.specs.Given.RuleRule.{no_table}
use Rattle.many_calls.specs.Given.PointsFactsTables.{NewTableFacts}
use Rattle.many_calls.specs.Given.PointsSteps.{AreLawful}
use Rattle.many_calls.specs.Given.PointsTold.{IsRowOfCall}
use Rattle.many_calls.specs.Pairs.{Given}
use Rattle.many_maps.specs.Maps.{Standing, IsSameMap, with_call, MapsTogether}
use Rattle.many_calls.specs.Sights.{seen_by}
use Rattle.many_calls.specs.Together.{RepliesTaken, OnKey, CallOnKey, UnderWay, UnlessCounts, FewWith, IsOfSlots, Closes, IsBegun, begun_at, next_of, change_observed, no_blocks, StepsTogether, RowStepsTogether}

-- The making of a map that is under way: the number that the map is to have, the setting that the making began with, as many places as its first
-- table is to have, 0 for no table, the hash of its keys, and the machine. The map stands from the step on at which the machine answers.
pub record Beginning (K : Type 0) : Type 0 where
  pub map : ℕ
  pub given : Setting
  pub places : ℕ
  pub hash : K → ℕ
  pub machine : NewMap

-- at this point it has taken its root
abbrev pub HasTaken : Opening → Type 0
HasTaken at.Takes = ⊥
HasTaken at.Shards = Unit {0}
HasTaken (at.Tables making) = Unit {0}
HasTaken (at.Unmakes fault) = Unit {0}
HasTaken (at.Frees fault) = Unit {0}
HasTaken at.Over = ⊥
HasTaken (at.Refused fault) = ⊥

-- and has made its counter
abbrev pub HasMade : Opening → Type 0
HasMade (at.Tables making) = Unit {0}
HasMade (at.Unmakes fault) = Unit {0}
HasMade _ = ⊥

-- a table of this length is being made
abbrev pub HasLen : ℕ → Making → Type 0
HasLen len (makes.Makes table) = table.len ≡ len
HasLen len (makes.Promotes table) = table.len ≡ len
HasLen len (makes.Links table) = table.len ≡ len
HasLen len _ = Unit {0}

-- a new map has no table, or a first one of this length, with eight places at least
abbrev pub IsNewChart : {K : Type 0} → (K → ℕ) → Setting → ℕ → Chart K → Type 0
IsNewChart hash setting places chart =
    ((places ≡ 0) × (chart ≡ no_table)) ⊎ ((places ≢ 0) × (limit : ℕ) × (chart ≡ after (spot_of hash) (is_incremental setting.mode) (Links (max places 8) limit) no_table))

-- this block is the first table of the map that the step has brought: that map's root leads there
abbrev pub IsFirstTable : {K V : Type 0} → World (Node K V) → NewMap × Advance Setting → ℕ → Type 0
IsFirstTable w2 (n2, progress.Done answer) x = word_at w2.memory (Root answer.root) ≡ Some (x * 2048)
IsFirstTable w2 (n2, _) x = ⊥

module _ {K V : Type 0} (w : World (Node K V)) where
  -- there are as many roots, and those that are free lead nowhere
  abbrev pub HasRoots : ℕ → Type 0
  HasRoots roots = (r : ℕ) → r < roots → (used : ℕ) × (word_at w.memory (Used r) ≡ Some used) × (used ≡ 0 → word_at w.memory (Root r) ≡ Some 0)

  -- the root is taken, and leads nowhere yet
  abbrev pub IsTakenRoot : ℕ → Type 0
  IsTakenRoot root = (word_at w.memory (Used root) ≡ Some 1) × (word_at w.memory (Root root) ≡ Some 0)

  -- it is free
  abbrev pub IsFreeRoot : ℕ → Type 0
  IsFreeRoot root = (word_at w.memory (Used root) ≡ Some 0) × (word_at w.memory (Root root) ≡ Some 0)

  -- this caller has made the counter, with its shards
  pub record HasOwnCounter (i : ℕ) (setting : Setting) : Type 0 where
    pub hand : w.hand setting.counter ≡ MadeBy i
    pub value : value_at w.memory setting.counter ≡ Some node.Shards
    pub shards : (shard : ℕ) → shard ≤ setting.mask → (count : ℕ) × (word_at w.memory (Word setting.counter shard) ≡ Some count)

  -- what a making knows at a point: nobody leads its root anywhere or takes its counter, and its table is as it made it
  abbrev pub OpeningFacts : ℕ → ℕ → NewMap → Opening → Type 0
  OpeningFacts roots i n at.Takes = n.setting.root < roots
  OpeningFacts roots i n at.Shards = IsTakenRoot n.setting.root
  OpeningFacts roots i n (at.Tables making) =
      IsTakenRoot n.setting.root × HasOwnCounter i n.setting × NewTableFacts w i n.setting no_table no_blocks (Root n.setting.root) 0 making
      × (n.len ≢ 0) × HasLen (max n.len 8) making.stands
  OpeningFacts roots i n (at.Unmakes fault) = IsTakenRoot n.setting.root × HasOwnCounter i n.setting
  OpeningFacts roots i n (at.Frees fault) = IsTakenRoot n.setting.root
  -- one that has answered is not under way
  OpeningFacts roots i n at.Over = ⊥
  OpeningFacts roots i n (at.Refused fault) = ⊥

  -- Caller i knows so of its making. Setting and length are as they are to be.
  pub record MakingFacts (same : K → K → Bool) (batch_size roots i : ℕ) (b : Beginning K) : Type 0 where
    pub lawful : AreLawful same b.hash
    pub initial : IsPowerOfTwo b.given.initial
    pub batches : b.given.batch_size ≡ batch_size
    pub mask : b.given.mask + 1 < 2 ^ 64
    pub setting_is : b.machine.setting ≡ with_counter (at_root b.given b.machine.setting.root) b.machine.setting.counter
    pub roots_are : b.machine.roots ≡ roots
    pub len_is : b.machine.len ≡ b.places
    pub len : max b.machine.len 8 ≤ 2 ^ 48 → IsTableLen (max b.machine.len 8)
    pub point : OpeningFacts roots i b.machine b.machine.stands

-- Maps by number, on a collector with batches of this size and as many roots, and makings by caller.
module _ {K Q : Type 0} (V : Type 0) (same : K → K → Bool) (asks : Q → K → Bool) (batch_size roots : ℕ) (slot : ℕ → ℕ) where
  -- The maps that stand do so with the calls on them, each at a root that is taken. Who makes a map has no call, and knows of it what its point knows.
  -- No two makings are of one map, or have one root, and what a making has, root or counter, is no standing map's.
  pub record MakingsTogether (w : World (Node K V)) (maps : ℕ → Option (Standing K)) (calls : ℕ → ℕ → Option (UnderWay K V Q)) (makers : ℕ → Option (Beginning K)) : Type 0 where
    pub standing : MapsTogether V same asks batch_size slot w maps calls
    pub free : HasRoots w roots
    pub used : (m : ℕ) (s : Standing K) → maps m ≡ Some s → word_at w.memory (Used s.setting.root) ≡ Some 1
    pub facts : (i : ℕ) (b : Beginning K) → makers i ≡ Some b → MakingFacts w same batch_size roots i b
    pub alone : (i : ℕ) (b : Beginning K) → makers i ≡ Some b → (m : ℕ) → calls m i ≡ None
    pub coming : (i : ℕ) (b : Beginning K) → makers i ≡ Some b → maps b.map ≡ None
    pub numbers : (i j : ℕ) (b d : Beginning K) → i ≢ j → makers i ≡ Some b → makers j ≡ Some d → b.map ≢ d.map
    pub their_roots : (i j : ℕ) (b d : Beginning K) → i ≢ j → makers i ≡ Some b → makers j ≡ Some d → HasTaken b.machine.stands → HasTaken d.machine.stands
        → b.machine.setting.root ≢ d.machine.setting.root
    pub roots_apart : (i m : ℕ) (b : Beginning K) (s : Standing K) → makers i ≡ Some b → maps m ≡ Some s → HasTaken b.machine.stands → b.machine.setting.root ≢ s.setting.root
    pub counters_apart : (i m : ℕ) (b : Beginning K) (s : Standing K) → makers i ≡ Some b → maps m ≡ Some s → HasMade b.machine.stands → b.machine.setting.counter ≢ s.setting.counter

  -- the invariant holds as before, but for what may be looked at
  abbrev pub AllMakingsStand : World (Node K V) → (ℕ → Option (Standing K)) → (ℕ → ℕ → Option (UnderWay K V Q)) → (ℕ → Option (Beginning K)) → Type 0
  AllMakingsStand w maps calls makers = (maps2 : ℕ → Option (Standing K)) × ((m : ℕ) → IsSameMap (maps m) (maps2 m)) × MakingsTogether w maps2 calls makers

  -- Where no map is being made, maps that stand do, each at a root that is taken, if roots that are free lead nowhere.
  abbrev pub NoMakingsBegin : Type 0
  NoMakingsBegin =
      (w : World (Node K V)) (maps : ℕ → Option (Standing K)) (calls : ℕ → ℕ → Option (UnderWay K V Q)) → MapsTogether V same asks batch_size slot w maps calls → HasRoots w roots
      → ((m : ℕ) (s : Standing K) → maps m ≡ Some s → word_at w.memory (Used s.setting.root) ≡ Some 1) → MakingsTogether w maps calls (λ i. None)

  -- A caller that has no call and makes no map begins to make one, of a number that no map has, and none that is being made.
  abbrev pub MakingsBegin : Type 0
  MakingsBegin =
      (w : World (Node K V)) (maps : ℕ → Option (Standing K)) (calls : ℕ → ℕ → Option (UnderWay K V Q)) (makers : ℕ → Option (Beginning K)) → MakingsTogether w maps calls makers
      → (i : ℕ) → makers i ≡ None → ((m : ℕ) → calls m i ≡ None)
      → (map : ℕ) → maps map ≡ None → ((j : ℕ) (d : Beginning K) → makers j ≡ Some d → map ≢ d.map)
      → (given : Setting) (hash : K → ℕ) (places : ℕ) → AreLawful same hash → IsPowerOfTwo given.initial → given.batch_size ≡ batch_size → given.mask + 1 < 2 ^ 64
      → 0 < roots → (max places 8 ≤ 2 ^ 48 → IsTableLen (max places 8))
      → MakingsTogether w maps calls (with_at makers i (Some (record { map = map; given = given; places = places; hash = hash; machine = opening given roots places })))

  -- The map that was made has the setting that was answered, which is the one given, with the root and the counter that the making has found. It has
  -- no table, or a first one of the length that it was to have.
  pub record IsMade (b : Beginning K) (answer : Setting) (s : Standing K) : Type 0 where
    pub setting_is : s.setting ≡ answer
    pub answer_is : answer ≡ with_counter (at_root b.given answer.root) answer.counter
    pub hash_is : s.hash ≡ b.hash
    pub chart_is : IsNewChart b.hash answer b.places s.chart

  -- What a making has, its root and its counter, it has still as it goes on, unless the counter was taken away, and its map has it at the end. One that
  -- is refused has given its root up, and its counter was taken away; if it had no root, nothing is changed.
  abbrev pub PreservesItsOwn : World (Node K V) → World (Node K V) → NewMap → NewMap × Advance Setting → Type 0
  PreservesItsOwn w w2 n (n2, progress.Goes) =
      (HasTaken n.stands → HasTaken n2.stands × (n2.setting.root ≡ n.setting.root))
      × (HasMade n.stands → (HasMade n2.stands × (n2.setting.counter ≡ n.setting.counter)) ⊎ (value_at w2.memory n.setting.counter ≡ None))
  PreservesItsOwn w w2 n (n2, progress.Waits) = ⊥
  PreservesItsOwn w w2 n (n2, progress.Done answer) = (HasTaken n.stands → answer.root ≡ n.setting.root) × (HasMade n.stands → answer.counter ≡ n.setting.counter)
  PreservesItsOwn w w2 n (n2, progress.Refused fault) =
      (HasTaken n.stands → IsFreeRoot w2 n.setting.root) × (HasMade n.stands → value_at w2.memory n.setting.counter ≡ None) × ((HasTaken n.stands → ⊥) → w2.memory ≡ w.memory)

  -- the making goes on with this root
  abbrev pub HasComeTo : NewMap × Advance Setting → ℕ → Type 0
  HasComeTo (n2, progress.Goes) r = HasTaken n2.stands × (n2.setting.root ≡ r)
  HasComeTo (n2, _) r = ⊥

  -- What a step of a making leaves of what is nobody's: each block that is left over is as it was, with its link, and so is each root but that which the
  -- making has. One that was free is so still, unless the making goes on with it.
  pub record LeavesRest (w w2 : World (Node K V)) (n : NewMap) (end : NewMap × Advance Setting) : Type 0 where
    pub hands : (x j : ℕ) → w.hand x ≡ LeftTo j → w2.hand x ≡ LeftTo j
    pub values : (x j : ℕ) → w.hand x ≡ LeftTo j → value_at w2.memory x ≡ value_at w.memory x
    pub links : (x j word : ℕ) → w.hand x ≡ LeftTo j → word_at w.memory (Entry x NEXT) ≡ Some word → word_at w2.memory (Entry x NEXT) ≡ Some word
    pub leads : (r word : ℕ) → (HasTaken n.stands → r ≢ n.setting.root) → word_at w.memory (Root r) ≡ Some word → word_at w2.memory (Root r) ≡ Some word
    pub used : (r : ℕ) → (HasTaken n.stands → r ≢ n.setting.root) → word_at w.memory (Used r) ≡ Some 1 → word_at w2.memory (Used r) ≡ Some 1
    pub free : (r : ℕ) → word_at w.memory (Used r) ≡ Some 0 → (word_at w2.memory (Used r) ≡ Some 0) ⊎ HasComeTo end r

  module _ (w : World (Node K V)) (maps : ℕ → Option (Standing K)) (calls : ℕ → ℕ → Option (UnderWay K V Q)) (makers : ℕ → Option (Beginning K)) (i : ℕ) (b : Beginning K) where
    -- A making goes on; or its map stands, open to calls, and the making is over; or it is over without a map. It never waits.
    abbrev pub MakingOutcome : World (Node K V) → NewMap × Advance Setting → Type 0
    MakingOutcome w2 (n, progress.Goes) = MakingsTogether w2 maps calls (with_at makers i (Some (record b { machine = n })))
    MakingOutcome w2 (n, progress.Waits) = ⊥
    MakingOutcome w2 (n, progress.Done answer) = (s : Standing K) × IsMade b answer s × MakingsTogether w2 (with_at maps b.map (Some s)) calls (with_at makers i None)
    MakingOutcome w2 (n, progress.Refused fault) = MakingsTogether w2 maps calls (with_at makers i None)

    -- Where a step of a making leads: users' events alone lead there, the maps that stood stand as they were, and what is nobody's is left alone. A block
    -- that is out is in the hands that had it, and what is out then was so, or is the first table of the making's map.
    pub record StepsOfMaking (m2 : Mem (Node K V)) (end : NewMap × Advance Setting) : Type 0 where
      pub w2 : World (Node K V)
      pub events : List (Event (Node K V))
      pub users : AllUsers events
      pub runs : Runs deferred_word batch_size events w w2
      pub memory : w2.memory ≡ m2
      pub keeps : PreservesItsOwn w w2 b.machine end
      pub rest : LeavesRest w w2 b.machine end
      pub outs : (x : ℕ) → IsOut (w.hand x) → w2.hand x ≡ w.hand x
      pub links : (x : ℕ) → IsOut (w2.hand x) → IsOut (w.hand x) ⊎ IsFirstTable w2 end x
      pub told : MakingOutcome w2 end

  -- The promise: whichever caller takes a step of its making, it may take it, and the invariant of all holds again.
  abbrev pub MakingsStand : Type 0
  MakingsStand =
      (w : World (Node K V)) (maps : ℕ → Option (Standing K)) (calls : ℕ → ℕ → Option (UnderWay K V Q)) (makers : ℕ → Option (Beginning K)) → MakingsTogether w maps calls makers
      → (i : ℕ) (b : Beginning K) → makers i ≡ Some b
      → May Can Took value_at w.memory (new_map_plan {K = K} {V = V} b.machine)
      × ((m2 : Mem (Node K V)) (end : NewMap × Advance Setting) → Steps Took value_at w.memory (new_map_plan b.machine) m2 end → StepsOfMaking w maps calls makers i b m2 end)

  -- A caller that has no call on any map, makes none, and has no row under way, begins a call on one, within its section.
  abbrev pub CallsBeginWithMakings : Type 0
  CallsBeginWithMakings =
      (w : World (Node K V)) (maps : ℕ → Option (Standing K)) (calls : ℕ → ℕ → Option (UnderWay K V Q)) (makers : ℕ → Option (Beginning K)) → MakingsTogether w maps calls makers
      → (i : ℕ) → makers i ≡ None → ((n : ℕ) → calls n i ≡ None) → w.row i ≡ Rests → IsInside (w.uses (slot i))
      → (m : ℕ) (s : Standing K) → maps m ≡ Some s → (keys : K → Bool) (pair : Given K V) (call : KeyCall K V Q) → IsBegun V same s.hash asks s.setting slot i keys pair call
      → (is_incremental s.setting.mode ≡ false → FewWith (calls m) i (OnKey (begun_at V same s.hash asks s.setting slot s.chart keys pair call)))
      → MakingsTogether w maps (with_call calls m i (Some (OnKey (begun_at V same s.hash asks s.setting slot s.chart keys pair call)))) makers

  -- where a step of a call leads that is none of a row, with makings under way: they go on as they were
  pub record StepsWithMakings (w : World (Node K V)) (maps : ℕ → Option (Standing K)) (calls : ℕ → ℕ → Option (UnderWay K V Q)) (makers : ℕ → Option (Beginning K)) (m : ℕ) (s : Standing K)
      (i : ℕ) (u : CallOnKey K V Q) (m2 : Mem (Node K V)) (p2 : KeyCall K V Q) (progress : Called (Node K V)) : Type 0 where
    pub step : StepsTogether V same s.hash asks s.setting slot w s.chart s.blocks s.sights (calls m) i u m2 p2 progress
    pub together : MakingsTogether step.went.w2 (with_at maps m (Some (record s { chart = step.went.c2; blocks = step.blocks2; sights = step.sights2 })))
        (with_call calls m i (next_of (record { keys = u.keys; pair = u.pair; began = u.began; change = change_observed V same s.hash asks s.setting slot step.went.told; call = p2 }) progress)) makers

  -- The promise of steps of calls.
  abbrev pub CallsPreserveWithMakings : Type 0
  CallsPreserveWithMakings =
      (w : World (Node K V)) (maps : ℕ → Option (Standing K)) (calls : ℕ → ℕ → Option (UnderWay K V Q)) (makers : ℕ → Option (Beginning K)) → MakingsTogether w maps calls makers
      → (m : ℕ) (s : Standing K) → maps m ≡ Some s → (i : ℕ) (u : CallOnKey K V Q) → calls m i ≡ Some (OnKey u) → (IsRowOfCall u.call.stands → ⊥)
      → May Can Took value_at w.memory (call_plan asks same s.hash u.call)
      × ((m2 : Mem (Node K V)) (p2 : KeyCall K V Q) (progress : Called (Node K V)) → Steps Took value_at w.memory (call_plan asks same s.hash u.call) m2 (p2, progress)
      → StepsWithMakings w maps calls makers m s i u m2 p2 progress)

  -- The promise of replies: makings go on as they were.
  abbrev pub RepliesPreserveWithMakings : Type 0
  RepliesPreserveWithMakings =
      (w : World (Node K V)) (maps : ℕ → Option (Standing K)) (calls : ℕ → ℕ → Option (UnderWay K V Q)) (makers : ℕ → Option (Beginning K)) → MakingsTogether w maps calls makers
      → (m : ℕ) (s : Standing K) → maps m ≡ Some s → (i : ℕ) (u : CallOnKey K V Q) → calls m i ≡ Some (OnKey u) → (asks_at : Asking) → u.call.stands ≡ calling.Asks asks_at
      → RepliesTaken V same s.hash asks s.setting slot s.chart (seen_by s.blocks (s.sights (slot i))) u asks_at (λ told. MakingsTogether w maps (with_call calls m i (Some (OnKey told))) makers)

  -- where a step of a row within a call leads
  pub record RowStepsWithMakings (w : World (Node K V)) (maps : ℕ → Option (Standing K)) (calls : ℕ → ℕ → Option (UnderWay K V Q)) (makers : ℕ → Option (Beginning K)) (m : ℕ) (s : Standing K)
      (i : ℕ) (u : CallOnKey K V Q) (m2 : Mem (Node K V)) (p2 : KeyCall K V Q) (progress : Called (Node K V)) : Type 0 where
    pub step : RowStepsTogether V same s.hash asks s.setting slot w s.chart s.blocks s.sights (calls m) i u m2 p2 progress
    pub together : AllMakingsStand step.w2 maps (with_call calls m i (next_of (record { keys = u.keys; pair = u.pair; began = u.began; change = u.change; call = p2 }) progress)) makers

  -- The promise of the steps of rows within calls.
  abbrev pub RowsPreserveWithMakings : Type 0
  RowsPreserveWithMakings =
      (w : World (Node K V)) (maps : ℕ → Option (Standing K)) (calls : ℕ → ℕ → Option (UnderWay K V Q)) (makers : ℕ → Option (Beginning K)) → MakingsTogether w maps calls makers
      → (m : ℕ) (s : Standing K) → maps m ≡ Some s → (i : ℕ) (u : CallOnKey K V Q) → calls m i ≡ Some (OnKey u) → IsRowOfCall u.call.stands
      → May Can Took value_at w.memory (call_plan asks same s.hash u.call)
      × ((m2 : Mem (Node K V)) (p2 : KeyCall K V Q) (progress : Called (Node K V)) → Steps Took value_at w.memory (call_plan asks same s.hash u.call) m2 (p2, progress)
      → RowStepsWithMakings w maps calls makers m s i u m2 p2 progress)

  -- The promise of rows between calls, of whoever has no call, whether it makes a map or not.
  abbrev pub GuardsPreserveWithMakings : Type 0
  GuardsPreserveWithMakings =
      (w : World (Node K V)) (maps : ℕ → Option (Standing K)) (calls : ℕ → ℕ → Option (UnderWay K V Q)) (makers : ℕ → Option (Beginning K)) → MakingsTogether w maps calls makers
      → (i : ℕ) → ((m : ℕ) → calls m i ≡ None)
      → ((request : Request) → IsOfSlots request → ((m j : ℕ) (u : UnderWay K V Q) → calls m j ≡ Some u → UnlessCounts u (Closes request (slot j) → ⊥))
      → (w2 : World (Node K V)) → Happens deferred_word batch_size (Begin i request) w w2 → AllMakingsStand w2 maps calls makers)
      × MayStep deferred_word (w.row i) w.memory
      × ((w2 : World (Node K V)) → Happens deferred_word batch_size (Step i) w w2 → AllMakingsStand w2 maps calls makers)
