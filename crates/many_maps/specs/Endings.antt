-- Maps that end while others have calls on other maps, and while maps are made: under every interleaving the invariant of all holds.
use Rattle.std.specs.Prelude.{◌≡◌, ◌≢◌, ℕ, ◌<◌, ◌≤◌, ◌⊎◌, Bool, false, cond, List, [], ◌∷◌, ◌++◌, Option, Some, None}
use Rattle.many_calls.specs.Given.SeizeWordsMem.{Mem, Can, Took, value_at}
use Rattle.many_calls.specs.Given.SeizeWordsPlan.{May, Steps}
use Rattle.many_calls.specs.Given.SeizeWorld.{World, Rests, Request, MayStep, Begin, Step, Ends, Happens, Runs, LeftTo, IsNotLeft, IsInside, times, with_at}
use Rattle.many_calls.specs.Given.SeizeDeclared.rows.settle.Settled.{Settled}
use Rattle.many_calls.specs.Given.SeizeDeclared.rows.settle.Settled.TheVariants as settled
use Rattle.many_calls.specs.Given.SeizeDeclared.advance.Advance.{Advance}
use Rattle.many_calls.specs.Given.SeizeDeclared.advance.Advance.TheVariants as progress
use Rattle.many_calls.specs.Given.TablesChunks.{is_incremental}
use Rattle.many_calls.specs.Given.TablesNodes.{deferred_word}
use Rattle.many_calls.specs.Given.TablesDeclared.node.Node.{Node}
use Rattle.many_calls.specs.Given.TablesDeclared.setting.Setting.{Setting}
use Rattle.many_calls.specs.Given.ResizeNewMap.{opening, new_map_plan}
use Rattle.many_calls.specs.Given.ResizeDeclared.new_map.NewMap.{NewMap}
use Rattle.many_calls.specs.Given.RawCall.{call_plan}
use Rattle.many_calls.specs.Given.RawEndMap.{ending, end_map_plan}
use Rattle.many_calls.specs.Given.RawDeclared.machines.answer.Called.{Called}
use Rattle.many_calls.specs.Given.RawDeclared.machines.asking.Asking.{Asking}
use Rattle.many_calls.specs.Given.RawDeclared.machines.call.Calling.TheVariants as at
use Rattle.many_calls.specs.Given.RawDeclared.machines.call.KeyCall.{KeyCall}
use Rattle.many_calls.specs.Given.RawDeclared.machines.end_map.EndMap.{EndMap}
use Rattle.many_calls.specs.Given.RuleChart.{Chart}
use Rattle.many_calls.specs.Given.RuleWords.{Blocks}
use Rattle.many_calls.specs.Given.PointsSteps.{AreLawful}
use Rattle.many_calls.specs.Given.PointsTold.{IsRowOfCall}
use Rattle.many_calls.specs.Kept.{IsPair}
use Rattle.many_calls.specs.Pairs.{Given}
use Rattle.many_maps.specs.Maps.{Standing, IsSameMap, with_call}
use Rattle.many_maps.specs.Makings.{Beginning, HasTaken, HasMade, MakingsTogether, StepsOfMaking, IsMade}
use Rattle.many_calls.specs.Sights.{seen_by}
use Rattle.many_calls.specs.Together.{RepliesTaken, CallOnKey, UnderWay, OnKey, UnlessCounts, FewWith, IsOfSlots, Closes, IsBegun, begun_at, next_of, change_observed, StepsTogether, RowStepsTogether}
use Rattle.many_maps.specs.FactsEnds.{Deed, LeavesTable, events_of, taken_by, left_by, joined_by, Spares, RootIs, BeganIn, CarryTheirs, EndFacts, back_of, wait_before}
use Rattle.many_maps.specs.Orders.{pairs_of}

-- The end of a map that is under way: the map as its end began, in which world that was, the machine, the blocks that it has reclaimed, and those that
-- wait, since a section may hold them: they were behind its tables.
pub record Finishing (K V : Type 0) : Type 0 where
  pub setting : Setting
  pub hash : K → ℕ
  pub chart : Chart K
  pub blocks : Blocks
  pub began : World (Node K V)
  pub machine : EndMap
  pub back : List ℕ
  pub waits : List ℕ

-- the end of a map that stands begins in this world; its collector is not its own
abbrev pub finishing_of : {K V : Type 0} → Standing K → World (Node K V) → Finishing K V
finishing_of s w = record {
  setting = s.setting;
  hash = s.hash;
  chart = s.chart;
  blocks = s.blocks;
  began = w;
  machine = ending s.setting false;
  back = [];
  waits = [];
}

-- it has its counter still
abbrev pub HasCounter : {K V : Type 0} → Finishing K V → Type 0
HasCounter f = times f.setting.counter f.back ≡ 0

-- what waits from then on, after a deed: what was behind a table that is left over
abbrev pub waiting_by : Deed → List ℕ
waiting_by (LeavesTable b further) = further
waiting_by _ = []

-- the pairs that are to be reclaimed are those of the map, each once
abbrev pub AllPairsOnce : {K : Type 0} → Bool → Chart K → Type 0
AllPairsOnce incremental c = (n : ℕ) → times n (pairs_of incremental c) ≡ cond (c.current n) 1 0

-- Caller i knows so of its end of a map, whatever each table carries by now.
pub record FinishingFacts {K V : Type 0} (same : K → K → Bool) (batch_size : ℕ) (w : World (Node K V)) (i : ℕ) (f : Finishing K V) : Type 0 where
  pub lawful : AreLawful same f.hash
  pub batches : f.setting.batch_size ≡ batch_size
  pub lists : ℕ → List ℕ
  pub past : ℕ
  pub stood : BeganIn f.setting f.chart f.blocks lists false same f.hash f.began
  pub facts : EndFacts f.setting f.chart f.blocks lists false i f.hash f.began w f.machine past f.back
  pub theirs : CarryTheirs f.setting f.chart f.blocks lists false w past
  pub each : AllPairsOnce (is_incremental f.setting.mode) f.chart
  pub waits_are : f.waits ≡ wait_before f.setting f.chart f.blocks lists false past
  pub waiting : (x : ℕ) → 0 < times x f.waits → IsPair w x  -- what waits are pairs

-- It has ended: it has reclaimed the map's pairs, its tables and its counter, in their order, and what it left over waits behind its root. Without that
-- the root is free. No number is twice among these, nor among those.
pub record HasFinished {K V : Type 0} (m : Mem (Node K V)) (f : Finishing K V) : Type 0 where
  pub back_is : f.back ≡ back_of f.setting f.chart f.blocks (λ t. []) false
  pub root : RootIs f.setting m f.waits
  pub once : (x : ℕ) → (times x f.back ≤ 1) × (times x f.waits ≤ 1)

-- Maps by number, on a collector with batches of this size and as many roots, makings by caller, and ends of maps by caller.
module _ {K Q : Type 0} (V : Type 0) (same : K → K → Bool) (asks : Q → K → Bool) (batch_size roots : ℕ) (slot : ℕ → ℕ) where
  -- The maps that stand do so with the calls on them, and so do the makings. Who ends a map has no call and makes none, and knows of it what its point
  -- knows. What an end has, root or counter, is no standing map's, no making's, and no other end's.
  pub record EndingsTogether (w : World (Node K V)) (maps : ℕ → Option (Standing K)) (calls : ℕ → ℕ → Option (UnderWay K V Q)) (makers : ℕ → Option (Beginning K))
      (enders : ℕ → Option (Finishing K V)) : Type 0 where
    pub makings : MakingsTogether V same asks batch_size roots slot w maps calls makers
    pub facts : (i : ℕ) (f : Finishing K V) → enders i ≡ Some f → FinishingFacts same batch_size w i f
    pub alone : (i : ℕ) (f : Finishing K V) → enders i ≡ Some f → ((m : ℕ) → calls m i ≡ None) × (makers i ≡ None)
    pub roots_apart : (i m : ℕ) (f : Finishing K V) (s : Standing K) → enders i ≡ Some f → maps m ≡ Some s → f.setting.root ≢ s.setting.root
    pub counters_apart : (i m : ℕ) (f : Finishing K V) (s : Standing K) → enders i ≡ Some f → maps m ≡ Some s → HasCounter f → f.setting.counter ≢ s.setting.counter
    pub makings_roots : (i j : ℕ) (f : Finishing K V) (b : Beginning K) → enders i ≡ Some f → makers j ≡ Some b → HasTaken b.machine.stands → f.setting.root ≢ b.machine.setting.root
    pub makings_counters : (i j : ℕ) (f : Finishing K V) (b : Beginning K) → enders i ≡ Some f → makers j ≡ Some b → HasMade b.machine.stands → HasCounter f
        → f.setting.counter ≢ b.machine.setting.counter
    pub their_roots : (i j : ℕ) (f g : Finishing K V) → i ≢ j → enders i ≡ Some f → enders j ≡ Some g → f.setting.root ≢ g.setting.root
    pub their_counters : (i j : ℕ) (f g : Finishing K V) → i ≢ j → enders i ≡ Some f → enders j ≡ Some g → HasCounter f → HasCounter g
        → f.setting.counter ≢ g.setting.counter

  -- the invariant holds as before, but for what may be looked at
  abbrev pub AllEndingsStand : World (Node K V) → (ℕ → Option (Standing K)) → (ℕ → ℕ → Option (UnderWay K V Q)) → (ℕ → Option (Beginning K)) → (ℕ → Option (Finishing K V)) → Type 0
  AllEndingsStand w maps calls makers enders = (maps2 : ℕ → Option (Standing K)) × ((m : ℕ) → IsSameMap (maps m) (maps2 m)) × EndingsTogether w maps2 calls makers enders

  -- Where no map is ending, what stands together does.
  abbrev pub NoEndingsBegin : Type 0
  NoEndingsBegin =
      (w : World (Node K V)) (maps : ℕ → Option (Standing K)) (calls : ℕ → ℕ → Option (UnderWay K V Q)) (makers : ℕ → Option (Beginning K))
      → MakingsTogether V same asks batch_size roots slot w maps calls makers → EndingsTogether w maps calls makers (λ i. None)

  -- A caller that has no call, makes no map and ends none begins to end one on which nobody has a call: from then on the map does not stand. Its pairs
  -- are to be reclaimed, each once, and no others.
  abbrev pub EndingsBegin : Type 0
  EndingsBegin =
      (w : World (Node K V)) (maps : ℕ → Option (Standing K)) (calls : ℕ → ℕ → Option (UnderWay K V Q)) (makers : ℕ → Option (Beginning K)) (enders : ℕ → Option (Finishing K V))
      → EndingsTogether w maps calls makers enders → (i : ℕ) → enders i ≡ None → makers i ≡ None → ((m : ℕ) → calls m i ≡ None)
      → (m : ℕ) (s : Standing K) → maps m ≡ Some s → ((j : ℕ) → calls m j ≡ None)
      → (w2 : World (Node K V)) → Happens deferred_word batch_size (Ends i s.setting.counter) w w2
      → EndingsTogether w2 (with_at maps m None) calls makers (with_at enders i (Some (finishing_of s w)))
      × AllPairsOnce (is_incremental s.setting.mode) s.chart

  module _ (w : World (Node K V)) (maps : ℕ → Option (Standing K)) (calls : ℕ → ℕ → Option (UnderWay K V Q)) (makers : ℕ → Option (Beginning K)) (enders : ℕ → Option (Finishing K V))
      (i : ℕ) (f : Finishing K V) where
    -- The end goes on, and has taken no block away; or it has taken one, whose value it hands out; or it is over. It never waits.
    abbrev pub FinishingOutcome : World (Node K V) → Deed → EndMap × Settled (Node K V) → Type 0
    FinishingOutcome w2 deed (e, settled.Goes) =
        (taken_by deed ≡ []) × EndingsTogether w2 maps calls makers (with_at enders i (Some (record f { machine = e; waits = f.waits ++ waiting_by deed })))
    FinishingOutcome w2 deed (e, settled.Waits) = ⊥
    FinishingOutcome w2 deed (e, settled.Gave value) =
        (b : ℕ) × (value_at w.memory b ≡ Some value) × (taken_by deed ≡ b ∷ [])
        × EndingsTogether w2 maps calls makers (with_at enders i (Some (record f { machine = e; back = f.back ++ b ∷ []; waits = f.waits ++ waiting_by deed })))
    FinishingOutcome w2 deed (e, settled.Done) = (taken_by deed ≡ []) × HasFinished w2.memory f × EndingsTogether w2 maps calls makers (with_at enders i None)

    -- What a deed is done to: what it reclaims or leaves over was not left over before, but for a table of the map, and what it links to another block waits;
    -- and it leaves over pairs, or a table of the map that is not reclaimed.
    pub record IsDoneTo (deed : Deed) : Type 0 where
      pub takes : (x : ℕ) → 0 < times x (taken_by deed)
          → IsNotLeft (w.hand x) ⊎ ((w.hand x ≡ LeftTo i) × (times x f.back ≡ 0) × ((t : ℕ) × (f.chart.first ≤ t) × (t < f.chart.past) × (x ≡ f.blocks.table t)))
      pub leaves : (x : ℕ) → 0 < times x (left_by deed) → IsNotLeft (w.hand x)
      pub joins : (x : ℕ) → 0 < times x (joined_by deed) → 0 < times x f.waits
      pub over : (x : ℕ) → 0 < times x (left_by deed)
          → IsPair w x ⊎ ((times x f.back ≡ 0) × ((t : ℕ) × (f.chart.first ≤ t) × (t < f.chart.past) × (x ≡ f.blocks.table t)))

    -- Where a step of the end of a map leads, by what it did: the maps that stand are as they were, and so is all else but what it was done to.
    pub record StepsOfEnding (m2 : Mem (Node K V)) (end : EndMap × Settled (Node K V)) : Type 0 where
      pub w2 : World (Node K V)
      pub deed : Deed
      pub runs : Runs deferred_word batch_size (events_of i deed) w w2
      pub memory : w2.memory ≡ m2
      pub spares : Spares f.setting i w w2 deed
      pub done_to : IsDoneTo deed
      pub told : FinishingOutcome w2 deed end

  -- The promise: whichever caller takes a step of its end of a map, it may take it, and the invariant of all holds again.
  abbrev pub EndingsStand : Type 0
  EndingsStand =
      (w : World (Node K V)) (maps : ℕ → Option (Standing K)) (calls : ℕ → ℕ → Option (UnderWay K V Q)) (makers : ℕ → Option (Beginning K)) (enders : ℕ → Option (Finishing K V))
      → EndingsTogether w maps calls makers enders → (i : ℕ) (f : Finishing K V) → enders i ≡ Some f
      → May Can Took value_at w.memory (end_map_plan {K = K} {V = V} f.machine)
      × ((m2 : Mem (Node K V)) (end : EndMap × Settled (Node K V)) → Steps Took value_at w.memory (end_map_plan f.machine) m2 end → StepsOfEnding w maps calls makers enders i f m2 end)

  -- A caller that has no call on any map, makes none and ends none, and has no row under way, begins a call on one, within its section.
  abbrev pub CallsBeginWithEndings : Type 0
  CallsBeginWithEndings =
      (w : World (Node K V)) (maps : ℕ → Option (Standing K)) (calls : ℕ → ℕ → Option (UnderWay K V Q)) (makers : ℕ → Option (Beginning K)) (enders : ℕ → Option (Finishing K V))
      → EndingsTogether w maps calls makers enders → (i : ℕ) → makers i ≡ None → enders i ≡ None → ((n : ℕ) → calls n i ≡ None) → w.row i ≡ Rests → IsInside (w.uses (slot i))
      → (m : ℕ) (s : Standing K) → maps m ≡ Some s → (keys : K → Bool) (pair : Given K V) (call : KeyCall K V Q) → IsBegun V same s.hash asks s.setting slot i keys pair call
      → (is_incremental s.setting.mode ≡ false → FewWith (calls m) i (OnKey (begun_at V same s.hash asks s.setting slot s.chart keys pair call)))
      → EndingsTogether w maps (with_call calls m i (Some (OnKey (begun_at V same s.hash asks s.setting slot s.chart keys pair call)))) makers enders

  -- where a step of a call leads that is none of a row, with ends of maps under way: they go on as they were
  pub record StepsWithEndings (w : World (Node K V)) (maps : ℕ → Option (Standing K)) (calls : ℕ → ℕ → Option (UnderWay K V Q)) (makers : ℕ → Option (Beginning K)) (enders : ℕ → Option (Finishing K V))
      (m : ℕ) (s : Standing K) (i : ℕ) (u : CallOnKey K V Q) (m2 : Mem (Node K V)) (p2 : KeyCall K V Q) (progress : Called (Node K V)) : Type 0 where
    pub no_row : IsRowOfCall u.call.stands → ⊥
    pub step : StepsTogether V same s.hash asks s.setting slot w s.chart s.blocks s.sights (calls m) i u m2 p2 progress
    pub together : EndingsTogether step.went.w2 (with_at maps m (Some (record s { chart = step.went.c2; blocks = step.blocks2; sights = step.sights2 })))
        (with_call calls m i (next_of (record { keys = u.keys; pair = u.pair; began = u.began; change = change_observed V same s.hash asks s.setting slot step.went.told; call = p2 }) progress)) makers enders

  -- The promise of steps of calls.
  abbrev pub CallsPreserveWithEndings : Type 0
  CallsPreserveWithEndings =
      (w : World (Node K V)) (maps : ℕ → Option (Standing K)) (calls : ℕ → ℕ → Option (UnderWay K V Q)) (makers : ℕ → Option (Beginning K)) (enders : ℕ → Option (Finishing K V))
      → EndingsTogether w maps calls makers enders → (m : ℕ) (s : Standing K) → maps m ≡ Some s → (i : ℕ) (u : CallOnKey K V Q) → calls m i ≡ Some (OnKey u) → (IsRowOfCall u.call.stands → ⊥)
      → May Can Took value_at w.memory (call_plan asks same s.hash u.call)
      × ((m2 : Mem (Node K V)) (p2 : KeyCall K V Q) (progress : Called (Node K V)) → Steps Took value_at w.memory (call_plan asks same s.hash u.call) m2 (p2, progress)
      → StepsWithEndings w maps calls makers enders m s i u m2 p2 progress)

  -- The promise of replies: ends of maps go on as they were, too.
  abbrev pub RepliesPreserveWithEndings : Type 0
  RepliesPreserveWithEndings =
      (w : World (Node K V)) (maps : ℕ → Option (Standing K)) (calls : ℕ → ℕ → Option (UnderWay K V Q)) (makers : ℕ → Option (Beginning K)) (enders : ℕ → Option (Finishing K V))
      → EndingsTogether w maps calls makers enders → (m : ℕ) (s : Standing K) → maps m ≡ Some s → (i : ℕ) (u : CallOnKey K V Q) → calls m i ≡ Some (OnKey u)
      → (asks_at : Asking) → u.call.stands ≡ at.Asks asks_at
      → RepliesTaken V same s.hash asks s.setting slot s.chart (seen_by s.blocks (s.sights (slot i))) u asks_at (λ told. EndingsTogether w maps (with_call calls m i (Some (OnKey told))) makers enders)

  -- where a step of a row within a call leads
  pub record RowStepsWithEndings (w : World (Node K V)) (maps : ℕ → Option (Standing K)) (calls : ℕ → ℕ → Option (UnderWay K V Q)) (makers : ℕ → Option (Beginning K)) (enders : ℕ → Option (Finishing K V))
      (m : ℕ) (s : Standing K) (i : ℕ) (u : CallOnKey K V Q) (m2 : Mem (Node K V)) (p2 : KeyCall K V Q) (progress : Called (Node K V)) : Type 0 where
    pub is_row : IsRowOfCall u.call.stands
    pub step : RowStepsTogether V same s.hash asks s.setting slot w s.chart s.blocks s.sights (calls m) i u m2 p2 progress
    pub together : AllEndingsStand step.w2 maps (with_call calls m i (next_of (record { keys = u.keys; pair = u.pair; began = u.began; change = u.change; call = p2 }) progress)) makers enders

  -- The promise of the steps of rows within calls.
  abbrev pub RowsPreserveWithEndings : Type 0
  RowsPreserveWithEndings =
      (w : World (Node K V)) (maps : ℕ → Option (Standing K)) (calls : ℕ → ℕ → Option (UnderWay K V Q)) (makers : ℕ → Option (Beginning K)) (enders : ℕ → Option (Finishing K V))
      → EndingsTogether w maps calls makers enders → (m : ℕ) (s : Standing K) → maps m ≡ Some s → (i : ℕ) (u : CallOnKey K V Q) → calls m i ≡ Some (OnKey u) → IsRowOfCall u.call.stands
      → May Can Took value_at w.memory (call_plan asks same s.hash u.call)
      × ((m2 : Mem (Node K V)) (p2 : KeyCall K V Q) (progress : Called (Node K V)) → Steps Took value_at w.memory (call_plan asks same s.hash u.call) m2 (p2, progress)
      → RowStepsWithEndings w maps calls makers enders m s i u m2 p2 progress)

  -- The promise of rows between calls, of whoever has no call, whether it makes a map, ends one, or neither.
  abbrev pub GuardsPreserveWithEndings : Type 0
  GuardsPreserveWithEndings =
      (w : World (Node K V)) (maps : ℕ → Option (Standing K)) (calls : ℕ → ℕ → Option (UnderWay K V Q)) (makers : ℕ → Option (Beginning K)) (enders : ℕ → Option (Finishing K V))
      → EndingsTogether w maps calls makers enders → (i : ℕ) → ((m : ℕ) → calls m i ≡ None)
      → ((request : Request) → IsOfSlots request → ((m j : ℕ) (u : UnderWay K V Q) → calls m j ≡ Some u → UnlessCounts u (Closes request (slot j) → ⊥))
      → (w2 : World (Node K V)) → Happens deferred_word batch_size (Begin i request) w w2 → AllEndingsStand w2 maps calls makers enders)
      × MayStep deferred_word (w.row i) w.memory
      × ((w2 : World (Node K V)) → Happens deferred_word batch_size (Step i) w w2 → AllEndingsStand w2 maps calls makers enders)

  -- A caller that has no call, makes no map and ends none begins to make one, of a number that no map has, and none that is being made.
  abbrev pub MakingsBeginWithEndings : Type 0
  MakingsBeginWithEndings =
      (w : World (Node K V)) (maps : ℕ → Option (Standing K)) (calls : ℕ → ℕ → Option (UnderWay K V Q)) (makers : ℕ → Option (Beginning K)) (enders : ℕ → Option (Finishing K V))
      → EndingsTogether w maps calls makers enders → (i : ℕ) → enders i ≡ None
      → (b : Beginning K) → MakingsTogether V same asks batch_size roots slot w maps calls (with_at makers i (Some b)) → b.machine ≡ opening b.given roots b.places
      → EndingsTogether w maps calls (with_at makers i (Some b)) enders

  module _ (w : World (Node K V)) (maps : ℕ → Option (Standing K)) (calls : ℕ → ℕ → Option (UnderWay K V Q)) (makers : ℕ → Option (Beginning K)) (enders : ℕ → Option (Finishing K V))
      (i : ℕ) (b : Beginning K) where
    -- what a making tells, with ends of maps under way
    abbrev pub MakingOutcomeWithEndings : World (Node K V) → NewMap × Advance Setting → Type 0
    MakingOutcomeWithEndings w2 (n, progress.Goes) = EndingsTogether w2 maps calls (with_at makers i (Some (record b { machine = n }))) enders
    MakingOutcomeWithEndings w2 (n, progress.Waits) = ⊥
    MakingOutcomeWithEndings w2 (n, progress.Done answer) = (s : Standing K) × IsMade V same asks batch_size roots slot b answer s × EndingsTogether w2 (with_at maps b.map (Some s)) calls (with_at makers i None) enders
    MakingOutcomeWithEndings w2 (n, progress.Refused fault) = EndingsTogether w2 maps calls (with_at makers i None) enders

    pub record MakingStepsWithEndings (m2 : Mem (Node K V)) (end : NewMap × Advance Setting) : Type 0 where
      pub step : StepsOfMaking V same asks batch_size roots slot w maps calls makers i b m2 end
      pub told : MakingOutcomeWithEndings step.w2 end

  -- The promise of steps of makings.
  abbrev pub MakingsPreserveWithEndings : Type 0
  MakingsPreserveWithEndings =
      (w : World (Node K V)) (maps : ℕ → Option (Standing K)) (calls : ℕ → ℕ → Option (UnderWay K V Q)) (makers : ℕ → Option (Beginning K)) (enders : ℕ → Option (Finishing K V))
      → EndingsTogether w maps calls makers enders → (i : ℕ) (b : Beginning K) → makers i ≡ Some b
      → May Can Took value_at w.memory (new_map_plan {K = K} {V = V} b.machine)
      × ((m2 : Mem (Node K V)) (end : NewMap × Advance Setting) → Steps Took value_at w.memory (new_map_plan b.machine) m2 end
      → MakingStepsWithEndings w maps calls makers enders i b m2 end)
