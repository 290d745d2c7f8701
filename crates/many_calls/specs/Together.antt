-- Calls of many callers on one map: whoever takes the next step, each goes on knowing what its program point knows.
use Rattle.std.specs.Prelude.{◌≡◌, ◌≢◌, ℕ, ◌<◌, ◌≤◌, ◌^◌, ◌⊎◌, Bool, true, false, List, [], Option, Some, None}
use Rattle.std.specs.Int.{IsPowerOfTwo}
use Rattle.seize_model.specs.Given.SeizeWordsMem.{Mem, Can, Took, value_at, word_at}
use Rattle.seize_model.specs.Given.SeizeWordsDeclared.at.At.TheVariants.{Root, Word}
use Rattle.map_facts_late.specs.Given.TablesDeclared.node.Node.TheVariants as node
use Rattle.map_facts_late.specs.Given.RuleRule.{no_table}
use Rattle.seize_model.specs.Given.SeizeWordsPlan.{May, Steps}
use Rattle.seize_model.specs.Given.SeizeLaw.{holds, owner_of}
use Rattle.seize_model.specs.Given.SeizeWorld.{World, NoBlock, Rests, Request, Leave', LeaveOwned, Refresh, Retire, Defer', MayStep, Event, Begin, Step, Happens, Runs, IsInside, IsOnto, at_start, with_at}
use Rattle.map_facts_late.specs.Given.TablesNodes.{deferred_word}
use Rattle.map_facts_late.specs.Given.TablesChunks.{is_incremental}
use Rattle.map_facts_late.specs.Given.TablesDeclared.node.Node.{Node}
use Rattle.map_facts_late.specs.Given.TablesDeclared.setting.Setting.{Setting}
use Rattle.map_facts_late.specs.Given.RawCall.{call_plan}
use Rattle.map_facts_late.specs.Given.RawCallAsks.{computing, updating, updating_or_inserting, trying_to_insert_with, removing_if, replied}
use Rattle.map_facts_late.specs.Given.RawCallPoints.{getting, removing, inserting, trying_to_insert}
use Rattle.map_facts_late.specs.Given.RawDeclared.machines.asking.Asking.{Asking}
use Rattle.map_facts_late.specs.Given.RawDeclared.machines.asking.Asking.TheVariants as asking
use Rattle.map_facts_late.specs.Given.RawDeclared.machines.asking.Gap.{Gap}
use Rattle.map_facts_late.specs.Given.RawDeclared.machines.asking.MachineReply.{MachineReply}
use Rattle.map_facts_late.specs.Given.RawDeclared.machines.call.Calling.TheVariants as at
use Rattle.map_facts_late.specs.Given.RawDeclared.machines.answer.KeyAnswer.{KeyAnswer}
use Rattle.map_facts_late.specs.Given.RawDeclared.machines.answer.KeyAnswer.TheVariants as answers
use Rattle.map_facts_late.specs.Given.RawDeclared.machines.answer.Called.{Called}
use Rattle.map_facts_late.specs.Given.RawDeclared.machines.answer.Called.TheVariants as called
use Rattle.map_facts_late.specs.Given.RawDeclared.machines.call.KeyCall.{KeyCall}
use Rattle.map_facts_late.specs.Given.RuleChart.{Still, Holds, Chart}
use Rattle.map_facts_late.specs.Given.RuleWords.{Blocks, place_word}
use Rattle.map_facts_late.specs.Given.RuleMaps.{IsClass}
use Rattle.map_facts_late.specs.Given.RuleInWorld.{IsHeldBy, IsMapIn, StepSpec}
use Rattle.map_facts_late.specs.Given.RuleMoments.{Moments, Remembers}
use Rattle.map_facts_late.specs.Given.PointsFactsIdle.{IsIdle}
use Rattle.map_facts_late.specs.Given.PointsFactsCalls.{Change, Unchanged, AnswersChange, CallFacts}
use Rattle.many_calls.specs.Claims.{AreFew, IsNoLookup, IsToClaim, ClaimsFit}
use Rattle.many_calls.specs.Kept.{IsMaking, IsWithin, AllKeptBy, AllOwned, DeferredIsOwned}
use Rattle.many_calls.specs.Asked.{replies_before}
use Rattle.map_facts_late.specs.Kinds.{FaultFits}
use Rattle.map_facts_late.specs.Kinds as kinds
use Rattle.many_calls.specs.Kind.{gets, removes, inserts, tries_to_insert, computes, updates, updates_or_inserts, tries_to_insert_with, removes_if}
use Rattle.many_calls.specs.Pairs.{Given, Begun, IsTold, kind_of, with_reply, AsksFirst, HandsBack, RemovesNone, StoresGiven, LeavesGiven, KeepsGiven}
use Rattle.many_calls.specs.Rows.{row_of, once_over, LeavesSlots}
use Rattle.many_calls.specs.Rooms.{CallForRoom, row_of_room, room_once_over, RoomClaims}
use Rattle.many_calls.specs.OverAll.{CallOverAll, row_of_sweep, sweep_once_over, SweepClaims, TriesAsReplied}
use Rattle.map_facts_late.specs.Given.ReservesDeclared.sweep.Sweep.{Sweep}
use Rattle.map_facts_late.specs.Given.ReservesDeclared.sweep.Swept.{Swept}
use Rattle.map_facts_late.specs.Given.ReservesDeclared.sweep.Swept.TheVariants as swept
use Rattle.map_facts_late.specs.Covers.{CoversAt}
use Rattle.map_facts_late.specs.FactsSweeps.{SweepFacts}
use Rattle.map_facts_late.specs.ToldSweeps.{IsRowOfSweep}
use Rattle.seize_model.specs.Given.SeizeWordsDeclared.fault.Fault.{Fault}
use Rattle.seize_model.specs.Given.SeizeWordsDeclared.fault.Fault.TheVariants.{RemoveNothing}
use Rattle.seize_model.specs.Given.SeizeDeclared.advance.Advance.{Advance}
use Rattle.seize_model.specs.Given.SeizeDeclared.advance.Advance.TheVariants as progress
use Rattle.map_facts_late.specs.Given.ResizeSum.{summing, sum_plan}
use Rattle.map_facts_late.specs.Given.ResizeDeclared.sum.Sum.{Sum}
use Rattle.map_facts_late.specs.Given.PointsFactsTables.{SumFacts}
use Rattle.map_facts_late.specs.Given.ResizeDeclared.yielding.Yielding.{Yielding}
use Rattle.map_facts_late.specs.Given.ResizeDeclared.yielding.Yielding.TheVariants as outcome
use Rattle.map_facts_late.specs.Given.ReservesReserve.{reserving, reserve_plan}
use Rattle.map_facts_late.specs.Given.ReservesDeclared.reserve.Reserve.{Reserve}
use Rattle.map_facts_late.specs.FactsReserves.{ReserveFacts}
use Rattle.map_facts_late.specs.LateReserves.{SupersededReserveFacts}
use Rattle.map_facts_late.specs.LateToldReserves.{SupersededReserveOutcome}
use Rattle.map_facts_late.specs.ToldReserves.{ReserveOutcome, IsRowOfReserve}
use Rattle.many_calls.specs.Sights.{SourcesAreVisible, Visible, seen_by, IsPartOf, IsGrown, IsVisibility}
use Rattle.many_calls.specs.Since.{WasChanged, SoSince, Since}
use Rattle.map_facts_late.specs.Given.PointsTold.{IsRowOfCall, CallOutcome}
use Rattle.map_facts_late.specs.Given.PointsSteps.{AreLawful, first_reply}
use Rattle.map_facts_late.specs.LateCalls.{SupersededCallFacts}
use Rattle.map_facts_late.specs.LateTold.{SupersededCallOutcome}

-- a call on one key that is under way: the keys that it is asked for, what it stores, the moment of the map at which it began, and what it has changed
pub record CallOnKey (K V Q : Type 0) : Type 0 where
  pub keys : K → Bool
  pub pair : Given K V
  pub began : ℕ
  pub change : Change
  pub call : KeyCall K V Q

-- a call on a map that is under way
pub data UnderWay (K V Q : Type 0) : Type 0 where
  OnKey : CallOnKey K V Q → UnderWay K V Q
  ForRoom : CallForRoom → UnderWay K V Q
  Counting : Sum → UnderWay K V Q
  OverAll : CallOverAll → UnderWay K V Q

-- What is asked of each call but a counting: that looks at the map's counter alone, which is there as long as the map, and needs no section.
abbrev pub UnlessCounts : {K V Q : Type 0} → UnderWay K V Q → Type 0 → Type 0
UnlessCounts (OnKey u) Asked = Asked
UnlessCounts (ForRoom r) Asked = Asked
UnlessCounts (Counting sum) Asked = Unit {0}
UnlessCounts (OverAll o) Asked = Asked

-- A call that may write: neither a lookup nor a counting. Calls of no other kind come to claim places.
abbrev pub MayWrite : {K V Q : Type 0} → UnderWay K V Q → Type 0
MayWrite (OnKey u) = IsNoLookup u.call.stands
MayWrite (ForRoom r) = Unit {0}
MayWrite (Counting sum) = ⊥
MayWrite (OverAll o) = Unit {0}

-- whether it is under way after a step
abbrev pub next_of : {K V Q : Type 0} → CallOnKey K V Q → Called (Node K V) → Option (UnderWay K V Q)
next_of u (called.Done answer) = None
next_of u (called.Refused fault) = None
next_of u _ = Some (OnKey u)

abbrev pub next_for_room : {K V Q : Type 0} → CallForRoom → Yielding (Node K V) Unit → Option (UnderWay K V Q)
next_for_room r (outcome.Done end) = None
next_for_room r (outcome.Refused fault) = None
next_for_room r _ = Some (ForRoom r)

abbrev pub next_of_counting : {K V Q : Type 0} → Sum → Advance ℕ → Option (UnderWay K V Q)
next_of_counting sum (progress.Done count) = None
next_of_counting sum (progress.Refused fault) = None
next_of_counting sum _ = Some (Counting sum)

abbrev pub next_over_all : {K V Q : Type 0} → CallOverAll → Swept (Node K V) → Option (UnderWay K V Q)
next_over_all o swept.Done = None
next_over_all o (swept.Refused fault) = None
next_over_all o _ = Some (OverAll o)

-- it is to claim places, to be copied into the table with this turn
abbrev pub ClaimsInto : {K V Q : Type 0} → ℕ → UnderWay K V Q → Type 0
ClaimsInto t (OnKey u) = IsToClaim t u.call.stands
ClaimsInto t (ForRoom r) = RoomClaims t r.reserve.stands
ClaimsInto t (Counting sum) = ⊥
ClaimsInto t (OverAll o) = SweepClaims t o.sweep.stands

-- what was told about this is kept, if it is taken
abbrev pub replied_about : {K V Q : Type 0} → CallOnKey K V Q → Option ℕ → MachineReply V → CallOnKey K V Q
replied_about u about told =
    record { keys = u.keys; pair = with_reply u.pair about told (replied u.call told).1; began = u.began; change = u.change; call = (replied u.call told).0 }

-- of the calls of many callers
module _ {K V Q : Type 0} (calls : ℕ → Option (UnderWay K V Q)) where
  -- this caller has a call under way
  abbrev pub HasCall : ℕ → Type 0
  HasCall i = calls i ≢ None

  -- and one that may write
  abbrev pub IsWriter : ℕ → Type 0
  IsWriter i = (u : UnderWay K V Q) × (calls i ≡ Some u) × MayWrite u

  -- with this call, if caller i begins it, those that may write are few
  abbrev pub FewWith : ℕ → UnderWay K V Q → Type 0
  FewWith i u = AreFew (λ j. ((j ≡ i) × MayWrite u) ⊎ IsWriter j)

  -- a row that puts a block behind a linked table of this map is within one of them
  abbrev pub PutsWithin : World (Node K V) → Chart K → Blocks → Type 0
  PutsWithin w c blocks = (t j : ℕ) → c.first ≤ t → t < c.past → IsOnto (blocks.table t) (w.row j) → HasCall j

  -- its call is to claim places for the table with this turn
  abbrev pub ToClaim : ℕ → ℕ → Type 0
  ToClaim t i = (u : UnderWay K V Q) × (calls i ≡ Some u) × ClaimsInto t u

  -- Those that may write are few in blocking mode, and so no claim comes near to the end of a word.
  pub record StayFew (c : Chart K) : Type 0 where
    pub few : AreFew IsWriter
    pub claims : ClaimsFit c ToClaim

-- the setting of a caller: its slot
abbrev pub in_slot : Setting → ℕ → Setting
in_slot setting slot = record setting { slot = slot }

-- the world came about from the start, whatever happened, in whatever order
abbrev pub CameAbout : {K V : Type 0} → ℕ → World (Node K V) → Type 0
CameAbout {K} {V} batch_size w = (roots : ℕ) × (events : List (Event (Node K V))) × Runs deferred_word batch_size events (at_start deferred_word roots) w

module _ {K V : Type 0} (setting : Setting) where
  -- the row retires a block of this map that the caller has taken out of it, or defers it behind another one of the map
  abbrev pub HandsOver : ℕ → World (Node K V) → Request → Type 0
  HandsOver i w (Retire s b) = (owner_of b w.log ≡ setting.counter) × IsHeldBy i (w.hand b)
  HandsOver i w (Defer' s b t) = (owner_of b w.log ≡ setting.counter) × IsHeldBy i (w.hand b) × (owner_of t w.log ≡ setting.counter)
  HandsOver i w _ = ⊥

  -- this caller has taken a step of the row that it had under way, or has begun one and taken its first step
  abbrev pub IsOneStep : ℕ → World (Node K V) → World (Node K V) → Type 0
  IsOneStep i w w2 =
      Happens deferred_word setting.batch_size (Step i) w w2
      ⊎ ((request : Request) × (begun : World (Node K V)) × HandsOver i w request × Happens deferred_word setting.batch_size (Begin i request) w begun
      × Happens deferred_word setting.batch_size (Step i) begun w2)

-- The value was in a block that no open section held, and that the step has taken away.
abbrev pub IsReclaimed : {T : Type 0} → World T → World T → T → Type 0
IsReclaimed w w2 value = (b : ℕ) × (value_at w.memory b ≡ Some value) × ((t : ℕ) → holds t b w.log ≡ false) × (w2.hand b ≡ NoBlock) × (value_at w2.memory b ≡ None)

-- nothing may be looked at
abbrev pub no_blocks : Blocks
no_blocks = record { table = λ t. 0; pair = λ n. 0; table_known = λ t. false; pair_known = λ n. false }

abbrev pub no_sight : Visible
no_sight = record { tables = λ t. false; pairs = λ n. false }

-- a row that works on slots alone: it neither retires nor defers a block
abbrev pub IsOfSlots : Request → Type 0
IsOfSlots (Retire s b) = ⊥
IsOfSlots (Defer' s b t) = ⊥
IsOfSlots _ = Unit {0}

-- the row ends the section of this slot
abbrev pub Closes : Request → ℕ → Type 0
Closes (Leave' s) t = t ≡ s
Closes (LeaveOwned s) t = t ≡ s
Closes (Refresh s) t = t ≡ s
Closes _ t = ⊥

module _ {K Q : Type 0} (V : Type 0) (same : K → K → Bool) (hash : K → ℕ) (asks : Q → K → Bool) (setting : Setting) (slot : ℕ → ℕ) where
  -- Caller i knows of its call what its program point says, by what it looks at; what the call has come to was so since it began; and the pair that
  -- it was begun with, if with any, is what it stores, or has stored, or it goes by what it was told. If it was told to remove what is not there, the map
  -- had none of its keys at a moment since it began.
  pub record Knows (w : World (Node K V)) (c : Chart K) (seen : Blocks) (i : ℕ) (u : CallOnKey K V Q) (p : KeyCall K V Q) : Type 0 where
    pub facts : CallFacts same hash asks w i (in_slot setting (slot i)) c seen u.keys u.change p ⊎ ((u.change ≡ Unchanged) × SupersededCallFacts same hash asks w i (in_slot setting (slot i)) c seen u.keys u.began p)
    pub since : Since hash c seen u.keys u.began u.change p.stands
    pub pair : KeepsGiven hash w.memory c seen u.keys u.pair u.change p p.stands
    pub none : RemovesNone u.pair → SoSince hash c seen u.keys u.began answers.Absent

  -- It knows of its reservation what the point says, in the root's table or in one that the root has left since it began.
  pub record KnowsRoom (w : World (Node K V)) (c : Chart K) (seen : Blocks) (i began : ℕ) (p : Reserve) : Type 0 where
    pub facts : ReserveFacts same hash w i (in_slot setting (slot i)) c seen p ⊎ SupersededReserveFacts same hash w i (in_slot setting (slot i)) c seen began p
    pub began_before : began ≤ c.now

  -- It knows of its sweep what the point says, and what the sweep has come to; and what a retaining is about to remove it was told not to keep.
  pub record KnowsSweep (w : World (Node K V)) (c : Chart K) (seen : Blocks) (i : ℕ) (o : CallOverAll) (p : Sweep) : Type 0 where
    pub facts : SweepFacts same hash w i (in_slot setting (slot i)) c seen o.began p
    pub began_before : o.began ≤ c.now
    pub from : o.began ≤ o.entered
    pub covers : CoversAt hash c seen p o.entered o.done p.stands
    pub tries : TriesAsReplied hash c seen o.told p.purpose p.stands

  -- The caller has no row under way: it stands at none, or has yet to begin it. Or it is within that row, and knows what its point says once
  -- the row is over.
  abbrev pub IsAtPoint : World (Node K V) → Chart K → Blocks → ℕ → UnderWay K V Q → Type 0
  IsAtPoint w c seen i (OnKey u) =
      ((w.row i ≡ Rests) × Knows w c seen i u u.call)
      ⊎ ((w.row i ≡ row_of (slot i) u.call.stands) × IsRowOfCall u.call.stands × Knows w c seen i u (once_over u.call))
  IsAtPoint w c seen i (ForRoom r) =
      ((w.row i ≡ Rests) × KnowsRoom w c seen i r.began r.reserve)
      ⊎ ((w.row i ≡ row_of_room r.reserve.stands) × IsRowOfReserve r.reserve.stands × KnowsRoom w c seen i r.began (room_once_over r.reserve))
  IsAtPoint w c seen i (Counting sum) = (w.row i ≡ Rests) × SumFacts (in_slot setting (slot i)) sum × IsIdle same hash w i (in_slot setting (slot i)) c seen
  IsAtPoint w c seen i (OverAll o) =
      ((w.row i ≡ Rests) × KnowsSweep w c seen i o o.sweep)
      ⊎ ((w.row i ≡ row_of_sweep (slot i) o.sweep.stands) × IsRowOfSweep o.sweep.stands × KnowsSweep w c seen i o (sweep_once_over o.sweep))

  -- The world came about from the start, the map stands by its rule, what may be looked at is the map's own and there, whoever takes the next step,
  -- and what a section sees it holds. What is deferred behind a linked table is a pair of the map's own.
  pub record Ground (w : World (Node K V)) (c : Chart K) (blocks : Blocks) (sights : ℕ → Visible) : Type 0 where
    pub came : CameAbout setting.batch_size w
    pub map : IsMapIn same hash setting w c blocks
    pub moments : Moments (is_incremental setting.mode) c
    pub kept : AllKeptBy w c blocks
    pub owned : AllOwned w c blocks setting.counter
    pub behind : DeferredIsOwned w c blocks setting.counter
    pub sources : SourcesAreVisible c blocks.table_known
    pub counter : IsMaking (w.hand setting.counter)
    pub sight : (s : ℕ) → IsInside (w.uses s) → IsVisibility c blocks (sights s) × IsWithin w s c (seen_by blocks (sights s)) setting

  -- Callers have calls on one map, by caller, each but a counting within a critical section of its slot, and each section has a sight. Each call knows
  -- what its program point knows, and a caller that has none has no part in a copying, and puts nothing behind a linked table.
  pub record Together (w : World (Node K V)) (c : Chart K) (blocks : Blocks) (sights : ℕ → Visible) (calls : ℕ → Option (UnderWay K V Q)) : Type 0 where
    pub ground : Ground w c blocks sights
    pub inside : (i : ℕ) (u : UnderWay K V Q) → calls i ≡ Some u → UnlessCounts u (IsInside (w.uses (slot i)))
    pub stand : (i : ℕ) (u : UnderWay K V Q) → calls i ≡ Some u → IsAtPoint w c (seen_by blocks (sights (slot i))) i u
    pub idle : (i : ℕ) → calls i ≡ None → IsIdle same hash w i (in_slot setting (slot i)) c blocks
    pub onto : PutsWithin calls w c blocks
    pub few : is_incremental setting.mode ≡ false → StayFew calls c

  -- A map that has no table yet: its root leads nowhere, and its counter is there. The invariant of all holds with no call.
  abbrev pub MapBeginsTogether : Type 0
  MapBeginsTogether =
      (w : World (Node K V)) (calls : ℕ → Option (UnderWay K V Q)) → ((i : ℕ) → calls i ≡ None)
      → CameAbout setting.batch_size w → word_at w.memory (Root setting.root) ≡ Some 0 → value_at w.memory setting.counter ≡ Some node.Shards
      → ((shard : ℕ) → shard ≤ setting.mask → (count : ℕ) × (word_at w.memory (Word setting.counter shard) ≡ Some count)) → IsMaking (w.hand setting.counter)
      → Together w no_table no_blocks (λ s. no_sight) calls

  -- a call that begins: it looks up or removes the key that it is asked for, or stores a pair, with or without replacing one; or it asks
  pub data IsBegun (i : ℕ) : (K → Bool) → Given K V → KeyCall K V Q → Type 0 where
    Gets : (q : Q) (code : ℕ) → code < 2 ^ 64 → IsClass same hash (asks q) code
        → IsBegun i (asks q) (Begun gets None) (getting (in_slot setting (slot i)) code q)
    Removes : (q : Q) (code : ℕ) → code < 2 ^ 64 → IsClass same hash (asks q) code
        → IsBegun i (asks q) (Begun removes None) (removing (in_slot setting (slot i)) code q)
    Inserts : (key : K) (value : V)
        → IsBegun i (same key) (Begun inserts (Some (node.Pair key value))) (inserting (in_slot setting (slot i)) (hash key) key value)
    TriesToInsert : (key : K) (value : V)
        → IsBegun i (same key) (Begun tries_to_insert (Some (node.Pair key value))) (trying_to_insert (in_slot setting (slot i)) (hash key) key value)
    Computes : (key : K) → IsBegun i (same key) (IsTold computes (Some key) []) (computing (in_slot setting (slot i)) (hash key) key)
    Updates : (key : K) → IsBegun i (same key) (IsTold updates (Some key) []) (updating (in_slot setting (slot i)) (hash key) key)
    UpdatesOrInserts : (key : K) (absent : Option V)
        → IsBegun i (same key) (IsTold updates_or_inserts (Some key) (replies_before absent))
        (updating_or_inserting (in_slot setting (slot i)) (hash key) key (first_reply absent))
    TriesToInsertWith : (key : K)
        → IsBegun i (same key) (IsTold tries_to_insert_with (Some key) []) (trying_to_insert_with (in_slot setting (slot i)) (hash key) key)
    RemovesIf : (q : Q) (code : ℕ) → code < 2 ^ 64 → IsClass same hash (asks q) code
        → IsBegun i (asks q) (IsTold removes_if None []) (removing_if (in_slot setting (slot i)) code q)

  -- it begins now, and has changed nothing
  abbrev pub begun_at : Chart K → (K → Bool) → Given K V → KeyCall K V Q → CallOnKey K V Q
  begun_at c keys pair call = record { keys = keys; pair = pair; began = c.now; change = Unchanged; call = call }

  -- A caller that has no call, and no row under way, begins one within its section. In blocking mode, few that may write are under way with it.
  abbrev pub BeginsTogether : Type 0
  BeginsTogether =
      (w : World (Node K V)) (c : Chart K) (blocks : Blocks) (sights : ℕ → Visible) (calls : ℕ → Option (UnderWay K V Q)) (i : ℕ) → AreLawful same hash → Together w c blocks sights calls → calls i ≡ None
      → w.row i ≡ Rests → IsInside (w.uses (slot i)) → (keys : K → Bool) (pair : Given K V) (call : KeyCall K V Q) → IsBegun i keys pair call
      → (is_incremental setting.mode ≡ false → FewWith calls i (OnKey (begun_at c keys pair call))) → Together w c blocks sights (with_at calls i (Some (OnKey (begun_at c keys pair call))))

  -- An answer is one of the call's kind. It tells the one change that the call has made, at a moment since it began, and what was stored is the pair that
  -- it was begun with, if with one, or what was changed is what it was told to change; or it tells what was so at one, where the call has made none, and
  -- that is what it was told to leave so.
  abbrev pub AnswersOnce : World (Node K V) → Chart K → Blocks → ℕ → CallOnKey K V Q → Change → KeyAnswer → Type 0
  AnswersOnce w c seen i u change answer =
      kinds.Fits (kind_of u.pair).present (kind_of u.pair).absent (kind_of u.pair).takes answer
      × (((change ≡ Unchanged) × SoSince hash c seen u.keys u.began answer × LeavesGiven hash w.memory c seen u.pair answer)
      ⊎ (((m : ℕ) × (u.began ≤ m) × (m < c.now) × WasChanged hash c seen u.keys m change) × AnswersChange same hash asks w i (in_slot setting (slot i)) c seen u.keys change change answer
      × StoresGiven hash w.memory c seen u.pair change))

  -- A refusal is one of the call's kind, and the call has changed nothing. Where it is one to remove what is not there, it was told last to do so, and the
  -- map had none of its keys at a moment since it began.
  abbrev pub RefusesOnce : Chart K → Blocks → CallOnKey K V Q → Change → Fault → Type 0
  RefusesOnce c seen u change fault =
      (change ≡ Unchanged) × FaultFits (kind_of u.pair).present (kind_of u.pair).absent (kind_of u.pair).takes fault
      × (fault ≡ RemoveNothing → RemovesNone u.pair × SoSince hash c seen u.keys u.began answers.Absent)

  -- What a step of a call tells, in its table, or in one that the root has left, where the call has changed nothing.
  pub data StepOutcome (c : Chart K) (i : ℕ) (u : CallOnKey K V Q) (p2 : KeyCall K V Q) (progress : Called (Node K V)) (w2 : World (Node K V)) (c2 : Chart K) (blocks2 : Blocks) : Type 0 where
    Fresh : CallOutcome same hash asks i (in_slot setting (slot i)) u.keys c u.change u.call w2 c2 blocks2 p2 progress → StepOutcome c i u p2 progress w2 c2 blocks2
    Late : is_incremental setting.mode ≡ false → u.change ≡ Unchanged → SupersededCallOutcome same hash asks i (in_slot setting (slot i)) u.keys u.began c u.call w2 c2 blocks2 p2 progress → StepOutcome c i u p2 progress w2 c2 blocks2

  -- what the call has changed then
  abbrev pub change_observed : {c : Chart K} {i : ℕ} {u : CallOnKey K V Q} {p2 : KeyCall K V Q} {progress : Called (Node K V)} {w2 : World (Node K V)} {c2 : Chart K} {blocks2 : Blocks}
      → StepOutcome c i u p2 progress w2 c2 blocks2 → Change
  change_observed (Fresh told) = told.change2
  change_observed (Late blocking none told) = Unchanged

  -- Where a step of a call leads that is none of a row, from within its section: one move at most was made, by this caller, it tells what it did, and the
  -- invariant of all calls holds.
  pub record StepsTogether (w : World (Node K V)) (c : Chart K) (blocks : Blocks) (sights : ℕ → Visible) (calls : ℕ → Option (UnderWay K V Q)) (i : ℕ) (u : CallOnKey K V Q)
      (m2 : Mem (Node K V)) (p2 : KeyCall K V Q) (progress : Called (Node K V)) : Type 0 where
    pub inside : IsInside (w.uses (slot i))
    pub went : StepSpec same hash (in_slot setting (slot i)) i w c (seen_by blocks (sights (slot i))) m2 (StepOutcome c i u p2 progress)
    pub remembers : Remembers (is_incremental setting.mode) c went.c2
    pub blocks2 : Blocks
    pub grown : IsGrown c blocks went.blocks2 blocks2
    pub sights2 : ℕ → Visible
    pub together : Together went.w2 went.c2 blocks2 sights2 (with_at calls i (next_of (record { keys = u.keys; pair = u.pair; began = u.began; change = change_observed went.told; call = p2 }) progress))
    pub answers : (answer : KeyAnswer) → progress ≡ called.Done answer → AnswersOnce went.w2 went.c2 went.blocks2 i u (change_observed went.told) answer
    pub refuses : (fault : Fault) → progress ≡ called.Refused fault → RefusesOnce went.c2 went.blocks2 u (change_observed went.told) fault
    pub hands : (value : Node K V) → progress ≡ called.Unstored value → HandsBack u.pair value

  -- The promise: whichever caller takes a step of its call that is none of a row of the collector, it may take it, and the invariant holds again. A call that
  -- answers has changed the map once at most, or tells what was so, at a moment since it began, and each by what it was told; one that is refused has changed
  -- nothing. What it hands back is the pair that it was begun with.
  abbrev pub CallsPreserveTheInvariant : Type 0
  CallsPreserveTheInvariant =
      AreLawful same hash → IsPowerOfTwo setting.initial
      → (w : World (Node K V)) (c : Chart K) (blocks : Blocks) (sights : ℕ → Visible) (calls : ℕ → Option (UnderWay K V Q)) → Together w c blocks sights calls
      → (i : ℕ) (u : CallOnKey K V Q) → calls i ≡ Some (OnKey u) → (IsRowOfCall u.call.stands → ⊥)
      → May Can Took value_at w.memory (call_plan asks same hash u.call)
      × ((m2 : Mem (Node K V)) (p2 : KeyCall K V Q) (progress : Called (Node K V)) → Steps Took value_at w.memory (call_plan asks same hash u.call) m2 (p2, progress)
      → StepsTogether w c blocks sights calls i u m2 p2 progress)

  -- Where a step of a row leads: the row has begun with it, or went on. The map and what is looked at of it are as they were, and the invariant of all calls
  -- holds. What is given back was in a block that the row has taken away.
  pub record RowStepsTogether (w : World (Node K V)) (c : Chart K) (blocks : Blocks) (sights : ℕ → Visible) (calls : ℕ → Option (UnderWay K V Q)) (i : ℕ) (u : CallOnKey K V Q)
      (m2 : Mem (Node K V)) (p2 : KeyCall K V Q) (progress : Called (Node K V)) : Type 0 where
    pub w2 : World (Node K V)
    pub memory : w2.memory ≡ m2
    pub happened : IsOneStep setting i w w2
    pub together : Together w2 c blocks sights (with_at calls i (next_of (record { keys = u.keys; pair = u.pair; began = u.began; change = u.change; call = p2 }) progress))
    pub answers : (answer : KeyAnswer) → progress ≡ called.Done answer → AnswersOnce w2 c (seen_by blocks (sights (slot i))) i u u.change answer
    pub refuses : (fault : Fault) → progress ≡ called.Refused fault → RefusesOnce c (seen_by blocks (sights (slot i))) u u.change fault
    pub hands : (value : Node K V) → progress ≡ called.Unstored value → HandsBack u.pair value
    pub gives : (value : Node K V) → progress ≡ called.Gave value → IsReclaimed w w2 value
    -- once the call has ended it has no row under way
    pub rests : next_of {K = K} {V = V} {Q = Q} (record { keys = u.keys; pair = u.pair; began = u.began; change = u.change; call = p2 }) progress ≡ None → w2.row i ≡ Rests
    pub slots : LeavesSlots (slot i) i w w2

  -- The promise of the steps of rows within calls.
  abbrev pub RowsPreserveTheInvariant : Type 0
  RowsPreserveTheInvariant =
      AreLawful same hash
      → (w : World (Node K V)) (c : Chart K) (blocks : Blocks) (sights : ℕ → Visible) (calls : ℕ → Option (UnderWay K V Q)) → Together w c blocks sights calls
      → (i : ℕ) (u : CallOnKey K V Q) → calls i ≡ Some (OnKey u) → IsRowOfCall u.call.stands
      → May Can Took value_at w.memory (call_plan asks same hash u.call)
      × ((m2 : Mem (Node K V)) (p2 : KeyCall K V Q) (progress : Called (Node K V)) → Steps Took value_at w.memory (call_plan asks same hash u.call) m2 (p2, progress)
      → RowStepsTogether w c blocks sights calls i u m2 p2 progress)

  -- the invariant of all holds, with what may be looked at then of what could be before, and by whom
  abbrev pub AllStand : World (Node K V) → Chart K → Blocks → (ℕ → Option (UnderWay K V Q)) → Type 0
  AllStand w c before calls = (blocks : Blocks) × (sights : ℕ → Visible) × Together w c blocks sights calls × IsPartOf c blocks before

  -- what a caller that has no call may do: it registers, enters, leaves, refreshes, flushes or gives up its slot, and ends no section in which a call
  -- is under way that needs it
  abbrev pub GuardsOf : World (Node K V) → Chart K → Blocks → (ℕ → Option (UnderWay K V Q)) → ℕ → Type 0
  GuardsOf w c blocks calls i =
      ((request : Request) → IsOfSlots request → ((j : ℕ) (u : UnderWay K V Q) → calls j ≡ Some u → UnlessCounts u (Closes request (slot j) → ⊥))
      → (w2 : World (Node K V)) → Happens deferred_word setting.batch_size (Begin i request) w w2 → AllStand w2 c blocks calls)
      × MayStep deferred_word (w.row i) w.memory
      × ((w2 : World (Node K V)) → Happens deferred_word setting.batch_size (Step i) w w2 → AllStand w2 c blocks calls)

  -- The promise of rows between calls.
  abbrev pub GuardsPreserveTheInvariant : Type 0
  GuardsPreserveTheInvariant =
      AreLawful same hash
      → (w : World (Node K V)) (c : Chart K) (blocks : Blocks) (sights : ℕ → Visible) (calls : ℕ → Option (UnderWay K V Q)) → Together w c blocks sights calls
      → (i : ℕ) → calls i ≡ None → GuardsOf w c blocks calls i

  -- what a call asks about: the pair of a word, or none
  abbrev pub AsksAbout : Chart K → Blocks → Asking → Option ℕ → Type 0
  AsksAbout c seen (asking.Present word) (Some n) = (n < c.stored) × (seen.pair_known n ≡ true) × (borrowed : Bool) × (word ≡ place_word hash c seen (Holds n Still borrowed))
  AsksAbout c seen (asking.Present word) None = ⊥
  AsksAbout c seen _ about = about ≡ None

  -- It asks about one pair, or about none, and about none once, and about no pair twice, unless it only chooses whether to remove it. Told anything about
  -- that, it goes on so.
  abbrev pub RepliesTaken : Chart K → Blocks → CallOnKey K V Q → Asking → (CallOnKey K V Q → Type 0) → Type 0
  RepliesTaken c seen u asks_at GoesOn =
      ((about : Option ℕ) × AsksAbout c seen asks_at about)
      × ((gap : Gap) → asks_at ≡ asking.Absent gap → AsksFirst u.pair None)
      × ((word n : ℕ) → asks_at ≡ asking.Present word → AsksAbout c seen asks_at (Some n) → AsksFirst u.pair (Some n))
      × ((about : Option ℕ) → AsksAbout c seen asks_at about → (reply : MachineReply V) → GoesOn (replied_about u about reply))

  -- A call that asks is told what to do, or is told something that it does not take. The invariant of all calls holds then, and it has changed nothing by that;
  -- at all other points it takes nothing.
  abbrev pub RepliesPreserveTheInvariant : Type 0
  RepliesPreserveTheInvariant =
      AreLawful same hash → IsPowerOfTwo setting.initial
      → (w : World (Node K V)) (c : Chart K) (blocks : Blocks) (sights : ℕ → Visible) (calls : ℕ → Option (UnderWay K V Q)) → Together w c blocks sights calls
      → (i : ℕ) (u : CallOnKey K V Q) → calls i ≡ Some (OnKey u) → (asks_at : Asking) → u.call.stands ≡ at.Asks asks_at
      → RepliesTaken c (seen_by blocks (sights (slot i))) u asks_at (λ told. Together w c blocks sights (with_at calls i (Some (OnKey told))))

  -- A caller that has no call, and no row under way, begins a reservation within its section. In blocking mode, few that may write are under way with it.
  abbrev pub RoomsBeginTogether : Type 0
  RoomsBeginTogether =
      (w : World (Node K V)) (c : Chart K) (blocks : Blocks) (sights : ℕ → Visible) (calls : ℕ → Option (UnderWay K V Q)) (i : ℕ) → Together w c blocks sights calls → calls i ≡ None
      → w.row i ≡ Rests → IsInside (w.uses (slot i)) → (additional : ℕ)
      → (is_incremental setting.mode ≡ false → FewWith calls i (ForRoom (record { began = c.now; reserve = reserving (in_slot setting (slot i)) additional })))
      → Together w c blocks sights (with_at calls i (Some (ForRoom (record { began = c.now; reserve = reserving (in_slot setting (slot i)) additional }))))

  -- what a step of a reservation tells, in its table, or in one that the root has left
  pub data RoomOutcome (c : Chart K) (i : ℕ) (r : CallForRoom) (p2 : Reserve) (end : Yielding (Node K V) Unit) (w2 : World (Node K V)) (c2 : Chart K) (blocks2 : Blocks) : Type 0 where
    FreshRoom : ReserveOutcome same hash i (in_slot setting (slot i)) c r.reserve w2 c2 blocks2 p2 end → RoomOutcome c i r p2 end w2 c2 blocks2
    LateRoom : is_incremental setting.mode ≡ false → SupersededReserveOutcome same hash i (in_slot setting (slot i)) r.began c r.reserve w2 c2 blocks2 p2 end → RoomOutcome c i r p2 end w2 c2 blocks2

  -- Where a step of a reservation leads that is none of a row: one move at most was made, by this caller, no pair of the map has changed, and the invariant of
  -- all calls holds.
  pub record RoomStepsTogether (w : World (Node K V)) (c : Chart K) (blocks : Blocks) (sights : ℕ → Visible) (calls : ℕ → Option (UnderWay K V Q)) (i : ℕ) (r : CallForRoom)
      (m2 : Mem (Node K V)) (p2 : Reserve) (end : Yielding (Node K V) Unit) : Type 0 where
    pub inside : IsInside (w.uses (slot i))
    pub went : StepSpec same hash (in_slot setting (slot i)) i w c (seen_by blocks (sights (slot i))) m2 (RoomOutcome c i r p2 end)
    pub remembers : Remembers (is_incremental setting.mode) c went.c2
    pub same_pairs : went.c2.current ≡ c.current
    pub blocks2 : Blocks
    pub grown : IsGrown c blocks went.blocks2 blocks2
    pub sights2 : ℕ → Visible
    pub together : Together went.w2 went.c2 blocks2 sights2 (with_at calls i (next_for_room (record { began = r.began; reserve = p2 }) end))

  -- The promise: whichever caller takes a step of its reservation that is none of a row of the collector, it may take it, and the invariant of all holds again.
  abbrev pub RoomsPreserveTheInvariant : Type 0
  RoomsPreserveTheInvariant =
      AreLawful same hash → IsPowerOfTwo setting.initial
      → (w : World (Node K V)) (c : Chart K) (blocks : Blocks) (sights : ℕ → Visible) (calls : ℕ → Option (UnderWay K V Q)) → Together w c blocks sights calls
      → (i : ℕ) (r : CallForRoom) → calls i ≡ Some (ForRoom r) → (IsRowOfReserve r.reserve.stands → ⊥)
      → May Can Took value_at w.memory (reserve_plan hash r.reserve)
      × ((m2 : Mem (Node K V)) (p2 : Reserve) (end : Yielding (Node K V) Unit) → Steps Took value_at w.memory (reserve_plan hash r.reserve) m2 (p2, end)
      → RoomStepsTogether w c blocks sights calls i r m2 p2 end)

  -- Where a step of a row within a reservation leads: as within a call on one key.
  pub record RoomRowsTogether (w : World (Node K V)) (c : Chart K) (blocks : Blocks) (sights : ℕ → Visible) (calls : ℕ → Option (UnderWay K V Q)) (i : ℕ) (r : CallForRoom)
      (m2 : Mem (Node K V)) (p2 : Reserve) (end : Yielding (Node K V) Unit) : Type 0 where
    pub w2 : World (Node K V)
    pub memory : w2.memory ≡ m2
    pub happened : IsOneStep setting i w w2
    pub together : Together w2 c blocks sights (with_at calls i (next_for_room (record { began = r.began; reserve = p2 }) end))
    pub gives : (value : Node K V) → end ≡ outcome.Gave value → IsReclaimed w w2 value
    pub rests : next_for_room {K = K} {V = V} {Q = Q} (record { began = r.began; reserve = p2 }) end ≡ None → w2.row i ≡ Rests
    pub slots : LeavesSlots (slot i) i w w2

  -- The promise of the steps of rows within reservations.
  abbrev pub RoomRowsPreserveTheInvariant : Type 0
  RoomRowsPreserveTheInvariant =
      AreLawful same hash
      → (w : World (Node K V)) (c : Chart K) (blocks : Blocks) (sights : ℕ → Visible) (calls : ℕ → Option (UnderWay K V Q)) → Together w c blocks sights calls
      → (i : ℕ) (r : CallForRoom) → calls i ≡ Some (ForRoom r) → IsRowOfReserve r.reserve.stands
      → May Can Took value_at w.memory (reserve_plan hash r.reserve)
      × ((m2 : Mem (Node K V)) (p2 : Reserve) (end : Yielding (Node K V) Unit) → Steps Took value_at w.memory (reserve_plan hash r.reserve) m2 (p2, end)
      → RoomRowsTogether w c blocks sights calls i r m2 p2 end)

  -- A caller that has no call, and no row under way, begins to count the pairs, within a section or outside of any.
  abbrev pub CountingsBeginTogether : Type 0
  CountingsBeginTogether =
      (w : World (Node K V)) (c : Chart K) (blocks : Blocks) (sights : ℕ → Visible) (calls : ℕ → Option (UnderWay K V Q)) (i : ℕ) → Together w c blocks sights calls → calls i ≡ None
      → w.row i ≡ Rests → Together w c blocks sights (with_at calls i (Some (Counting (summing (in_slot setting (slot i))))))

  -- The promise: whichever caller takes a step of its counting, it may take it. It changes nothing, never waits, and is never refused.
  abbrev pub CountingsPreserveTheInvariant : Type 0
  CountingsPreserveTheInvariant =
      (w : World (Node K V)) (c : Chart K) (blocks : Blocks) (sights : ℕ → Visible) (calls : ℕ → Option (UnderWay K V Q)) → Together w c blocks sights calls
      → (i : ℕ) (sum : Sum) → calls i ≡ Some (Counting sum)
      → May Can Took value_at w.memory (sum_plan sum)
      × ((m2 : Mem (Node K V)) (sum2 : Sum) (end : Advance ℕ) → Steps Took value_at w.memory (sum_plan sum) m2 (sum2, end)
      → (m2 ≡ w.memory) × (end ≢ progress.Waits) × ((fault : Fault) → end ≢ progress.Refused fault) × Together w c blocks sights (with_at calls i (next_of_counting sum2 end)))
