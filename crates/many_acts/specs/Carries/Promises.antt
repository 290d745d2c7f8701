-- What is promised of the blocks behind which something may be put: each kind of step leaves them somebody's, so that quiescent they are linked tables.
use Rattle.std.specs.Prelude.{◌≡◌, ℕ, Bool, List, Option, Some, None}
use Rattle.run_shows.specs.Given.SeizeWordsMem.{Mem, Took, value_at}
use Rattle.run_shows.specs.Given.SeizeWordsPlan.{Steps}
use Rattle.run_shows.specs.Given.SeizeWorld.{World, Request, Begin, Step, Ends, Happens, with_at}
use Rattle.run_shows.specs.Given.SeizeDeclared.advance.Advance.{Advance}
use Rattle.run_shows.specs.Given.SeizeDeclared.advance.Advance.TheVariants as progress
use Rattle.run_shows.specs.Given.SeizeDeclared.rows.reclaim_all.ReclaimAll.{ReclaimAll}
use Rattle.run_shows.specs.Given.SeizeDeclared.rows.reclaim_all.Reclaiming.{Reclaiming}
use Rattle.run_shows.specs.Given.SeizeDeclared.rows.settle.Settled.{Settled}
use Rattle.seize_acts.specs.Acts.Reclaimed.{IsStillHad}
use Rattle.run_shows.specs.Given.TablesNodes.{deferred_word}
use Rattle.run_shows.specs.Given.TablesDeclared.node.Node.{Node}
use Rattle.run_shows.specs.Given.TablesDeclared.setting.Setting.{Setting}
use Rattle.run_shows.specs.Given.ResizeDeclared.new_map.NewMap.{NewMap}
use Rattle.run_shows.specs.Given.ResizeDeclared.yielding.Yielding.{Yielding}
use Rattle.run_shows.specs.Given.ReservesReserve.{reserve_plan}
use Rattle.run_shows.specs.Given.ReservesDeclared.reserve.Reserve.{Reserve}
use Rattle.run_shows.specs.Given.SweepsSweep.{sweep_plan}
use Rattle.run_shows.specs.Given.ReservesDeclared.sweep.Sweep.{Sweep}
use Rattle.run_shows.specs.Given.ReservesDeclared.sweep.Swept.{Swept}
use Rattle.run_shows.specs.Given.RawCall.{call_plan}
use Rattle.run_shows.specs.Given.RawDeclared.machines.answer.Called.{Called}
use Rattle.run_shows.specs.Given.RawDeclared.machines.call.KeyCall.{KeyCall}
use Rattle.run_shows.specs.Given.RawDeclared.machines.end_map.EndMap.{EndMap}
use Rattle.owner_facts.specs.Given.PointsTold.{IsRowOfCall}
use Rattle.owner_facts.specs.Given.LateToldReserves.{IsRowOfReserve}
use Rattle.owner_facts.specs.Given.LateToldSweeps.{IsRowOfSweep}
use Rattle.owner_facts.specs.Given.CallersOverAll.{CallOverAll, come_to, gone_on}
use Rattle.owner_facts.specs.Given.CallersRooms.{CallForRoom}
use Rattle.owner_facts.specs.Given.CallersTogether.{UnderWay, OnKey, ForRoom, OverAll, CallOnKey, IsOfSlots, next_of, next_for_room, next_over_all, change_observed}
use Rattle.owner_facts.specs.Given.FinishesEndings.{Finishing, finishing_of, HasFinished, EndingsTogether, StepsWithEndings, RowStepsWithEndings, StepsOfEnding}
use Rattle.owner_facts.specs.Given.FinishesMakings.{Beginning, IsMade, StepsOfMaking}
use Rattle.owner_facts.specs.Given.FinishesMaps.{Standing, IsSameMap, MapsTogether, with_call}
use Rattle.owner_facts.specs.Given.FinishesRooms.{RoomRowsWithEndings, RoomStepsWithEndings}
use Rattle.owner_facts.specs.Given.FinishesSweeps.{SweepRowsWithEndings, SweepStepsWithEndings}
use Rattle.run_shows.specs.Reclaims.Deferred.{OnlyPairsWait, OnlyTheyCarry}
use Rattle.run_shows.specs.Reclaims.Left.{ContinuesBy}
use Rattle.run_shows.specs.Reclaims.Reclaims.{AllIsReclaimed, AllStandIdle, StepsOfReclaiming}
use Rattle.many_acts.specs.Carries.Theirs.{HasObligation, AllAreTheirs}

module _ {K Q : Type 0} (V : Type 0) (same : K → K → Bool) (asks : Q → K → Bool) (batch_size roots : ℕ) (slot : ℕ → ℕ)
    (w : World (Node K V)) (maps : ℕ → Option (Standing K)) (calls : ℕ → ℕ → Option (UnderWay K V Q)) (makers : ℕ → Option (Beginning K)) (enders : ℕ → Option (Finishing K V)) where
  -- Where users have none, as in the beginning, each is.
  abbrev pub NoneBegins : Type 0
  NoneBegins = ((b : ℕ) → IsStillHad (w.hand b) → ⊥) → AllAreTheirs w maps calls enders

  -- Where nobody has a call, and no map ends, users have no other such block than the linked tables of maps that stand.
  abbrev pub OnlyTablesCarry : Type 0
  OnlyTablesCarry = ((m j : ℕ) → calls m j ≡ None) → ((j : ℕ) → enders j ≡ None) → AllAreTheirs w maps calls enders → OnlyTheyCarry w maps

  -- What a caller has under way begins, ends, or goes on otherwise, and is to hand over no less.
  abbrev pub ChangesPreserveTheirs : Type 0
  ChangesPreserveTheirs =
      (m i : ℕ) (next : Option (UnderWay K V Q)) → ((u : UnderWay K V Q) (b : ℕ) → calls m i ≡ Some u → HasObligation w maps m i u b → (u2 : UnderWay K V Q) × (next ≡ Some u2) × HasObligation w maps m i u2 b)
      → AllAreTheirs w maps calls enders → AllAreTheirs w maps (with_call calls m i next) enders

  -- a row between calls begins, or goes on
  abbrev pub GuardsPreserveTheirs : Type 0
  GuardsPreserveTheirs =
      EndingsTogether V same asks batch_size roots slot w maps calls makers enders → AllAreTheirs w maps calls enders
      → (i : ℕ) → ((m : ℕ) → calls m i ≡ None) → (w2 : World (Node K V)) (maps2 : ℕ → Option (Standing K)) → ((m : ℕ) → IsSameMap (maps m) (maps2 m))
      → ((request : Request) → IsOfSlots request → Happens deferred_word batch_size (Begin i request) w w2 → AllAreTheirs w2 maps2 calls enders)
      × (Happens deferred_word batch_size (Step i) w w2 → AllAreTheirs w2 maps2 calls enders)

  -- A call on one key takes a step that is none of a row.
  abbrev pub CallsPreserveTheirs : Type 0
  CallsPreserveTheirs =
      EndingsTogether V same asks batch_size roots slot w maps calls makers enders → AllAreTheirs w maps calls enders
      → (m : ℕ) (s : Standing K) → maps m ≡ Some s → (i : ℕ) (u : CallOnKey K V Q) → calls m i ≡ Some (OnKey u) → (IsRowOfCall u.call.stands → ⊥)
      → (m2 : Mem (Node K V)) (p2 : KeyCall K V Q) (progress : Called (Node K V)) → Steps Took value_at w.memory (call_plan asks same s.hash u.call) m2 (p2, progress)
      → (st : StepsWithEndings V same asks batch_size roots slot w maps calls makers enders m s i u m2 p2 progress)
      → AllAreTheirs st.step.went.w2 (with_at maps m (Some (record s { chart = st.step.went.c2; blocks = st.step.blocks2; sights = st.step.sights2 })))
      (with_call calls m i (next_of (record { keys = u.keys; pair = u.pair; began = u.began; change = change_observed V same s.hash asks s.setting slot st.step.went.told; call = p2 }) progress)) enders

  -- So does a reservation.
  abbrev pub RoomsPreserveTheirs : Type 0
  RoomsPreserveTheirs =
      EndingsTogether V same asks batch_size roots slot w maps calls makers enders → AllAreTheirs w maps calls enders
      → (m : ℕ) (s : Standing K) → maps m ≡ Some s → (i : ℕ) (r : CallForRoom) → calls m i ≡ Some (ForRoom r) → (IsRowOfReserve r.reserve.stands → ⊥)
      → (m2 : Mem (Node K V)) (p2 : Reserve) (end : Yielding (Node K V) Unit) → Steps Took value_at w.memory (reserve_plan s.hash r.reserve) m2 (p2, end)
      → (st : RoomStepsWithEndings V same asks batch_size roots slot w maps calls makers enders m s i r m2 p2 end)
      → AllAreTheirs st.step.went.w2 (with_at maps m (Some (record s { chart = st.step.went.c2; blocks = st.step.blocks2; sights = st.step.sights2 })))
      (with_call calls m i (next_for_room (record { began = r.began; reserve = p2 }) end)) enders

  -- And so does a sweep.
  abbrev pub SweepsPreserveTheirs : Type 0
  SweepsPreserveTheirs =
      EndingsTogether V same asks batch_size roots slot w maps calls makers enders → AllAreTheirs w maps calls enders
      → (m : ℕ) (s : Standing K) → maps m ≡ Some s → (i : ℕ) (o : CallOverAll) → calls m i ≡ Some (OverAll o) → (IsRowOfSweep o.sweep.stands → ⊥)
      → (m2 : Mem (Node K V)) (p2 : Sweep) (end : Swept (Node K V)) → Steps Took value_at w.memory (sweep_plan s.hash o.sweep) m2 (p2, end)
      → (st : SweepStepsWithEndings V same asks batch_size roots slot w maps calls makers enders m s i o m2 p2 end)
      → AllAreTheirs st.step.went.w2 (with_at maps m (Some (record s { chart = st.step.went.c2; blocks = st.step.blocks2; sights = st.step.sights2 })))
      (with_call calls m i (next_over_all (come_to o st.step.entered2 st.step.done2 p2) end)) enders

  -- A row within a call on one key begins, or goes on.
  abbrev pub RowsPreserveTheirs : Type 0
  RowsPreserveTheirs =
      EndingsTogether V same asks batch_size roots slot w maps calls makers enders → AllAreTheirs w maps calls enders
      → (m : ℕ) (s : Standing K) → maps m ≡ Some s → (i : ℕ) (u : CallOnKey K V Q) → calls m i ≡ Some (OnKey u) → IsRowOfCall u.call.stands
      → (m2 : Mem (Node K V)) (p2 : KeyCall K V Q) (progress : Called (Node K V)) → Steps Took value_at w.memory (call_plan asks same s.hash u.call) m2 (p2, progress)
      → (st : RowStepsWithEndings V same asks batch_size roots slot w maps calls makers enders m s i u m2 p2 progress)
      → AllAreTheirs st.step.w2 st.together.0 (with_call calls m i (next_of (record { keys = u.keys; pair = u.pair; began = u.began; change = u.change; call = p2 }) progress)) enders

  -- So does one within a reservation, and one within a sweep.
  abbrev pub RoomRowsPreserveTheirs : Type 0
  RoomRowsPreserveTheirs =
      EndingsTogether V same asks batch_size roots slot w maps calls makers enders → AllAreTheirs w maps calls enders
      → (m : ℕ) (s : Standing K) → maps m ≡ Some s → (i : ℕ) (r : CallForRoom) → calls m i ≡ Some (ForRoom r) → IsRowOfReserve r.reserve.stands
      → (m2 : Mem (Node K V)) (p2 : Reserve) (end : Yielding (Node K V) Unit) → Steps Took value_at w.memory (reserve_plan s.hash r.reserve) m2 (p2, end)
      → (st : RoomRowsWithEndings V same asks batch_size roots slot w maps calls makers enders m s i r m2 p2 end)
      → AllAreTheirs st.step.w2 st.together.0 (with_call calls m i (next_for_room (record { began = r.began; reserve = p2 }) end)) enders

  abbrev pub SweepRowsPreserveTheirs : Type 0
  SweepRowsPreserveTheirs =
      EndingsTogether V same asks batch_size roots slot w maps calls makers enders → AllAreTheirs w maps calls enders
      → (m : ℕ) (s : Standing K) → maps m ≡ Some s → (i : ℕ) (o : CallOverAll) → calls m i ≡ Some (OverAll o) → IsRowOfSweep o.sweep.stands
      → (m2 : Mem (Node K V)) (p2 : Sweep) (end : Swept (Node K V)) → Steps Took value_at w.memory (sweep_plan s.hash o.sweep) m2 (p2, end)
      → (st : SweepRowsWithEndings V same asks batch_size roots slot w maps calls makers enders m s i o m2 p2 end)
      → AllAreTheirs st.step.w2 st.together.0 (with_call calls m i (next_over_all (gone_on o p2) end)) enders

  -- A making has taken a step. The invariant of all holds then: the maps that stood, and that of the making, if it has come to it.
  abbrev pub MakingKept : Beginning K → World (Node K V) → NewMap × Advance Setting → Type 0
  MakingKept b w2 (n, progress.Done answer) =
      (s : Standing K) → IsMade V same asks batch_size roots slot b answer s → MapsTogether V same asks batch_size slot w2 (with_at maps b.map (Some s)) calls
      → AllAreTheirs w2 (with_at maps b.map (Some s)) calls enders
  MakingKept b w2 (n, _) = AllAreTheirs w2 maps calls enders

  -- what its map has linked by then is its first table
  abbrev pub MakingsPreserveTheirs : Type 0
  MakingsPreserveTheirs =
      EndingsTogether V same asks batch_size roots slot w maps calls makers enders → AllAreTheirs w maps calls enders
      → (i : ℕ) (b : Beginning K) → makers i ≡ Some b → (m2 : Mem (Node K V)) (end : NewMap × Advance Setting)
      → (st : StepsOfMaking V same asks batch_size roots slot w maps calls makers i b m2 end) → MakingKept b st.w2 end

  -- The end of a map begins, on which nobody has a call.
  abbrev pub EndingsBeginAndPreserveTheirs : Type 0
  EndingsBeginAndPreserveTheirs =
      AllAreTheirs w maps calls enders → (i : ℕ) → enders i ≡ None → (m : ℕ) (s : Standing K) → maps m ≡ Some s → ((j : ℕ) → calls m j ≡ None)
      → (w2 : World (Node K V)) → Happens deferred_word batch_size (Ends i s.setting.counter) w w2
      → AllAreTheirs w2 (with_at maps m None) calls (with_at enders i (Some (finishing_of s w)))

  -- It takes a step, by which it goes on, or is over.
  abbrev pub EndingsPreserveTheirs : Type 0
  EndingsPreserveTheirs =
      AllAreTheirs w maps calls enders → (i : ℕ) (f : Finishing K V) → enders i ≡ Some f → (m2 : Mem (Node K V)) (end : EndMap × Settled (Node K V))
      → (st : StepsOfEnding V same asks batch_size roots slot w maps calls makers enders i f m2 end)
      → ((f2 : Finishing K V) → ContinuesBy V same asks batch_size roots slot w maps calls makers enders f st.deed f2 → AllAreTheirs st.w2 maps calls (with_at enders i (Some f2)))
      × (HasFinished st.w2.memory f → AllAreTheirs st.w2 maps calls (with_at enders i None))

  -- A caller that reclaims all takes a step.
  abbrev pub ReclaimingPreservesTheirs : Type 0
  ReclaimingPreservesTheirs =
      AllStandIdle V same asks batch_size roots slot maps calls makers enders w → (i : ℕ) (lists : ℕ → List ℕ) (point : Reclaiming) (m2 : Mem (Node K V)) (c2 : ReclaimAll) (progress : Settled (Node K V))
      → (st : StepsOfReclaiming V same asks batch_size roots slot maps calls makers enders w i lists point m2 c2 progress)
      → AllAreTheirs w maps calls enders → AllAreTheirs st.w2 st.maps2 calls enders

  -- Once all is reclaimed, nothing waits but what is deferred on linked tables of maps that stand.
  abbrev pub NothingElseWaits : Type 0
  NothingElseWaits = AllStandIdle V same asks batch_size roots slot maps calls makers enders w → AllIsReclaimed roots w maps → AllAreTheirs w maps calls enders → OnlyPairsWait w maps
