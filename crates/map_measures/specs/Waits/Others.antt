-- Which call another one waits for, in incremental mode: who copies a pair that is being copied, and who goes on with a copying that is not over.
use Rattle.std.specs.Prelude.{◌≡◌, ◌≢◌, ℕ, suc, ◌<◌, ◌≤◌, ◌⊎◌, Bool, true, Option, Some, None}
use Rattle.std.specs.Int.{IsPowerOfTwo}
use Rattle.seize_words.specs.OneMemory.Mem.{Mem, Took, value_at}
use Rattle.seize_words.specs.OneMemory.Plan.{Steps}
use Rattle.seize.specs.World.{World, with_at}
use Rattle.map_tables.specs.Chunks.{is_incremental}
use Rattle.map_tables.specs.declared.node.Node.{Node}
use Rattle.map_tables.specs.declared.setting.Setting.{Setting}
use Rattle.map_machines.specs.declared.yielding.Yielding.{Yielding}
use Rattle.map_machines.specs.declared.copier.Copier.{Copier}
use Rattle.map_machines.specs.declared.copier.Copying.{Copying as Point}
use Rattle.map_machines.specs.declared.copier.Copying.TheVariants as copies
use Rattle.many_calls.specs.Given.RawCall.{call_plan}
use Rattle.many_calls.specs.Given.RawDeclared.machines.answer.Called.{Called}
use Rattle.many_calls.specs.Given.RawDeclared.machines.call.KeyCall.{KeyCall}
use Rattle.many_calls.specs.Given.RawDeclared.machines.call.Calling.{Calling}
use Rattle.many_calls.specs.Given.RawDeclared.machines.call.Calling.TheVariants as at
use Rattle.map_sweeps.specs.Reserves.Reserve.{reserve_plan}
use Rattle.map_sweeps.specs.declared.reserve.Reserve.{Reserve}
use Rattle.map_sweeps.specs.declared.reserve.Reserving.{Reserving}
use Rattle.map_sweeps.specs.declared.reserve.Reserving.TheVariants as reserves
use Rattle.map_sweeps.specs.Sweeps.Sweep.{sweep_plan}
use Rattle.map_sweeps.specs.declared.sweep.Sweep.{Sweep}
use Rattle.map_sweeps.specs.declared.sweep.Swept.{Swept}
use Rattle.map_sweeps.specs.declared.sweep.Sweeping.{Sweeping}
use Rattle.map_sweeps.specs.declared.sweep.Sweeping.TheVariants as sweeps
use Rattle.many_calls.specs.Given.RuleChart.{Chart, Share, Claimed, Done, Counted, Lost}
use Rattle.many_calls.specs.Given.RuleWords.{Blocks}
use Rattle.many_calls.specs.Given.PointsFactsCopies.{CopyingFacts}
use Rattle.many_calls.specs.Given.PointsSteps.{AreLawful}
use Rattle.many_calls.specs.Given.PointsTold.{IsRowOfCall}
use Rattle.many_calls.specs.Given.LateToldReserves.{IsRowOfReserve}
use Rattle.many_calls.specs.Given.LateToldSweeps.{IsRowOfSweep}
use Rattle.many_calls.specs.OverAll.{CallOverAll, come_to}
use Rattle.many_calls.specs.Rooms.{CallForRoom}
use Rattle.many_calls.specs.Sights.{Visible}
use Rattle.many_calls.specs.Sweeps.{SweepStepsTogether}
use Rattle.many_calls.specs.Together.{CallOnKey, UnderWay, OnKey, ForRoom, Counting, OverAll, Together, StepsTogether, RoomStepsTogether, change_observed, next_of, next_for_room, next_over_all, in_slot}
use Rattle.map_measures.specs.Waits.Waits.{IsUnfinished, IsBeingCopied}

-- it is not yet counted
abbrev pub IsToCount : Share → Type 0
IsToCount Counted = ⊥
IsToCount Lost = ⊥
IsToCount _ = Unit {0}

-- the copier within which a call on one key stands, if it does
abbrev pub copier_in : Calling → Option Copier
copier_in (at.Helps copier goal) = Some copier
copier_in (at.Copies copier) = Some copier
copier_in _ = None

abbrev pub copier_in_room : Reserving → Option Copier
copier_in_room (reserves.Copies copier) = Some copier
copier_in_room _ = None

abbrev pub copier_in_sweep : Sweeping → Option Copier
copier_in_sweep (sweeps.Copies copier) = Some copier
copier_in_sweep _ = None

abbrev pub copier_of : {K V Q : Type 0} → UnderWay K V Q → Option Copier
copier_of (OnKey u) = copier_in u.call.stands
copier_of (ForRoom r) = copier_in_room r.reserve.stands
copier_of (Counting sum) = None
copier_of (OverAll o) = copier_in_sweep o.sweep.stands

module _ {K : Type 0} (c : Chart K) where
  -- the copier is to end the copying into the table with this turn: it is to make that the root, or has done so and is to say it in the status
  abbrev pub EndsAt : Copier → Point → ℕ → Type 0
  EndsAt p copies.Promotes t = (p.target.turn ≡ t) × (c.first < t)
  EndsAt p copies.Announces t = (p.target.turn ≡ t) × (t ≤ c.first)
  EndsAt p _ t = ⊥

  -- a place of the root is not yet counted for this table behind
  abbrev pub IsOpen : ℕ → Type 0
  IsOpen t = (c.first < t) × (j : ℕ) × (j < c.len c.first) × IsToCount (c.share t j)

  -- each copying that is not over has a place that is not counted, or a call that is to end it
  abbrev pub HaveEnds : {V Q : Type 0} → (ℕ → Option (UnderWay K V Q)) → Type 0
  HaveEnds {V} {Q} calls =
      (t : ℕ) → 0 < t → t < c.past → IsUnfinished c t
      → IsOpen t ⊎ ((k : ℕ) × (u : UnderWay K V Q) × (p : Copier) × (calls k ≡ Some u) × (copier_of u ≡ Some p) × EndsAt p p.stands t)

module _ {K Q : Type 0} (V : Type 0) (same : K → K → Bool) (hash : K → ℕ) (asks : Q → K → Bool) (setting : Setting) (slot : ℕ → ℕ) where
  -- A pair that is being copied stands in the root, behind which another table is linked, and a caller that has a call on the map has claimed its place.
  abbrev pub PairsAreCopiedByCalls : Type 0
  PairsAreCopiedByCalls =
      (w : World (Node K V)) (c : Chart K) (blocks : Blocks) (sights : ℕ → Visible) (calls : ℕ → Option (UnderWay K V Q))
      → Together V same hash asks setting slot w c blocks sights calls → is_incremental setting.mode ≡ true → (t place : ℕ) → IsBeingCopied c t place
      → (t ≡ c.first) × (suc c.first < c.past) × (k : ℕ) × (u : UnderWay K V Q) × (calls k ≡ Some u) × (c.share (suc c.first) place ≡ Claimed k)

  -- Where each copying that is not over has a place that is not counted, or a call that is to end it: if the copier within which a call stands has found each
  -- place claimed, and asks how the copying stands, which is not over, then another caller has a call. Either the table is linked behind the root, and the
  -- other has copied a place into it that it has not counted; or the other is to end the copying.
  abbrev pub AskersHaveOthers : Type 0
  AskersHaveOthers =
      (w : World (Node K V)) (c : Chart K) (blocks : Blocks) (sights : ℕ → Visible) (calls : ℕ → Option (UnderWay K V Q))
      → Together V same hash asks setting slot w c blocks sights calls → is_incremental setting.mode ≡ true → HaveEnds c calls
      → (i : ℕ) (x : UnderWay K V Q) → calls i ≡ Some x → (p : Copier) → copier_of x ≡ Some p → p.stands ≡ copies.Asks
      → (seen : Blocks) → CopyingFacts same hash w i (in_slot setting (slot i)) c seen p copies.Asks → IsUnfinished c p.target.turn
      → (k : ℕ) × (u : UnderWay K V Q) × (calls k ≡ Some u) × (k ≢ i)
      × (((suc c.first < c.past) × (j : ℕ) × (j < c.len c.first) × (c.share (suc c.first) j ≡ Done k))
      ⊎ ((q : Copier) × (copier_of u ≡ Some q) × EndsAt c q q.stands p.target.turn))

  -- In incremental mode: where each copying that is not over has a place that is not counted, or a call that is to end it, it has after each step of a call on
  -- one key that is none of a row.
  abbrev pub CallsPreserveEnds : Type 0
  CallsPreserveEnds =
      AreLawful same hash → IsPowerOfTwo setting.initial → is_incremental setting.mode ≡ true
      → (w : World (Node K V)) (c : Chart K) (blocks : Blocks) (sights : ℕ → Visible) (calls : ℕ → Option (UnderWay K V Q))
      → Together V same hash asks setting slot w c blocks sights calls → HaveEnds c calls
      → (i : ℕ) (u : CallOnKey K V Q) → calls i ≡ Some (OnKey u) → (IsRowOfCall u.call.stands → ⊥)
      → (m2 : Mem (Node K V)) (p2 : KeyCall K V Q) (progress : Called (Node K V)) → Steps Took value_at w.memory (call_plan asks same hash u.call) m2 (p2, progress)
      → (leads : StepsTogether V same hash asks setting slot w c blocks sights calls i u m2 p2 progress)
      → HaveEnds leads.went.c2
      (with_at calls i (next_of (record { keys = u.keys; pair = u.pair; began = u.began; change = change_observed V same hash asks setting slot leads.went.told; call = p2 }) progress))

  -- so it has after one of a reservation
  abbrev pub RoomsPreserveEnds : Type 0
  RoomsPreserveEnds =
      AreLawful same hash → IsPowerOfTwo setting.initial → is_incremental setting.mode ≡ true
      → (w : World (Node K V)) (c : Chart K) (blocks : Blocks) (sights : ℕ → Visible) (calls : ℕ → Option (UnderWay K V Q))
      → Together V same hash asks setting slot w c blocks sights calls → HaveEnds c calls
      → (i : ℕ) (r : CallForRoom) → calls i ≡ Some (ForRoom r) → (IsRowOfReserve r.reserve.stands → ⊥)
      → (m2 : Mem (Node K V)) (p2 : Reserve) (end : Yielding (Node K V) Unit) → Steps Took value_at w.memory (reserve_plan hash r.reserve) m2 (p2, end)
      → (leads : RoomStepsTogether V same hash asks setting slot w c blocks sights calls i r m2 p2 end)
      → HaveEnds leads.went.c2 (with_at calls i (next_for_room (record { began = r.began; reserve = p2 }) end))

  -- and after one of a sweep
  abbrev pub SweepsPreserveEnds : Type 0
  SweepsPreserveEnds =
      AreLawful same hash → IsPowerOfTwo setting.initial → is_incremental setting.mode ≡ true
      → (w : World (Node K V)) (c : Chart K) (blocks : Blocks) (sights : ℕ → Visible) (calls : ℕ → Option (UnderWay K V Q))
      → Together V same hash asks setting slot w c blocks sights calls → HaveEnds c calls
      → (i : ℕ) (o : CallOverAll) → calls i ≡ Some (OverAll o) → (IsRowOfSweep o.sweep.stands → ⊥)
      → (m2 : Mem (Node K V)) (p2 : Sweep) (end : Swept (Node K V)) → Steps Took value_at w.memory (sweep_plan hash o.sweep) m2 (p2, end)
      → (leads : SweepStepsTogether V same hash asks setting slot w c blocks sights calls i o m2 p2 end)
      → HaveEnds leads.went.c2 (with_at calls i (next_over_all (come_to o leads.entered2 leads.done2 p2) end))
