-- In blocking mode: that each copying that is not over has who goes on with it, who ends it, or who gives it up; and which call a call waits for then.
use Rattle.std.specs.Prelude.{◌≡◌, ◌≢◌, ℕ, ◌<◌, ◌≤◌, ◌⊎◌, Bool, true, false, Option, Some}
use Rattle.std.specs.Int.{IsPowerOfTwo}
use Rattle.seize.specs.World.{World, with_at}
use Rattle.map_tables.specs.Chunks.{is_incremental}
use Rattle.map_tables.specs.declared.node.Node.{Node}
use Rattle.map_tables.specs.declared.setting.Setting.{Setting}
use Rattle.map_machines.specs.declared.copier.Copier.{Copier}
use Rattle.map_machines.specs.declared.copier.Copying.{Copying as Point}
use Rattle.map_machines.specs.declared.copier.Copying.TheVariants as copies
use Rattle.many_calls.specs.Given.RuleChart.{Chart, Counted, Lost}
use Rattle.many_calls.specs.Given.RuleMaps.{IsTable}
use Rattle.many_calls.specs.Given.RuleMoves.{is_of_caller}
use Rattle.many_calls.specs.Given.RuleWords.{Blocks}
use Rattle.many_calls.specs.Given.PointsFactsCopiesBlocking.{HasNoShares}
use Rattle.seize_words.specs.OneMemory.Mem.{Mem, Took, value_at}
use Rattle.seize_words.specs.OneMemory.Plan.{Steps}
use Rattle.map_machines.specs.declared.yielding.Yielding.{Yielding}
use Rattle.many_calls.specs.Given.RawCall.{call_plan}
use Rattle.many_calls.specs.Given.RawDeclared.machines.answer.Called.{Called}
use Rattle.many_calls.specs.Given.RawDeclared.machines.call.KeyCall.{KeyCall}
use Rattle.map_sweeps.specs.Reserves.Reserve.{reserve_plan}
use Rattle.map_sweeps.specs.declared.reserve.Reserve.{Reserve}
use Rattle.map_sweeps.specs.Sweeps.Sweep.{sweep_plan}
use Rattle.map_sweeps.specs.declared.sweep.Sweep.{Sweep}
use Rattle.map_sweeps.specs.declared.sweep.Swept.{Swept}
use Rattle.many_calls.specs.Given.PointsSteps.{AreLawful}
use Rattle.many_calls.specs.Given.PointsTold.{IsRowOfCall}
use Rattle.many_calls.specs.Given.LateToldReserves.{IsRowOfReserve}
use Rattle.many_calls.specs.Given.LateToldSweeps.{IsRowOfSweep}
use Rattle.many_calls.specs.Sights.{Visible}
use Rattle.many_calls.specs.Together.{UnderWay, Together, in_slot, CallOnKey, OnKey, ForRoom, OverAll, StepsTogether, RoomStepsTogether, change_observed, next_of, next_for_room, next_over_all}
use Rattle.many_calls.specs.OverAll.{CallOverAll, come_to}
use Rattle.many_calls.specs.Rooms.{CallForRoom}
use Rattle.many_calls.specs.Sweeps.{SweepStepsTogether}
use Rattle.map_measures.specs.Waits.Others.{EndsAt, copier_of}
use Rattle.map_measures.specs.Waits.Waits.{IsUnfinished}

module _ {K : Type 0} (c : Chart K) where
  -- a place of the root is not yet counted for this table behind
  abbrev pub IsUncounted : ℕ → Type 0
  IsUncounted t = (c.first < t) × (j : ℕ) × (j < c.len c.first) × (c.share t j ≢ Counted)

  -- the copier is to say that the table with this turn is given up
  abbrev pub AbortsAt : Copier → Point → ℕ → Type 0
  AbortsAt p copies.Aborts t = (p.target.turn ≡ t) × (c.first < t)
  AbortsAt p _ t = ⊥

  -- A copier that asks how the copying stands, having found each place claimed, found so: each is, as long as that copying goes on. At its other points, until it is over, it has not.
  abbrev pub SpentAt : Copier → Point → Type 0
  SpentAt p copies.Asks = p.spent ≡ true → c.first < p.target.turn → p.target.turn < c.past → c.len c.first ≤ c.claim p.target.turn
  SpentAt p copies.Over = Unit {0}
  SpentAt p _ = p.spent ≡ false

  module _ {V Q : Type 0} (calls : ℕ → Option (UnderWay K V Q)) where
    -- the copier within which some call stands is so
    abbrev pub SomeCopier : (Copier → Type 0) → Type 0
    SomeCopier Is = (k : ℕ) × (u : UnderWay K V Q) × (p : Copier) × (calls k ≡ Some u) × (copier_of u ≡ Some p) × Is p

    -- Each copying that is not over has a place that is not counted, or a call that is to end it; if a place was given up, one that is to give it up; and where
    -- a copier asks how it stands, having found each place claimed, each is.
    pub record HaveEndsBlocking : Type 0 where
      pub ends : (t : ℕ) → 0 < t → t < c.past → IsUnfinished c t → IsUncounted t ⊎ SomeCopier (λ p. EndsAt c p p.stands t)
      pub lost : (t j : ℕ) → c.first < t → t < c.past → IsUnfinished c t → j < c.len c.first → c.share t j ≡ Lost → SomeCopier (λ p. AbortsAt p p.stands t)
      pub spent : (i : ℕ) (x : UnderWay K V Q) → calls i ≡ Some x → (p : Copier) → copier_of x ≡ Some p → SpentAt p p.stands

-- The promise: if the copier within which a call stands has found each place claimed, and asks how the copying stands, which is not over, then another caller has a call: it is to
-- copy a place for that table, or has and has not counted it; or it is to end the copying, or to give it up.
abbrev pub AskersHaveOthersBlocking : {K Q : Type 0} → (V : Type 0) → (K → K → Bool) → (K → ℕ) → (Q → K → Bool) → Setting → (ℕ → ℕ) → Type 0
AskersHaveOthersBlocking {K} {Q} V same hash asks setting slot =
    (w : World (Node K V)) (c : Chart K) (blocks : Blocks) (sights : ℕ → Visible) (calls : ℕ → Option (UnderWay K V Q))
    → Together V same hash asks setting slot w c blocks sights calls → is_incremental setting.mode ≡ false → HaveEndsBlocking c calls
    → (i : ℕ) (x : UnderWay K V Q) → calls i ≡ Some x → (p : Copier) → copier_of x ≡ Some p → p.stands ≡ copies.Asks → p.spent ≡ true
    → (seen : Blocks) (s t : ℕ) → s < t → IsTable c seen p.target t → HasNoShares same hash w i (in_slot setting (slot i)) c seen → IsUnfinished c t
    → (k : ℕ) × (u : UnderWay K V Q) × (calls k ≡ Some u) × (k ≢ i)
    × (((c.first < t) × (j : ℕ) × (is_of_caller k (c.share t j) ≡ true))
    ⊎ ((q : Copier) × (copier_of u ≡ Some q) × (EndsAt c q q.stands t ⊎ AbortsAt c q q.stands t)))

module _ {K Q : Type 0} (V : Type 0) (same : K → K → Bool) (hash : K → ℕ) (asks : Q → K → Bool) (setting : Setting) (slot : ℕ → ℕ) where
  -- In blocking mode: where each copying that is not over has who goes on with it, who ends it, or who gives it up, it has after each step of a call on one key that is none of a row.
  abbrev pub CallsPreserveEndsBlocking : Type 0
  CallsPreserveEndsBlocking =
      AreLawful same hash → IsPowerOfTwo setting.initial → is_incremental setting.mode ≡ false
      → (w : World (Node K V)) (c : Chart K) (blocks : Blocks) (sights : ℕ → Visible) (calls : ℕ → Option (UnderWay K V Q))
      → Together V same hash asks setting slot w c blocks sights calls → HaveEndsBlocking c calls
      → (i : ℕ) (u : CallOnKey K V Q) → calls i ≡ Some (OnKey u) → (IsRowOfCall u.call.stands → ⊥)
      → (m2 : Mem (Node K V)) (p2 : KeyCall K V Q) (progress : Called (Node K V)) → Steps Took value_at w.memory (call_plan asks same hash u.call) m2 (p2, progress)
      → (leads : StepsTogether V same hash asks setting slot w c blocks sights calls i u m2 p2 progress)
      → HaveEndsBlocking leads.went.c2
      (with_at calls i (next_of (record { keys = u.keys; pair = u.pair; began = u.began; change = change_observed V same hash asks setting slot leads.went.told; call = p2 }) progress))

  -- so it has after one of a reservation
  abbrev pub RoomsPreserveEndsBlocking : Type 0
  RoomsPreserveEndsBlocking =
      AreLawful same hash → IsPowerOfTwo setting.initial → is_incremental setting.mode ≡ false
      → (w : World (Node K V)) (c : Chart K) (blocks : Blocks) (sights : ℕ → Visible) (calls : ℕ → Option (UnderWay K V Q))
      → Together V same hash asks setting slot w c blocks sights calls → HaveEndsBlocking c calls
      → (i : ℕ) (r : CallForRoom) → calls i ≡ Some (ForRoom r) → (IsRowOfReserve r.reserve.stands → ⊥)
      → (m2 : Mem (Node K V)) (p2 : Reserve) (end : Yielding (Node K V) Unit) → Steps Took value_at w.memory (reserve_plan hash r.reserve) m2 (p2, end)
      → (leads : RoomStepsTogether V same hash asks setting slot w c blocks sights calls i r m2 p2 end)
      → HaveEndsBlocking leads.went.c2 (with_at calls i (next_for_room (record { began = r.began; reserve = p2 }) end))

  -- and after one of a sweep
  abbrev pub SweepsPreserveEndsBlocking : Type 0
  SweepsPreserveEndsBlocking =
      AreLawful same hash → IsPowerOfTwo setting.initial → is_incremental setting.mode ≡ false
      → (w : World (Node K V)) (c : Chart K) (blocks : Blocks) (sights : ℕ → Visible) (calls : ℕ → Option (UnderWay K V Q))
      → Together V same hash asks setting slot w c blocks sights calls → HaveEndsBlocking c calls
      → (i : ℕ) (o : CallOverAll) → calls i ≡ Some (OverAll o) → (IsRowOfSweep o.sweep.stands → ⊥)
      → (m2 : Mem (Node K V)) (p2 : Sweep) (end : Swept (Node K V)) → Steps Took value_at w.memory (sweep_plan hash o.sweep) m2 (p2, end)
      → (leads : SweepStepsTogether V same hash asks setting slot w c blocks sights calls i o m2 p2 end)
      → HaveEndsBlocking leads.went.c2 (with_at calls i (next_over_all (come_to o leads.entered2 leads.done2 p2) end))
