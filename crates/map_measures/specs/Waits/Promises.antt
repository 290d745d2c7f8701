-- What is promised of each step that answers that its call waits.
use Rattle.std.specs.Prelude.{◌≡◌, ◌≢◌, ℕ, Bool, Option, Some, ◌⊎◌}
use Rattle.seize_words.specs.OneMemory.Mem.{Mem, Took, value_at}
use Rattle.seize_words.specs.OneMemory.Plan.{Steps}
use Rattle.seize.specs.World.{World, Rests}
use Rattle.map_tables.specs.Chunks.{is_incremental}
use Rattle.map_tables.specs.declared.node.Node.{Node}
use Rattle.map_tables.specs.declared.setting.Setting.{Setting}
use Rattle.map_machines.specs.declared.lookup.Lookup.{Lookup}
use Rattle.map_machines.specs.declared.yielding.Yielding.TheVariants as outcome
use Rattle.many_calls.specs.Given.RawCall.{call_plan}
use Rattle.many_calls.specs.Given.RawDeclared.machines.answer.Called.{Called}
use Rattle.many_calls.specs.Given.RawDeclared.machines.answer.Called.TheVariants as called
use Rattle.many_calls.specs.Given.RawDeclared.machines.call.KeyCall.{KeyCall}
use Rattle.many_calls.specs.Given.RawDeclared.machines.call.Calling.TheVariants as at
use Rattle.map_sweeps.specs.Reserves.Reserve.{reserve_plan}
use Rattle.map_sweeps.specs.declared.reserve.Reserve.{Reserve}
use Rattle.map_sweeps.specs.Sweeps.Sweep.{sweep_plan}
use Rattle.map_sweeps.specs.declared.sweep.Sweep.{Sweep}
use Rattle.map_sweeps.specs.declared.sweep.Swept.TheVariants as swept
use Rattle.many_calls.specs.Given.RuleChart.{Chart}
use Rattle.many_calls.specs.Given.RuleWords.{Blocks}
use Rattle.many_calls.specs.Given.RuleInWorld.{IsMapIn}
use Rattle.many_calls.specs.Given.PointsSteps.{AreLawful}
use Rattle.many_calls.specs.Given.PointsTold.{IsRowOfCall}
use Rattle.many_calls.specs.Given.LateToldReserves.{IsRowOfReserve}
use Rattle.many_calls.specs.Given.LateFactsSweeps.{SweepFacts}
use Rattle.many_calls.specs.Given.LateToldSweeps.{IsRowOfSweep}
use Rattle.many_calls.specs.Rooms.{CallForRoom, row_of_room}
use Rattle.many_calls.specs.Rows.{row_of}
use Rattle.many_calls.specs.Sights.{Visible}
use Rattle.many_calls.specs.Together.{CallOnKey, UnderWay, OnKey, ForRoom, CameAbout, Together}
use Rattle.map_measures.specs.Waits.Waits.{CallAwaits, RoomAwaits, SweepAwaits, row_of_sweep, AnotherHolds}

module _ {K Q : Type 0} (V : Type 0) (same : K → K → Bool) (hash : K → ℕ) (asks : Q → K → Bool) (setting : Setting) (slot : ℕ → ℕ) where
  -- A step of a call on one key, none of a row, waits only while this is so, and leaves the call where it stands.
  abbrev pub CallsWaitForACopying : Type 0
  CallsWaitForACopying =
      AreLawful same hash → (w : World (Node K V)) (c : Chart K) (blocks : Blocks) (sights : ℕ → Visible) (calls : ℕ → Option (UnderWay K V Q))
      → Together V same hash asks setting slot w c blocks sights calls → (i : ℕ) (u : CallOnKey K V Q) → calls i ≡ Some (OnKey u)
      → (IsRowOfCall u.call.stands → ⊥)
      → (m2 : Mem (Node K V)) (p2 : KeyCall K V Q) → Steps Took value_at w.memory (call_plan asks same hash u.call) m2 (p2, called.Waits)
      → (p2 ≡ u.call) × CallAwaits c (is_incremental setting.mode) u.call u.call.stands

  -- nor does one of a reservation
  abbrev pub RoomsWaitForACopying : Type 0
  RoomsWaitForACopying =
      AreLawful same hash → (w : World (Node K V)) (c : Chart K) (blocks : Blocks) (sights : ℕ → Visible) (calls : ℕ → Option (UnderWay K V Q))
      → Together V same hash asks setting slot w c blocks sights calls → (i : ℕ) (r : CallForRoom) → calls i ≡ Some (ForRoom r)
      → (IsRowOfReserve r.reserve.stands → ⊥)
      → (m2 : Mem (Node K V)) (p2 : Reserve) → Steps Took value_at w.memory (reserve_plan hash r.reserve) m2 (p2, outcome.Waits)
      → (p2 ≡ r.reserve) × RoomAwaits c (is_incremental setting.mode) r.reserve.stands

  -- A step of a row within a call on one key, which may be its first, waits only while another row has the batch of its slot in hand.
  abbrev pub CallRowsWaitForAHolder : Type 0
  CallRowsWaitForAHolder =
      (w : World (Node K V)) (c : Chart K) (blocks : Blocks) (sights : ℕ → Visible) (calls : ℕ → Option (UnderWay K V Q))
      → Together V same hash asks setting slot w c blocks sights calls → (i : ℕ) (u : CallOnKey K V Q) → calls i ≡ Some (OnKey u) → IsRowOfCall u.call.stands
      → (m2 : Mem (Node K V)) (p2 : KeyCall K V Q) → Steps Took value_at w.memory (call_plan asks same hash u.call) m2 (p2, called.Waits)
      → AnotherHolds w i (row_of (slot i) u.call.stands)

  -- so it is within a reservation
  abbrev pub RoomRowsWaitForAHolder : Type 0
  RoomRowsWaitForAHolder =
      (w : World (Node K V)) (c : Chart K) (blocks : Blocks) (sights : ℕ → Visible) (calls : ℕ → Option (UnderWay K V Q))
      → Together V same hash asks setting slot w c blocks sights calls → (i : ℕ) (r : CallForRoom) → calls i ≡ Some (ForRoom r)
      → IsRowOfReserve r.reserve.stands
      → (m2 : Mem (Node K V)) (p2 : Reserve) → Steps Took value_at w.memory (reserve_plan hash r.reserve) m2 (p2, outcome.Waits)
      → AnotherHolds w i (row_of_room r.reserve.stands)

module _ {K : Type 0} (V : Type 0) (same : K → K → Bool) (hash : K → ℕ) where
  -- A step of a sweep, none of a row, that knows what its point knows, waits only while this is so.
  abbrev pub SweepsWaitForACopying : Type 0
  SweepsWaitForACopying =
      AreLawful same hash → (setting : Setting) (w : World (Node K V)) (caller : ℕ) (c : Chart K) (blocks : Blocks) (began : ℕ) (p : Sweep)
      → IsMapIn same hash setting w c blocks → SweepFacts same hash w caller setting c blocks began p → (IsRowOfSweep p.stands → ⊥)
      → (m2 : Mem (Node K V)) (p2 : Sweep) → Steps Took value_at w.memory (sweep_plan hash p) m2 (p2, swept.Waits)
      → (p2 ≡ p) × SweepAwaits c (is_incremental setting.mode) p.stands

-- a call that looks up a key never waits, whatever the memory is
abbrev pub LookupsNeverWait : {K Q : Type 0} → (V : Type 0) → (K → K → Bool) → (K → ℕ) → (Q → K → Bool) → Type 0
LookupsNeverWait {K} {Q} V same hash asks =
    (p : KeyCall K V Q) (lookup : Lookup) → p.stands ≡ at.Looks lookup → (m m2 : Mem (Node K V)) (p2 : KeyCall K V Q) (progress : Called (Node K V))
    → Steps Took value_at m (call_plan asks same hash p) m2 (p2, progress) → progress ≢ called.Waits

module _ {K : Type 0} (V : Type 0) (hash : K → ℕ) (slot : ℕ → ℕ) where
  -- The row within a sweep of this caller, in a world that came about from the start, waits as those within other calls do.
  abbrev pub SweepRowsWaitForAHolder : Type 0
  SweepRowsWaitForAHolder =
      (batch_size : ℕ) (w : World (Node K V)) → CameAbout batch_size w → (i : ℕ) (p : Sweep) → IsRowOfSweep p.stands
      → (w.row i ≡ Rests) ⊎ (w.row i ≡ row_of_sweep (slot i) p.stands)
      → (m2 : Mem (Node K V)) (p2 : Sweep) → Steps Took value_at w.memory (sweep_plan hash p) m2 (p2, swept.Waits)
      → AnotherHolds w i (row_of_sweep (slot i) p.stands)
