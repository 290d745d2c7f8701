-- What a copier may begin to make follows a table of its map: by what it knows where it stands.
use Rattle.std.specs.Prelude.{◌≡◌, ℕ, Bool, true, false, cond, Some}
use Rattle.std.proofs.Common.{inl, inr}
use Rattle.papaya_raw.specs.Given.SeizeWorld.{World}
use Rattle.papaya_raw.specs.Given.TablesChunks.{is_incremental}
use Rattle.papaya_raw.specs.Given.TablesDeclared.lengths.Reason.TheVariants.{NoPlace}
use Rattle.papaya_raw.specs.Given.TablesDeclared.node.Node.{Node}
use Rattle.papaya_raw.specs.Given.TablesDeclared.setting.Setting.{Setting}
use Rattle.papaya_raw.specs.Given.TablesDeclared.table.Table.{Table}
use Rattle.run_finds.specs.Given.ResizeNewTable.{table_after}
use Rattle.run_finds.specs.Given.ResizeDeclared.copier.Copier.{Copier}
use Rattle.run_finds.specs.Given.ResizeDeclared.copier.Copying.{Copying}
use Rattle.run_finds.specs.Given.ResizeDeclared.copier.Copying.TheVariants as copying
use Rattle.run_finds.specs.Given.ResizeDeclared.new_table.NewTable.{NewTable}
use Rattle.papaya_raw.specs.Given.ReservesDeclared.reserve.Reserving.{Reserving}
use Rattle.papaya_raw.specs.Given.ReservesDeclared.reserve.Reserving.TheVariants as reserving
use Rattle.papaya_raw.specs.Given.ReservesDeclared.sweep.Sweep.{Sweep}
use Rattle.papaya_raw.specs.Given.ReservesDeclared.sweep.Sweeping.{Sweeping}
use Rattle.papaya_raw.specs.Given.ReservesDeclared.sweep.Sweeping.TheVariants as sweeping
use Rattle.papaya_raw.specs.declared.machines.call.Calling.{Calling}
use Rattle.papaya_raw.specs.declared.machines.call.Calling.TheVariants as calling
use Rattle.papaya_raw.specs.declared.machines.call.KeyCall.{KeyCall}
use Rattle.run_finds.specs.Given.RuleChart.{Chart}
use Rattle.run_finds.specs.Given.RuleMaps.{IsTable}
use Rattle.run_finds.specs.Given.RuleWords.{Blocks}
use Rattle.run_finds.specs.Given.PointsFactsCalls.{CallingFacts, Change}
use Rattle.run_finds.specs.Given.PointsFactsCopies.{CopierFacts, CopyingFacts}
use Rattle.run_finds.specs.Given.PointsFactsCopiesBlocking.{CopierFactsBlocking, CopyingFactsBlocking}
use Rattle.run_finds.specs.Given.PointsTold.{IsRowOfCall, IsRowOfCopier}
use Rattle.run_finds.specs.Given.LateFactsReserves.{CopiesWhole, IsEnding, ReservingFacts}
use Rattle.run_finds.specs.Given.LateFactsSweeps.{CopiesTable, SweepingFacts}
use Rattle.run_finds.specs.Given.LateLateCalls.{SupersededCalling}
use Rattle.run_finds.specs.Given.LateLateCopies.{SupersededCopying}
use Rattle.run_finds.specs.Given.LateLateReserves.{SupersededReserving}
use Rattle.run_finds.specs.Given.LateToldReserves.{IsRowOfReserve}
use Rattle.run_finds.specs.Given.LateToldSweeps.{IsRowOfSweep}
use Rattle.run_finds.specs.Given.CallersSights.{seen_by}
use Rattle.run_finds.specs.Given.CallersTogether.{Counting, ForRoom, OnKey, OverAll, Together, UnderWay, in_slot}
use Rattle.run_finds.specs.Given.FinishesMachines.{machine_of}
use Rattle.run_finds.specs.Given.FinishesMaps.{Standing}
use Rattle.run_grows.proofs.Grows.Finding.Making.Calls.{CallBegins}
use Rattle.run_grows.proofs.Grows.Finding.Making.Copiers.{CopierBegins}
use Rattle.run_grows.proofs.Grows.Finding.Making.Machines.{MachineBegins}
use Rattle.run_grows.proofs.Grows.Finding.Making.Rooms.{RoomBegins}
use Rattle.run_grows.proofs.Grows.Finding.Making.Sweeps.{SweepBegins}
use Rattle.run_finds.specs.Given.ScenesHeld.{Held, IsAt}
use Rattle.run_finds.specs.Given.ScenesScene.{Scene, slot_of}

-- within a row none begins
module _ (Such : NewTable → Type 0) where
  copier_row : (x : Copier) (p : Copying) → IsRowOfCopier p → CopierBegins Such x p
  copier_row x (copying.Passes word code table) row = absurd row
  copier_row x copying.Replaces row = absurd row
  copier_row x _ row = tt

  pub call_row : (p : Calling) → IsRowOfCall p → CallBegins Such p
  call_row (calling.Helps copier goal) row = copier_row copier copier.stands row
  call_row (calling.Copies copier) row = copier_row copier copier.stands row
  call_row _ row = tt

  pub room_row : (p : Reserving) → IsRowOfReserve p → RoomBegins Such p
  room_row (reserving.Copies copier) row = copier_row copier copier.stands row
  room_row _ row = tt

  pub sweep_row : (p : Sweeping) → IsRowOfSweep p → SweepBegins Such p
  sweep_row (sweeping.Copies copier) row = copier_row copier copier.stands row
  sweep_row _ row = tt

-- by the points of each copier
module _ {K V : Type 0} (Such : NewTable → Type 0) (same : K → K → Bool) (hash : K → ℕ) (w : World (Node K V)) (caller : ℕ) (setting : Setting) (c : Chart K) (blocks : Blocks)
    (tried : (given : Setting) (table : Table) (t : ℕ) → IsTable c blocks table t → Such (table_after given table NoPlace)) where
  copying_begins : (x : Copier) (p : Copying) → CopyingFacts same hash w caller setting c blocks x p → CopierBegins Such x p
  copying_begins x (copying.Passes word code table) facts = tried x.setting table facts.2 facts.6
  copying_begins x copying.Replaces facts = absurd facts
  copying_begins x _ facts = tt

  blocking_begins : (x : Copier) (p : Copying) → CopyingFactsBlocking same hash w caller setting c blocks x p → CopierBegins Such x p
  blocking_begins x (copying.Passes word code table) facts = absurd facts
  blocking_begins x copying.Replaces facts = tried x.setting x.target facts.0 facts.1.0.2
  blocking_begins x _ facts = tt

  module _ (began : ℕ) where
    late_begins : (x : Copier) (p : Copying) → SupersededCopying same hash w caller setting c blocks began x p → CopierBegins Such x p
    late_begins x (copying.Passes word code table) facts = absurd facts
    late_begins x copying.Replaces facts = tried x.setting x.target facts.1 facts.2.0.target
    late_begins x _ facts = tt

    -- a copier of a whole table, in the mode of the map
    whole_begins : (x : Copier) → CopiesWhole same hash w caller setting c blocks x → CopierBegins Such x x.stands
    whole_begins x facts = by (is_incremental setting.mode) facts
      where
        by : (q : Bool)
            → cond q ((x.whole ≡ true) × CopierFacts same hash w caller setting c blocks x × IsEnding same hash w caller setting c blocks x x.stands) (CopierFactsBlocking same hash w caller setting c blocks x)
            → CopierBegins Such x x.stands
        by true so = copying_begins x x.stands so.1.point
        by false so = blocking_begins x x.stands so.point

    table_begins : (x : Copier) → CopiesTable same hash w caller setting c blocks began x → CopierBegins Such x x.stands
    table_begins x facts = elim facts as (λ _. CopierBegins Such x x.stands) [
      | inl whole ↦ whole_begins x whole
      | inr late ↦ late_begins x x.stands late.1.point
    ]

    -- by the points of each kind of call

    room_begins : (p : Reserving) → ReservingFacts same hash w caller setting c blocks p → RoomBegins Such p
    room_begins (reserving.Copies copier) facts = whole_begins copier facts
    room_begins _ facts = tt

    late_room_begins : (p : Reserving) → SupersededReserving same hash w caller setting c blocks began p → RoomBegins Such p
    late_room_begins (reserving.Copies copier) facts = late_begins copier copier.stands facts.point
    late_room_begins _ facts = tt

    sweep_begins : (x : Sweep) (p : Sweeping) → SweepingFacts same hash w caller setting c blocks began x p → SweepBegins Such p
    sweep_begins x (sweeping.Copies copier) facts = table_begins copier facts
    sweep_begins x _ facts = tt

    call_begins : (keys : K → Bool) (change : Change) (x : KeyCall K V K) (p : Calling) → CallingFacts same hash same w caller setting c blocks keys change x p → CallBegins Such p
    call_begins keys change x (calling.Helps copier goal) facts = copying_begins copier copier.stands facts.6.point
    call_begins keys change x (calling.Copies copier) facts = blocking_begins copier copier.stands facts.2.point
    call_begins keys change x _ facts = tt

    late_call_begins : (keys : K → Bool) (x : KeyCall K V K) (p : Calling) → SupersededCalling same hash same w caller setting c blocks keys began x p → CallBegins Such p
    late_call_begins keys x (calling.Helps copier goal) facts = absurd facts
    late_call_begins keys x (calling.Copies copier) facts = late_begins copier copier.stands facts.1.point
    late_call_begins keys x _ facts = tt

-- so it is of each call that is under way
module _ {K V : Type 0} (Such : NewTable → Type 0) (same : K → K → Bool) (hash : ℕ → K → ℕ) (s : Scene K V) (e : Held K V) (at : IsAt same hash e s) (map i : ℕ) (st : Standing K) (there : s.maps map ≡ Some st)
    (tried : (given : Setting) (table : Table) (t : ℕ) → IsTable st.chart (seen_by st.blocks (st.sights (slot_of i))) table t → Such (table_after given table NoPlace)) where
  each : Together V same st.hash same st.setting slot_of s.world st.chart st.blocks st.sights (s.calls map)
  each = at.together.makings.standing.each map st there

  pub begins_behind : (u : UnderWay K V K) → s.calls map i ≡ Some u → MachineBegins Such (machine_of u)
  begins_behind (OnKey x) here = elim (each.stand i (OnKey x) here) as (λ _. CallBegins Such x.call.stands) [
    | inl k ↦ elim (k.1.facts) as (λ _. CallBegins Such x.call.stands) [
      | inl facts ↦ call_begins Such same st.hash s.world i (in_slot st.setting (slot_of i)) st.chart (seen_by st.blocks (st.sights (slot_of i))) tried x.began x.keys x.change x.call x.call.stands facts.point
      | inr late ↦ late_call_begins Such same st.hash s.world i (in_slot st.setting (slot_of i)) st.chart (seen_by st.blocks (st.sights (slot_of i))) tried x.began x.keys x.call x.call.stands late.1.point
    ]
    | inr k ↦ call_row Such x.call.stands k.1
  ]
  begins_behind (ForRoom r) here = elim (each.stand i (ForRoom r) here) as (λ _. RoomBegins Such r.reserve.stands) [
    | inl k ↦ elim (k.1.facts) as (λ _. RoomBegins Such r.reserve.stands) [
      | inl facts ↦ room_begins Such same st.hash s.world i (in_slot st.setting (slot_of i)) st.chart (seen_by st.blocks (st.sights (slot_of i))) tried r.began r.reserve.stands facts.point
      | inr late ↦ late_room_begins Such same st.hash s.world i (in_slot st.setting (slot_of i)) st.chart (seen_by st.blocks (st.sights (slot_of i))) tried r.began r.reserve.stands late.point
    ]
    | inr k ↦ room_row Such r.reserve.stands k.1
  ]
  begins_behind (Counting sum) here = tt
  begins_behind (OverAll o) here = elim (each.stand i (OverAll o) here) as (λ _. SweepBegins Such o.sweep.stands) [
    | inl k ↦ sweep_begins Such same st.hash s.world i (in_slot st.setting (slot_of i)) st.chart (seen_by st.blocks (st.sights (slot_of i))) tried o.began o.sweep o.sweep.stands k.1.facts.point
    | inr k ↦ sweep_row Such o.sweep.stands k.1
  ]
