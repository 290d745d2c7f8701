-- What a copier may begin to make it begins where its map has a table behind the root's; or a table follows the one that was aborted, and it makes none.
use Rattle.std.specs.Prelude.{◌≡◌, ◌⊎◌, ◌<◌, ℕ, suc, Bool, true, false, cond, Some}
use Rattle.std.proofs.Common.{refl, arith, inl, inr}
use Rattle.run_finds.specs.Given.SeizeWordsMem.{word_at}
use Rattle.papaya_raw.specs.Given.SeizeWorld.{World}
use Rattle.papaya_raw.specs.Given.TablesChunks.{is_incremental}
use Rattle.papaya_raw.specs.Given.TablesTablePlaces.{at_word}
use Rattle.papaya_raw.specs.Given.TablesDeclared.lengths.Reason.TheVariants.{NoPlace}
use Rattle.papaya_raw.specs.Given.TablesDeclared.node.Node.{Node}
use Rattle.papaya_raw.specs.Given.TablesDeclared.setting.Setting.{Setting}
use Rattle.papaya_raw.specs.Given.TablesDeclared.table.Table.{Table}
use Rattle.papaya_raw.specs.Given.TablesDeclared.table_words.TheConstants.{NEXT}
use Rattle.run_finds.specs.Given.ResizeNewTable.{table_after}
use Rattle.run_finds.specs.Given.ResizeDeclared.copier.Copier.{Copier}
use Rattle.run_finds.specs.Given.ResizeDeclared.copier.Copying.{Copying}
use Rattle.run_finds.specs.Given.ResizeDeclared.copier.Copying.TheVariants as copying
use Rattle.run_finds.specs.Given.ResizeDeclared.new_table.NewTable.{NewTable}
use Rattle.papaya_raw.specs.Given.ReservesDeclared.reserve.Reserving.{Reserving}
use Rattle.papaya_raw.specs.Given.ReservesDeclared.reserve.Reserving.TheVariants as reserving
use Rattle.papaya_raw.specs.Given.ReservesDeclared.sweep.Sweep.{Sweep}
use Rattle.papaya_raw.specs.Given.ReservesDeclared.sweep.Sweeping.{Sweeping}
use Rattle.papaya_raw.specs.Given.ReservesDeclared.sweep.Sweeping.TheVariants as sweeping
use Rattle.papaya_raw.specs.declared.machines.call.Calling.{Calling}
use Rattle.papaya_raw.specs.declared.machines.call.Calling.TheVariants as calling
use Rattle.papaya_raw.specs.declared.machines.call.KeyCall.{KeyCall}
use Rattle.run_finds.specs.Given.RuleChart.{Chart}
use Rattle.run_finds.specs.Given.RuleInWorld.{IsMapIn}
use Rattle.run_finds.specs.Given.RuleWords.{Blocks}
use Rattle.run_finds.specs.Given.PointsFactsCalls.{CallingFacts, Change}
use Rattle.run_finds.specs.Given.PointsFactsCopies.{CopierFacts, CopyingFacts}
use Rattle.run_finds.specs.Given.PointsFactsCopiesBlocking.{CopierFactsBlocking, CopyingFactsBlocking}
use Rattle.run_finds.specs.Given.LateFactsReserves.{CopiesWhole, IsEnding, ReservingFacts}
use Rattle.run_finds.specs.Given.LateFactsSweeps.{CopiesTable, SweepingFacts}
use Rattle.run_finds.specs.Given.LateLateCalls.{SupersededCalling}
use Rattle.run_finds.specs.Given.LateLateCopies.{CopiesAborted, SupersededCopying}
use Rattle.run_finds.specs.Given.LateLateReserves.{SupersededReserving}
use Rattle.run_finds.proofs.Given.LateCopiers.LateWent.{aborted_behind}
use Rattle.run_finds.specs.Given.CallersSights.{IsVisibility, Visible, seen_by}
use Rattle.run_finds.specs.Given.CallersTogether.{Counting, ForRoom, OnKey, OverAll, Together, UnderWay, in_slot}
use Rattle.run_finds.specs.Given.FinishesMachines.{machine_of}
use Rattle.run_finds.specs.Given.FinishesMaps.{Standing}
use Rattle.run_finds.proofs.Grows.There.{last_has_none, unseen}
use Rattle.run_grows.proofs.Grows.Finding.Making.Behind.{call_row, room_row, sweep_row}
use Rattle.run_grows.proofs.Grows.Finding.Making.Calls.{CallBegins}
use Rattle.run_grows.proofs.Grows.Finding.Making.Copiers.{CopierBegins}
use Rattle.run_grows.proofs.Grows.Finding.Making.Machines.{MachineBegins}
use Rattle.run_grows.proofs.Grows.Finding.Making.OffRoot.{CallCopier, HasCopier, RoomCopier, SweepCopier}
use Rattle.run_grows.proofs.Grows.Finding.Making.Rooms.{RoomBegins}
use Rattle.run_grows.proofs.Grows.Finding.Making.Sweeps.{SweepBegins}
use Rattle.run_finds.specs.Given.ScenesHeld.{Held, IsAt}
use Rattle.run_finds.specs.Given.ScenesScene.{Scene, slot_of}

-- it is to read which table follows, and one does
abbrev pub IsFollowed : {K V : Type 0} → World (Node K V) → Copier → Type 0
IsFollowed w x = (x.stands ≡ copying.Replaces) × (word_at w.memory (at_word x.target NEXT) ≡ Some 0 → ⊥)

module _ {K V : Type 0} (Such : NewTable → Type 0) (same : K → K → Bool) (hash : K → ℕ) (w : World (Node K V)) (caller : ℕ) (all setting : Setting) (c : Chart K) (whole : Blocks) (sight : Visible)
    (is_sight : IsVisibility c whole sight) (map : IsMapIn same hash all w c whole) (ahead : suc c.first < c.past → (given : Setting) (table : Table) → Such (table_after given table NoPlace)) where
  -- what can still be looked at
  abbrev blocks : Blocks
  blocks = seen_by whole sight

  copying_ahead : (x : Copier) (p : Copying) → CopyingFacts same hash w caller setting c blocks x p → CopierBegins Such x p
  copying_ahead x (copying.Passes word code table) facts = ahead (let behind = facts.5 in let made = facts.6.made in omega (arith, behind, made)) x.setting table
  copying_ahead x copying.Replaces facts = absurd facts
  copying_ahead x _ facts = tt

  blocking_ahead : (x : Copier) (p : Copying) → CopyingFactsBlocking same hash w caller setting c blocks x p → CopierBegins Such x p
  blocking_ahead x (copying.Passes word code table) facts = absurd facts
  blocking_ahead x copying.Replaces facts = ahead (let behind = facts.1.0.1 in let made = facts.1.0.2.made in omega (arith, behind, made)) x.setting x.target
  blocking_ahead x _ facts = tt

  -- a copier of a whole table, in the mode of the map
  whole_ahead : (x : Copier) → CopiesWhole same hash w caller setting c blocks x → CopierBegins Such x x.stands
  whole_ahead x facts = by (is_incremental setting.mode) facts
    where
      by : (q : Bool)
          → cond q ((x.whole ≡ true) × CopierFacts same hash w caller setting c blocks x × IsEnding same hash w caller setting c blocks x x.stands) (CopierFactsBlocking same hash w caller setting c blocks x)
          → CopierBegins Such x x.stands
      by true so = copying_ahead x x.stands so.1.point
      by false so = blocking_ahead x x.stands so.point

  module _ (began : ℕ) where
    -- the table that was aborted is before the root
    followed : (x : Copier) (u t : ℕ) → CopiesAborted same hash w caller setting c blocks began x u t → word_at w.memory (at_word x.target NEXT) ≡ Some 0 → ⊥
    followed x u t aborted read = last_has_none same hash all w c whole map x.target t (unseen c whole sight is_sight x.target t aborted.0.target) read made
      where
        passed : t < c.first
        passed = aborted_behind c t map.map.rule.common.live aborted.0.over aborted.1

        made : suc t < c.past
        made = let there = aborted.0.target.made in let rooted = map.map.rule.common.rooted (omega (arith, there)) in omega (arith, rooted, passed)

    late_ahead : (x : Copier) → SupersededCopying same hash w caller setting c blocks began x x.stands → CopierBegins Such x x.stands ⊎ IsFollowed w x
    late_ahead x facts = by x.stands refl facts
      where
        by : (p : Copying) → x.stands ≡ p → SupersededCopying same hash w caller setting c blocks began x p → CopierBegins Such x p ⊎ IsFollowed w x
        by (copying.Passes word code table) is so = absurd so
        by copying.Replaces is so = inr (is, followed x so.0 so.1 so.2)
        by _ is so = inl tt

    -- by the points of each kind of call

    table_ahead : (x : Copier) → CopiesTable same hash w caller setting c blocks began x → CopierBegins Such x x.stands ⊎ IsFollowed w x
    table_ahead x facts = elim facts as (λ _. CopierBegins Such x x.stands ⊎ IsFollowed w x) [
      | inl whole ↦ inl (whole_ahead x whole)
      | inr late ↦ late_ahead x late.1.point
    ]

    room_ahead : (p : Reserving) → ReservingFacts same hash w caller setting c blocks p → RoomBegins Such p
    room_ahead (reserving.Copies copier) facts = whole_ahead copier facts
    room_ahead _ facts = tt

    abbrev RoomAhead : Reserving → Type 0
    RoomAhead p = RoomBegins Such p ⊎ ((x : Copier) × RoomCopier p x × IsFollowed w x)

    late_room_ahead : (p : Reserving) → SupersededReserving same hash w caller setting c blocks began p → RoomAhead p
    late_room_ahead (reserving.Copies copier) facts = elim (late_ahead copier facts.point) as (λ _. RoomAhead (reserving.Copies copier)) [
      | inl begins ↦ inl begins
      | inr is ↦ inr (copier, refl, is)
    ]
    late_room_ahead _ facts = inl tt

    abbrev SweepAhead : Sweeping → Type 0
    SweepAhead p = SweepBegins Such p ⊎ ((x : Copier) × SweepCopier p x × IsFollowed w x)

    sweep_ahead : (x : Sweep) (p : Sweeping) → SweepingFacts same hash w caller setting c blocks began x p → SweepAhead p
    sweep_ahead x (sweeping.Copies copier) facts = elim (table_ahead copier facts) as (λ _. SweepAhead (sweeping.Copies copier)) [
      | inl begins ↦ inl begins
      | inr is ↦ inr (copier, refl, is)
    ]
    sweep_ahead x _ facts = inl tt

    call_ahead : (keys : K → Bool) (change : Change) (x : KeyCall K V K) (p : Calling) → CallingFacts same hash same w caller setting c blocks keys change x p → CallBegins Such p
    call_ahead keys change x (calling.Helps copier goal) facts = copying_ahead copier copier.stands facts.6.point
    call_ahead keys change x (calling.Copies copier) facts = blocking_ahead copier copier.stands facts.2.point
    call_ahead keys change x _ facts = tt

    abbrev CallAhead : Calling → Type 0
    CallAhead p = CallBegins Such p ⊎ ((x : Copier) × CallCopier p x × IsFollowed w x)

    late_call_ahead : (keys : K → Bool) (x : KeyCall K V K) (p : Calling) → SupersededCalling same hash same w caller setting c blocks keys began x p → CallAhead p
    late_call_ahead keys x (calling.Helps copier goal) facts = absurd facts
    late_call_ahead keys x (calling.Copies copier) facts = elim (late_ahead copier facts.1.point) as (λ _. CallAhead (calling.Copies copier)) [
      | inl begins ↦ inl begins
      | inr is ↦ inr (copier, refl, is)
    ]
    late_call_ahead keys x _ facts = inl tt

-- so it is of each call that is under way
module _ {K V : Type 0} (Such : NewTable → Type 0) (same : K → K → Bool) (hash : ℕ → K → ℕ) (s : Scene K V) (e : Held K V) (at : IsAt same hash e s) (map i : ℕ) (st : Standing K) (there : s.maps map ≡ Some st)
    (ahead : suc st.chart.first < st.chart.past → (given : Setting) (table : Table) → Such (table_after given table NoPlace)) where
  each : Together V same st.hash same st.setting slot_of s.world st.chart st.blocks st.sights (s.calls map)
  each = at.together.makings.standing.each map st there

  abbrev pub Ahead : UnderWay K V K → Type 0
  Ahead u = MachineBegins Such (machine_of u) ⊎ ((x : Copier) × HasCopier (machine_of u) x × IsFollowed s.world x)

  pub begins_ahead : (u : UnderWay K V K) → s.calls map i ≡ Some u → Ahead u
  begins_ahead (OnKey x) here = elim (each.stand i (OnKey x) here) as (λ _. Ahead (OnKey x)) [
    | inl k ↦ elim (k.1.facts) as (λ _. Ahead (OnKey x)) [
      | inl facts ↦ inl (call_ahead Such same st.hash s.world i st.setting (in_slot st.setting (slot_of i)) st.chart st.blocks (st.sights (slot_of i)) (each.ground.sight (slot_of i) (each.inside i (OnKey x) here)).0 each.ground.map ahead x.began x.keys x.change x.call x.call.stands facts.point)
      | inr late ↦ late_call_ahead Such same st.hash s.world i st.setting (in_slot st.setting (slot_of i)) st.chart st.blocks (st.sights (slot_of i)) (each.ground.sight (slot_of i) (each.inside i (OnKey x) here)).0 each.ground.map ahead x.began x.keys x.call x.call.stands late.1.point
    ]
    | inr k ↦ inl (call_row Such x.call.stands k.1)
  ]
  begins_ahead (ForRoom r) here = elim (each.stand i (ForRoom r) here) as (λ _. Ahead (ForRoom r)) [
    | inl k ↦ elim (k.1.facts) as (λ _. Ahead (ForRoom r)) [
      | inl facts ↦ inl (room_ahead Such same st.hash s.world i st.setting (in_slot st.setting (slot_of i)) st.chart st.blocks (st.sights (slot_of i)) (each.ground.sight (slot_of i) (each.inside i (ForRoom r) here)).0 each.ground.map ahead r.began r.reserve.stands facts.point)
      | inr late ↦ late_room_ahead Such same st.hash s.world i st.setting (in_slot st.setting (slot_of i)) st.chart st.blocks (st.sights (slot_of i)) (each.ground.sight (slot_of i) (each.inside i (ForRoom r) here)).0 each.ground.map ahead r.began r.reserve.stands late.point
    ]
    | inr k ↦ inl (room_row Such r.reserve.stands k.1)
  ]
  begins_ahead (Counting sum) here = inl tt
  begins_ahead (OverAll o) here = elim (each.stand i (OverAll o) here) as (λ _. Ahead (OverAll o)) [
    | inl k ↦ sweep_ahead Such same st.hash s.world i st.setting (in_slot st.setting (slot_of i)) st.chart st.blocks (st.sights (slot_of i)) (each.ground.sight (slot_of i) (each.inside i (OverAll o) here)).0 each.ground.map ahead o.began o.sweep o.sweep.stands k.1.facts.point
    | inr k ↦ inl (sweep_row Such o.sweep.stands k.1)
  ]
