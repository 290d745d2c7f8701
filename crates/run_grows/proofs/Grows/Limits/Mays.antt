-- What a call finds where it may be refused for the length of a table: none is linked behind the last one of its map, by the points of each kind of call.
use Rattle.std.specs.Prelude.{◌≡◌, ◌⊎◌, ◌≤◌, ◌<◌, ◌^◌, ℕ, Bool, true, false, cond, Some}
use Rattle.std.proofs.Common.{sym, subst, inl, inr}
use Rattle.run_finds.specs.Given.SeizeWordsMem.{Mem, Took, value_at}
use Rattle.run_finds.specs.Given.SeizeWordsPlan.{Steps}
use Rattle.papaya_raw.specs.Given.SeizeWorld.{World}
use Rattle.papaya_raw.specs.Given.SeizeDeclared.advance.Advance.TheVariants as counting
use Rattle.papaya_raw.specs.Given.TablesChunks.{is_incremental}
use Rattle.papaya_raw.specs.Given.TablesDeclared.node.Node.{Node}
use Rattle.papaya_raw.specs.Given.TablesDeclared.setting.Setting.{Setting}
use Rattle.papaya_raw.specs.Given.TablesDeclared.table.Table.{Table}
use Rattle.run_finds.specs.Given.ResizeSum.{sum_plan}
use Rattle.run_finds.specs.Given.ResizeDeclared.copier.Copier.{Copier}
use Rattle.run_finds.specs.Given.ResizeDeclared.copier.Copying.{Copying}
use Rattle.run_finds.specs.Given.ResizeDeclared.copier.Copying.TheVariants as copying
use Rattle.run_finds.specs.Given.ResizeDeclared.sum.Sum.{Sum}
use Rattle.papaya_raw.specs.Given.ReservesReserve.{needed}
use Rattle.papaya_raw.specs.Given.ReservesDeclared.reserve.Reserve.{Reserve}
use Rattle.papaya_raw.specs.Given.ReservesDeclared.reserve.Reserving.{Reserving}
use Rattle.papaya_raw.specs.Given.ReservesDeclared.reserve.Reserving.TheVariants as reserving
use Rattle.papaya_raw.specs.Given.ReservesDeclared.sweep.Sweep.{Sweep}
use Rattle.papaya_raw.specs.Given.ReservesDeclared.sweep.Sweeping.{Sweeping}
use Rattle.papaya_raw.specs.Given.ReservesDeclared.sweep.Sweeping.TheVariants as sweeping
use Rattle.papaya_raw.specs.declared.machines.call.Calling.{Calling}
use Rattle.papaya_raw.specs.declared.machines.call.Calling.TheVariants as calling
use Rattle.papaya_raw.specs.declared.machines.call.KeyCall.{KeyCall}
use Rattle.run_finds.specs.Given.RuleChart.{Chart}
use Rattle.run_finds.specs.Given.RuleInWorld.{IsMapIn}
use Rattle.run_finds.specs.Given.RuleMaps.{IsTable}
use Rattle.run_finds.specs.Given.RuleWords.{Blocks}
use Rattle.run_finds.specs.Given.PointsFactsCalls.{CallingFacts, Change}
use Rattle.run_finds.specs.Given.PointsFactsCopies.{CopierFacts, CopyingFacts}
use Rattle.run_finds.specs.Given.PointsFactsCopiesBlocking.{CopierFactsBlocking, CopyingFactsBlocking}
use Rattle.run_finds.specs.Given.PointsTold.{IsRowOfCall, IsRowOfCopier}
use Rattle.run_finds.specs.Given.LateEnds.{EndsInCalling, EndsInCopying, EndsInReserving, EndsInSweeping, EndsSo, IsLastWhereNone}
use Rattle.run_finds.specs.Given.LateFactsReserves.{CopiesWhole, IsEnding, ReservingFacts}
use Rattle.run_finds.specs.Given.LateFactsSweeps.{SweepingFacts}
use Rattle.run_finds.specs.Given.LateLateCalls.{SupersededCalling}
use Rattle.run_finds.specs.Given.LateLateCopies.{SupersededCopying}
use Rattle.run_finds.specs.Given.LateLateReserves.{SupersededReserving}
use Rattle.run_finds.specs.Given.LateToldReserves.{IsRowOfReserve}
use Rattle.run_finds.specs.Given.LateToldSweeps.{IsRowOfSweep}
use Rattle.run_finds.specs.Given.CallersSights.{IsVisibility, Visible, seen_by}
use Rattle.run_finds.specs.Given.CallersTogether.{Counting, ForRoom, OnKey, OverAll, Together, UnderWay, in_slot}
use Rattle.run_finds.specs.Given.FinishesMachines.{machine_of}
use Rattle.run_finds.specs.Given.FinishesMaps.{Standing}
use Rattle.run_finds.proofs.Grows.There.{unseen}
use Rattle.run_grows.specs.Grows.Limits.{IsFor, IsForDeferral, NeedsMore}
use Rattle.run_grows.proofs.Grows.Limits.Last.{LastIsFor, last_for}
use Rattle.run_grows.proofs.Grows.Limits.Walk.{MachineMayEnd, SummedAt, SummedIn, ends_for}
use Rattle.run_finds.specs.Given.ScenesHeld.{Held, IsAt}
use Rattle.run_finds.specs.Given.ScenesScene.{Scene, slot_of}

-- within a row nothing is found of this kind
module _ (Why : Type 0) {T : Type 0} (m : Mem T) where
  copier_row : (x : Copier) (p : Copying) → IsRowOfCopier p → EndsInCopying (IsFor Why) (IsForDeferral Why) m x p
  copier_row x (copying.Retires settle rest) row = tt
  copier_row x _ row = absurd row

  call_row : (table : Table) (p : Calling) → IsRowOfCall p → EndsInCalling (IsFor Why) (IsForDeferral Why) m table p
  call_row table (calling.Disposes dispose answer) row = tt
  call_row table (calling.Helps copier goal) row = copier_row copier copier.stands row
  call_row table (calling.Copies copier) row = copier_row copier copier.stands row
  call_row table _ row = absurd row

  room_row : (m2 : Mem T) (r : Reserve) (p : Reserving) → IsRowOfReserve p → EndsInReserving (IsFor Why) (IsForDeferral Why) m m2 r p
  room_row m2 r (reserving.Copies copier) row = copier_row copier copier.stands row
  room_row m2 r _ row = absurd row

  sweep_row : (p : Sweeping) → IsRowOfSweep p → EndsInSweeping (IsFor Why) (IsForDeferral Why) m p
  sweep_row (sweeping.Copies copier) row = copier_row copier copier.stands row
  sweep_row (sweeping.Disposes dispose) row = tt
  sweep_row _ row = absurd row

-- a reservation that has come to a count by which it needs too many places is refused for this
abbrev pub SumsFor : {T : Type 0} → Type 0 → Mem T → Mem T → Reserve → Reserving → Type 0
SumsFor {T} Why m m2 r (reserving.Sums table sum) =
    (after : Sum) (count : ℕ) → Steps Took value_at m (sum_plan {T = T} sum) m2 (after, counting.Done count) → 2 ^ 48 < needed r.additional count → Why
SumsFor Why m m2 r _ = Unit {0}

module _ {K V : Type 0} (Why : Type 0) (same : K → K → Bool) (hash : K → ℕ) (w : World (Node K V)) (caller : ℕ) (all setting : Setting) (c : Chart K) (whole : Blocks) (sight : Visible)
    (is_sight : IsVisibility c whole sight) (map : IsMapIn same hash all w c whole) (last : LastIsFor same hash all w c whole map Why) (fits : setting.initial ≤ 2 ^ 48) where
  -- what can still be looked at
  abbrev blocks : Blocks
  blocks = seen_by whole sight

  behind : (table : Table) (t : ℕ) → IsTable c blocks table t → IsLastWhereNone (IsFor Why) (IsForDeferral Why) w.memory table
  behind table t entered = λ read reason by_table. (by_table, last_for same hash all w c whole map Why last table t (unseen c whole sight is_sight table t entered) read)

  ends_as : (given : Setting) → given ≡ setting → EndsSo (IsFor Why) (IsForDeferral Why) given
  ends_as given is = ends_for Why given (subst (λ (x : Setting). x.initial ≤ 2 ^ 48) (sym is) fits)

  abbrev CopierMay : Copier → Copying → Type 0
  CopierMay x p = EndsInCopying (IsFor Why) (IsForDeferral Why) w.memory x p

  copying_may : (x : Copier) → x.setting ≡ setting → (p : Copying) → CopyingFacts same hash w caller setting c blocks x p → CopierMay x p
  copying_may x is (copying.Passes word code table) facts = (ends_as x.setting is, behind table facts.2 facts.6)
  copying_may x is (copying.Grows word code making) facts = ends_as making.setting facts.9.setting_is
  copying_may x is copying.Replaces facts = absurd facts
  copying_may x is (copying.Remakes making) facts = absurd facts
  copying_may x is _ facts = tt

  blocking_may : (x : Copier) → x.setting ≡ setting → (p : Copying) → CopyingFactsBlocking same hash w caller setting c blocks x p → CopierMay x p
  blocking_may x is (copying.Passes word code table) facts = absurd facts
  blocking_may x is (copying.Grows word code making) facts = absurd facts
  blocking_may x is copying.Replaces facts = (ends_as x.setting is, behind x.target facts.0 facts.1.0.2)
  blocking_may x is (copying.Remakes making) facts = ends_as making.setting facts.3.setting_is
  blocking_may x is _ facts = tt

  -- a copier of a whole table, in the mode of the map
  whole_may : (x : Copier) → CopiesWhole same hash w caller setting c blocks x → CopierMay x x.stands
  whole_may x facts = by (is_incremental setting.mode) facts
    where
      by : (q : Bool)
          → cond q ((x.whole ≡ true) × CopierFacts same hash w caller setting c blocks x × IsEnding same hash w caller setting c blocks x x.stands) (CopierFactsBlocking same hash w caller setting c blocks x)
          → CopierMay x x.stands
      by true so = copying_may x so.1.setting_is x.stands so.1.point
      by false so = blocking_may x so.setting_is x.stands so.point

  module _ (began : ℕ) where
    late_may : (x : Copier) → x.setting ≡ setting → (p : Copying) → SupersededCopying same hash w caller setting c blocks began x p → CopierMay x p
    late_may x is (copying.Passes word code table) facts = absurd facts
    late_may x is (copying.Grows word code making) facts = absurd facts
    late_may x is copying.Replaces facts = (ends_as x.setting is, behind x.target facts.1 facts.2.0.target)
    late_may x is (copying.Remakes making) facts = ends_as making.setting facts.3.setting_is
    late_may x is _ facts = tt

    -- by the points of each kind of call

    abbrev CallMay : KeyCall K V K → Calling → Type 0
    CallMay x p = EndsInCalling (IsFor Why) (IsForDeferral Why) w.memory x.trial.table p

    call_may : (keys : K → Bool) (change : Change) (x : KeyCall K V K) (p : Calling) → CallingFacts same hash same w caller setting c blocks keys change x p → CallMay x p
    call_may keys change x calling.Nexts facts = behind x.trial.table facts.1 facts.2.0
    call_may keys change x (calling.Firsts making) facts = ends_as making.setting facts.2.setting_is
    call_may keys change x (calling.Allocs making) facts = ends_as making.setting facts.3.setting_is
    call_may keys change x (calling.Helps copier goal) facts = copying_may copier facts.6.setting_is copier.stands facts.6.point
    call_may keys change x (calling.Copies copier) facts = blocking_may copier facts.2.setting_is copier.stands facts.2.point
    call_may keys change x _ facts = tt

    late_call_may : (keys : K → Bool) (x : KeyCall K V K) (p : Calling) → SupersededCalling same hash same w caller setting c blocks keys began x p → CallMay x p
    late_call_may keys x calling.Nexts facts = behind x.trial.table facts.1 facts.2
    late_call_may keys x (calling.Firsts making) facts = ends_as making.setting facts.2.setting_is
    late_call_may keys x (calling.Allocs making) facts = ends_as making.setting facts.4.setting_is
    late_call_may keys x (calling.Helps copier goal) facts = absurd facts
    late_call_may keys x (calling.Copies copier) facts = late_may copier facts.1.setting_is copier.stands facts.1.point
    late_call_may keys x _ facts = tt

    abbrev SweepMay : Sweeping → Type 0
    SweepMay p = EndsInSweeping (IsFor Why) (IsForDeferral Why) w.memory p

    sweep_may : (x : Sweep) (p : Sweeping) → SweepingFacts same hash w caller setting c blocks began x p → SweepMay p
    sweep_may x (sweeping.Copies copier) facts = elim facts as (λ _. SweepMay (sweeping.Copies copier)) [
      | inl so ↦ whole_may copier so
      | inr late ↦ late_may copier late.1.setting_is copier.stands late.1.point
    ]
    sweep_may x _ facts = tt

    module _ (m2 : Mem (Node K V)) (r : Reserve) (needs : NeedsMore r.additional → Why) where
      abbrev RoomMay : Reserving → Type 0
      RoomMay p = EndsInReserving (IsFor Why) (IsForDeferral Why) w.memory m2 r p

      room_may : (p : Reserving) → ReservingFacts same hash w caller setting c blocks p → SumsFor Why w.memory m2 r p → RoomMay p
      room_may reserving.Reads facts sums = λ none many is. needs many
      room_may (reserving.Makes making) facts sums = ends_as making.setting facts.setting_is
      room_may (reserving.Sums table sum) facts sums = λ after count counts many is. sums after count counts many
      room_may (reserving.Follows table need) facts sums =
          λ none late is. last_for same hash all w c whole map Why last table facts.0.0 (unseen c whole sight is_sight table facts.0.0 facts.0.1) none (inr late)
      room_may (reserving.Grows table making) facts sums = ends_as making.setting facts.3.setting_is
      room_may (reserving.Copies copier) facts sums = whole_may copier facts
      room_may reserving.Over facts sums = tt
      room_may (reserving.Refused fault) facts sums = tt

      late_room_may : (p : Reserving) → SupersededReserving same hash w caller setting c blocks began p → SumsFor Why w.memory m2 r p → RoomMay p
      late_room_may (reserving.Makes making) facts sums = ends_as making.setting facts.setting_is
      late_room_may (reserving.Sums table sum) facts sums = λ after count counts many is. sums after count counts many
      late_room_may (reserving.Follows table need) facts sums =
          λ none late is. last_for same hash all w c whole map Why last table facts.0 (unseen c whole sight is_sight table facts.0 facts.1) none (inr late)
      late_room_may (reserving.Grows table making) facts sums = ends_as making.setting facts.3.setting_is
      late_room_may (reserving.Copies copier) facts sums = late_may copier facts.setting_is copier.stands facts.point
      late_room_may _ facts sums = absurd facts

-- so it is of each call that is under way
module _ {K V : Type 0} (Why : Type 0) (same : K → K → Bool) (hash : ℕ → K → ℕ) (s : Scene K V) (e : Held K V) (at : IsAt same hash e s) (map i : ℕ) (st : Standing K) (there : s.maps map ≡ Some st)
    (fits : st.setting.initial ≤ 2 ^ 48) where
  abbrev each : Together V same st.hash same st.setting slot_of s.world st.chart st.blocks st.sights (s.calls map)
  each = at.together.makings.standing.each map st there

  module _ (last : LastIsFor same st.hash st.setting s.world st.chart st.blocks each.ground.map Why) (m2 : Mem (Node K V)) where
    abbrev Mays : UnderWay K V K → Type 0
    Mays u = MachineMayEnd (Why ⊎ SummedIn s.world.memory m2 (machine_of u)) K V K s.world.memory m2 (machine_of u)

    abbrev More : UnderWay K V K → Type 0
    More u = Why ⊎ SummedIn s.world.memory m2 (machine_of u)

    more : (u : UnderWay K V K) → LastIsFor same st.hash st.setting s.world st.chart st.blocks each.ground.map (More u)
    more u t from made sized none = inl (last t from made sized none)

    rooms_sum : (Also : Type 0) (r : Reserve) (p : Reserving) → SumsFor ((Why ⊎ SummedAt s.world.memory m2 r p) ⊎ Also) s.world.memory m2 r p
    rooms_sum Also r (reserving.Sums table sum) = λ after count counts many. inl (inr (after, count, counts, many))
    rooms_sum Also r _ = tt

    pub under_may : (u : UnderWay K V K) → s.calls map i ≡ Some u → Mays u
    under_may (OnKey x) here = elim (each.stand i (OnKey x) here) as (λ _. Mays (OnKey x)) [
      | inl k ↦ elim (k.1.facts) as (λ _. Mays (OnKey x)) [
        | inl facts ↦
            call_may (More (OnKey x)) same st.hash s.world i st.setting (in_slot st.setting (slot_of i)) st.chart st.blocks (st.sights (slot_of i)) (each.ground.sight (slot_of i) (each.inside i (OnKey x) here)).0 each.ground.map
            (more (OnKey x)) fits x.began x.keys x.change x.call x.call.stands facts.point
        | inr late ↦
            late_call_may (More (OnKey x)) same st.hash s.world i st.setting (in_slot st.setting (slot_of i)) st.chart st.blocks (st.sights (slot_of i)) (each.ground.sight (slot_of i) (each.inside i (OnKey x) here)).0 each.ground.map
            (more (OnKey x)) fits x.began x.keys x.call x.call.stands late.1.point
      ]
      | inr k ↦ call_row (More (OnKey x)) s.world.memory x.call.trial.table x.call.stands k.1
    ]
    under_may (ForRoom r) here = elim (each.stand i (ForRoom r) here) as (λ _. Mays (ForRoom r)) [
      | inl k ↦ elim (k.1.facts) as (λ _. Mays (ForRoom r)) [
        | inl facts ↦
            room_may (More (ForRoom r) ⊎ NeedsMore r.reserve.additional) same st.hash s.world i st.setting (in_slot st.setting (slot_of i)) st.chart st.blocks (st.sights (slot_of i))
            (each.ground.sight (slot_of i) (each.inside i (ForRoom r) here)).0 each.ground.map (λ t from made sized none. inl (more (ForRoom r) t from made sized none)) fits r.began m2 r.reserve (λ needs. inr needs)
            r.reserve.stands facts.point (rooms_sum (NeedsMore r.reserve.additional) r.reserve r.reserve.stands)
        | inr late ↦
            late_room_may (More (ForRoom r) ⊎ NeedsMore r.reserve.additional) same st.hash s.world i st.setting (in_slot st.setting (slot_of i)) st.chart st.blocks (st.sights (slot_of i))
            (each.ground.sight (slot_of i) (each.inside i (ForRoom r) here)).0 each.ground.map (λ t from made sized none. inl (more (ForRoom r) t from made sized none)) fits r.began m2 r.reserve (λ needs. inr needs)
            r.reserve.stands late.point (rooms_sum (NeedsMore r.reserve.additional) r.reserve r.reserve.stands)
      ]
      | inr k ↦ room_row (More (ForRoom r) ⊎ NeedsMore r.reserve.additional) s.world.memory m2 r.reserve r.reserve.stands k.1
    ]
    under_may (Counting sum) here = tt
    under_may (OverAll o) here = elim (each.stand i (OverAll o) here) as (λ _. Mays (OverAll o)) [
      | inl k ↦
          sweep_may (More (OverAll o)) same st.hash s.world i st.setting (in_slot st.setting (slot_of i)) st.chart st.blocks (st.sights (slot_of i)) (each.ground.sight (slot_of i) (each.inside i (OverAll o) here)).0 each.ground.map
          (more (OverAll o)) fits o.began o.sweep o.sweep.stands k.1.facts.point
      | inr k ↦ sweep_row (More (OverAll o)) s.world.memory o.sweep.stands k.1
    ]
