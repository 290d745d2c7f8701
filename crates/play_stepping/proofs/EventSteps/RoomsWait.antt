-- A reservation or a sweep that waits: its step has no effect, and it waits for a call that it may wait for.
use Rattle.std.specs.Prelude.{Option, Some, [], cond}
use Rattle.std.specs.List.{list_any}
use Rattle.std.proofs.Common.{◌≡◌, ℕ, ◌⊎◌, inl, inr, Bool, true, refl, ap, sym, subst, ◌∙◌, false}
use Rattle.owner_whole.specs.Given.WaitsWaits.{AnotherHolds, CopierAwaits, RoomAwaits, SweepAwaits, row_of_sweep}
use Rattle.owner_whole.specs.Given.WaitsOthers.{copier_in_room, copier_in_sweep, copier_of}
use Rattle.owner_whole.proofs.Given.WaitersAwaited.{asked_at_once}
use Rattle.seize_words.specs.OneMemory.Mem.{Mem, Took, value_at}
use Rattle.seize_words.specs.OneMemory.Plan.{Plan, Steps}
use Rattle.seize_words.specs.OneMemory.Word.{block_in}
use Rattle.seize.specs.World.{World, Row, Rests, Settles, Leaves}
use Rattle.seize.specs.declared.rows.settle.Settle.{Settle}
use Rattle.owner_whole.specs.Given.SeizeEndsHolders.{has_batch}
use Rattle.papaya_raw.specs.Given.TablesChunks.{is_incremental}
use Rattle.papaya_raw.specs.Given.TablesDeclared.node.Node.{Node}
use Rattle.papaya_raw.specs.Given.TablesDeclared.setting.Setting.{Setting}
use Rattle.owner_whole.specs.Given.ResizeDeclared.copier.Copier.{Copier}
use Rattle.owner_whole.specs.Given.ResizeDeclared.copier.Copying.{Copying}
use Rattle.owner_whole.specs.Given.ResizeDeclared.copier.Copying.TheVariants as copies
use Rattle.owner_whole.specs.Given.ResizeDeclared.dispose.Dispose.{Dispose}
use Rattle.owner_whole.specs.Given.ResizeDeclared.dispose.Disposing.{Disposing}
use Rattle.owner_whole.specs.Given.ResizeDeclared.dispose.Disposing.TheVariants as disposing
use Rattle.owner_whole.specs.Given.ResizeDeclared.yielding.Yielding.TheVariants as outcome
use Rattle.papaya_raw.specs.Given.ReservesReserve as rooms
use Rattle.papaya_raw.specs.Given.ReservesDeclared.reserve.Reserve.{Reserve}
use Rattle.papaya_raw.specs.Given.ReservesDeclared.reserve.Reserving.{Reserving}
use Rattle.papaya_raw.specs.Given.ReservesDeclared.reserve.Reserving.TheVariants as reserves
use Rattle.papaya_raw.specs.Given.SweepsSweep as plans
use Rattle.papaya_raw.specs.Given.ReservesDeclared.sweep.Sweep.{Sweep}
use Rattle.papaya_raw.specs.Given.ReservesDeclared.sweep.Swept.TheVariants as swept
use Rattle.papaya_raw.specs.Given.ReservesDeclared.sweep.Sweeping.{Sweeping}
use Rattle.papaya_raw.specs.Given.ReservesDeclared.sweep.Sweeping.TheVariants as sweeps
use Rattle.play_scheduler.specs.Given.RuleMaps.{IsTable}
use Rattle.play_scheduler.specs.Given.RuleWords.{Blocks}
use Rattle.owner_whole.specs.Given.PointsFactsCopies.{CopierFacts, CopyingFacts}
use Rattle.owner_whole.specs.Given.PointsFactsDisposes.{DisposeFacts, DisposingFacts}
use Rattle.owner_whole.specs.Given.PointsTold.{IsRowOfCopier}
use Rattle.owner_whole.specs.Given.LateFactsReserves.{ReserveFacts, ReservingFacts, CopiesWhole, IsEnding}
use Rattle.owner_whole.specs.Given.LateFactsSweeps.{SweepFacts, SweepingFacts}
use Rattle.owner_whole.specs.Given.LateLateReserves.{SupersededReserveFacts, SupersededReserving}
use Rattle.owner_whole.specs.Given.LateToldSweeps.{IsRowOfSweep}
use Rattle.owner_whole.specs.Given.CallersOverAll.{CallOverAll, row_of_sweep as swept_row}
use Rattle.owner_whole.specs.Given.CallersRooms.{CallForRoom, row_of_room}
use Rattle.owner_whole.specs.Given.CallersRows.{IsRowOn, row_of_copier, row_of_disposal}
use Rattle.owner_whole.specs.Given.CallersSights.{seen_by}
use Rattle.owner_whole.specs.Given.CallersTogether.{UnderWay, ForRoom, OverAll, Together, in_slot}
use Rattle.owner_whole.proofs.Whole.Sweeps.Leads.{sweep_decided}
use Rattle.owner_whole.proofs.Given.WaitsAwaited.{by_copier}
use Rattle.owner_whole.proofs.Given.WaitsLaws.{rooms_wait_for_a_copying, room_rows_wait_for_a_holder, sweeps_wait_for_a_copying, sweep_rows_wait_for_a_holder}
use Rattle.owner_whole.proofs.Given.WaitsPromised.{map_of}
use Rattle.run_schedules.specs.declared.effect.TableId.{TableId as Numbered}
use Rattle.run_schedules.specs.Schedules.Moment.{UnderWay as CallThere, Moment}
use Rattle.run_schedules.specs.Schedules.Terms.{Terms}
use Rattle.run_schedules.specs.Schedules.Views.{call_of}
use Rattle.run_schedules.specs.Schedules.Waiting.{may_wait_for}
use Rattle.run_executor.specs.Given.EffectsEffects.{effects_of}
use Rattle.run_executor.specs.Given.EffectsKnown.{known}
use Rattle.run_executor.specs.Given.EffectsDeclared.acting.Acting.TheVariants as acts
use Rattle.run_executor.specs.Given.EffectsDeclared.role.Role.TheVariants as role
use Rattle.run_executor.specs.Given.EffectsDeclared.changed.Changed.{Changed}
use Rattle.run_executor.specs.Given.EffectsDeclared.changed.Changed.TheVariants as changed
use Rattle.owner_whole.specs.Given.FinishesMaps.{Standing}
use Rattle.play_scheduler.specs.Given.FollowsCalls.{IsCalled}
use Rattle.play_scheduler.specs.Given.FollowsMaps.{table_of}
use Rattle.play_scheduler.proofs.Given.OwesTables.Hosts.{Step}
use Rattle.play_scheduler.specs.Played.{RefinesFor}
use Rattle.play_scheduler.specs.declared.scheduler.Scheduler.{Scheduler}
use Rattle.play_stepping.proofs.EventSteps.CopiesWait.{all_together, within_section, copier_knows, is_lawful, noted_table, other_waits}
use Rattle.run_sweeps.proofs.Quiet.QuietCopies.{IsQuiet, quiet_does, room_copier_told, room_row_quiet, sweep_copier_told, sweep_row_quiet}
use Rattle.play_stepping.proofs.EventSteps.Waiting.{IsForResizes, room_for_resizes, sweep_for_resizes, waits_for_holder}
use Rattle.owner_whole.specs.Given.PointsFactsCopiesBlocking.{CopierFactsBlocking, CopyingFactsBlocking}
use Rattle.owner_whole.specs.Given.LateLateCopies.{SupersededCopierFacts, SupersededCopying}
use Rattle.play_scheduler.specs.Given.KeptEnds.{HaveEndsIn}
use Rattle.owner_whole.specs.Given.SeizeActsWaits.{SettlesOn}
use Rattle.run_executor.proofs.Given.ScenesTold.{as_step}
use Rattle.play_scheduler.specs.Given.ScenesScene.{slot_of}
use Rattle.owner_whole.proofs.Lowers.Waits.{room_decided}

-- a row that works on one slot settles on that
pub on_slot : (slot s : ℕ) (row : Row) → IsRowOn slot row → SettlesOn s row → s ≡ slot
on_slot slot s (Settles c) is on = sym on ∙ is
on_slot slot s (Leaves c) is on = sym on ∙ is
on_slot slot s _ is on = absurd on

-- the row that a sweep stands at is told in one way
same_row : (slot : ℕ) (stands : Sweeping) → swept_row slot stands ≡ row_of_sweep slot stands
same_row slot (sweeps.Copies copier) = refl
same_row slot (sweeps.Disposes dispose) = refl
same_row slot _ = refl

module _ {K V S : Type 0} (same : K → K → Bool) (hash : K → ℕ) (terms : Terms) (m : Moment K V) (p : Scheduler K V S) (stands : RefinesFor same hash terms m p) (of : ℕ)
    (st : Standing K) (is : stands.scene.maps of ≡ Some st) where
  abbrev w : World (Node K V)
  w = stands.scene.world

  abbrev before : Mem (Node K V)
  before = p.logged.executor.memory.memory

  abbrev calls_on : ℕ → Option (UnderWay K V K)
  calls_on = stands.scene.calls of

  together : Together V same hash same st.setting slot_of w st.chart st.blocks st.sights calls_on
  together = all_together same hash terms m p stands of st is

  -- of one call
  module _ (i : ℕ) (x : UnderWay K V K) (under : stands.scene.calls of i ≡ Some x) where
    abbrev seen : Blocks
    seen = seen_by st.blocks (st.sights (slot_of i))

    abbrev its_setting : Setting
    its_setting = in_slot st.setting (slot_of i)

    abbrev its : (c : CallThere K V) × (call_of (stands.name i) m ≡ Some c) × (c.map ≡ of) × IsCalled same x c.call
    its = stands.shown.shows.all.shown.calls of i x under

    abbrev Waits : Type 0
    Waits = list_any (may_wait_for same its.0 m) m.calls ≡ true

    abbrev Nothing : Changed → Type 0
    Nothing told = effects_of (acts.Call i of) (known p.logged.notes) told ≡ []

    as_taken : {R : Type 0} (plan : Plan (Node K V) R) (m2 : Mem (Node K V)) (told : Changed) (end : R) → Step before m2 told plan end → Steps Took value_at w.memory plan m2 end
    as_taken plan m2 told end s = subst (λ (k : Mem (Node K V)). Steps Took value_at k plan m2 end) (sym stands.shown.is_at.held.memory) (as_step before changed.Nothing plan m2 told end s)

    -- the row that it stands at works on its slot: it is its copier's, or its disposal's
    pub copier_on : (copier : Copier) → CopierFacts same hash w i its_setting st.chart seen copier → IsRowOn (slot_of i) (row_of_copier copier.stands)
    copier_on copier facts = by copier.stands facts.point
      where
        by : (q : Copying) → CopyingFacts same hash w i its_setting st.chart seen copier q → IsRowOn (slot_of i) (row_of_copier q)
        by (copies.Retires settle rest) g = ap (λ (y : Settle). y.slot) g.2.0
        by _ g = tt

    pub at_once_on : (copier : Copier) → CopierFactsBlocking same hash w i its_setting st.chart seen copier → IsRowOn (slot_of i) (row_of_copier copier.stands)
    at_once_on copier facts = by copier.stands facts.point
      where
        by : (q : Copying) → CopyingFactsBlocking same hash w i its_setting st.chart seen copier q → IsRowOn (slot_of i) (row_of_copier q)
        by (copies.Retires settle rest) g = ap (λ (y : Settle). y.slot) g.2.0
        by _ g = tt

    pub late_on : (began : ℕ) (copier : Copier) → SupersededCopierFacts same hash w i its_setting st.chart seen began copier → IsRowOn (slot_of i) (row_of_copier copier.stands)
    late_on began copier facts = by copier.stands facts.point
      where
        by : (q : Copying) → SupersededCopying same hash w i its_setting st.chart seen began copier q → IsRowOn (slot_of i) (row_of_copier q)
        by (copies.Retires settle rest) g = ap (λ (y : Settle). y.slot) g.3.0
        by _ g = tt

    whole_on : (copier : Copier) → CopiesWhole same hash w i its_setting st.chart seen copier → IsRowOn (slot_of i) (row_of_copier copier.stands)
    whole_on copier whole = by (is_incremental st.setting.mode) whole
      where
        by : (b : Bool) → cond b ((copier.whole ≡ true) × CopierFacts same hash w i its_setting st.chart seen copier × IsEnding same hash w i its_setting st.chart seen copier copier.stands)
            (CopierFactsBlocking same hash w i its_setting st.chart seen copier) → IsRowOn (slot_of i) (row_of_copier copier.stands)
        by true had = copier_on copier had.1
        by false had = at_once_on copier had

    pub dispose_on : (dispose : Dispose) → DisposeFacts w i its_setting st.chart seen dispose → IsRowOn (slot_of i) (row_of_disposal (slot_of i) dispose.stands)
    dispose_on dispose facts = by dispose.stands facts.point
      where
        by : (q : Disposing) → DisposingFacts w i its_setting st.chart seen facts.n facts.t q → IsRowOn (slot_of i) (row_of_disposal (slot_of i) q)
        by (disposing.Settles settle) g = ap (λ (y : Settle). y.slot) g.0.0
        by (disposing.Defers defer) g = refl
        by _ g = tt

    -- another row has the batch of its slot
    by_holder : (row : Row) → IsRowOn (slot_of i) row → AnotherHolds w i row → Waits
    by_holder row on (s, settles, (j, has, other, only)) =
        waits_for_holder same hash terms m p stands of i j x under
        (subst (λ (n : ℕ). has_batch n (w.row j) ≡ true) (on_slot (slot_of i) s row on settles) has) other

    -- within a copier
    module _ (copier : Copier) (within : copier_of x ≡ Some copier) (awaits : CopierAwaits st.chart (is_incremental st.setting.mode) copier copier.stands) where
      abbrev Noted : Type 0
      Noted = (t : Numbered) × (len : ℕ) × ((known p.logged.notes).roles (block_in copier.source.link) ≡ role.Table t len)

      none : IsRowOfCopier copier.stands → ⊥
      none row = by copier.stands awaits row
        where
          by : (q : Copying) → CopierAwaits st.chart (is_incremental st.setting.mode) copier q → IsRowOfCopier q → ⊥
          by (copies.Retires settle rest) awaits_so row_so = awaits_so
          by _ awaits_so row_so = row_so

      -- in incremental mode its source is noted as a table of the map
      noted : is_incremental st.setting.mode ≡ true → Noted
      noted mode = by copier.stands awaits (copier_knows same hash terms m p stands of st is i x under mode copier none within).point
        where
          source : (t : ℕ) → IsTable st.chart seen copier.source t → Noted
          source t it = (table_of of t, st.chart.len t, noted_table same hash terms m p stands of st is i x under (within_section same hash terms m p stands of st is i x under copier within) t copier.source it)

          by : (q : Copying) → CopierAwaits st.chart (is_incremental st.setting.mode) copier q → CopyingFacts same hash w i its_setting st.chart seen copier q → Noted
          by copies.Marks awaits_so facts = source facts.0 facts.1.0
          by copies.Asks awaits_so facts = source facts.0 facts.1.0
          by _ awaits_so facts = absurd awaits_so

      does_nothing : (told : Changed) → IsQuiet (is_incremental st.setting.mode) told (block_in copier.source.link) → Nothing told
      does_nothing told quiet = quiet_does (acts.Call i of) (known p.logged.notes) (is_incremental st.setting.mode) told (block_in copier.source.link) noted quiet

      ends_in : (b : Bool) → is_incremental st.setting.mode ≡ b → HaveEndsIn b st.chart calls_on
      ends_in b mode = subst (λ (n : Bool). HaveEndsIn n st.chart calls_on) mode (stands.shown.kept.ends of st is)

      abbrev Resizes : Type 0
      Resizes = IsForResizes same m its.0

      -- in blocking mode it waits where it asks
      at_once : Resizes → is_incremental st.setting.mode ≡ false → Waits
      at_once resizes mode = by copier.stands refl awaits
        where
          by : (q : Copying) → copier.stands ≡ q → CopierAwaits st.chart (is_incremental st.setting.mode) copier q → Waits
          by copies.Asks here (spent, unfinished) =
              other_waits same hash terms m p stands of st is i x under resizes
              (asked_at_once V same hash same st.setting slot_of w st.chart st.blocks st.sights calls_on together mode (ends_in false mode) i x under copier within here spent unfinished)
          by copies.Marks here (incremental, being, open_still) = absurd (cc (incremental, mode))
          by _ here awaits_so = absurd awaits_so

      pub copier_waits : Resizes → Waits
      copier_waits resizes = by (is_incremental st.setting.mode) refl
        where
          by : (b : Bool) → is_incremental st.setting.mode ≡ b → Waits
          by true mode =
              other_waits same hash terms m p stands of st is i x under resizes
              (by_copier V same hash same st.setting slot_of w st.chart st.blocks st.sights calls_on together mode (ends_in true mode) i x under copier within seen
              (copier_knows same hash terms m p stands of st is i x under mode copier none within)
              (subst (λ (n : Bool). CopierAwaits st.chart n copier copier.stands) mode awaits))
          by false mode = at_once resizes mode

    -- what is said of it: its step does nothing, and it waits for one that it may wait for
    abbrev pub SaysWaits : Changed → Type 0
    SaysWaits told = Nothing told × Waits

    at_row : (told : Changed) → told ≡ changed.Nothing → (row : Row) → IsRowOn (slot_of i) row → AnotherHolds w i row → SaysWaits told
    at_row told nothing row on holds = (ap (λ (y : Changed). effects_of (acts.Call i of) (known p.logged.notes) y) nothing, by_holder row on holds)

  -- a reservation
  module _ (i : ℕ) (r : CallForRoom) (under : stands.scene.calls of i ≡ Some (ForRoom r)) where
    room_on : IsRowOn (slot_of i) (row_of_room r.reserve.stands)
    room_on = elim (together.stand i (ForRoom r) under) as (λ _. IsRowOn (slot_of i) (row_of_room r.reserve.stands)) [
      | inl rests ↦ facts rests.1.facts
      | inr within ↦ subst (λ (row : Row). IsRowOn (slot_of i) row) within.0 (stands.shown.is_at.held.on_slots i)
    ]
      where
        begins : (q : Reserving) → ReservingFacts same hash w i (its_setting i (ForRoom r) under) st.chart (seen i (ForRoom r) under) q → IsRowOn (slot_of i) (row_of_room q)
        begins (reserves.Copies copier) f = whole_on i (ForRoom r) under copier f
        begins _ f = tt

        begins_late : (q : Reserving) → SupersededReserving same hash w i (its_setting i (ForRoom r) under) st.chart (seen i (ForRoom r) under) r.began q → IsRowOn (slot_of i) (row_of_room q)
        begins_late (reserves.Copies copier) f = late_on i (ForRoom r) under r.began copier f
        begins_late _ f = tt

        facts : ReserveFacts same hash w i (its_setting i (ForRoom r) under) st.chart (seen i (ForRoom r) under) r.reserve
            ⊎ SupersededReserveFacts same hash w i (its_setting i (ForRoom r) under) st.chart (seen i (ForRoom r) under) r.began r.reserve → IsRowOn (slot_of i) (row_of_room r.reserve.stands)
        facts (inl fresh) = begins r.reserve.stands fresh.point
        facts (inr late) = begins_late r.reserve.stands late.point

    pub room_says : (m2 : Mem (Node K V)) (told : Changed) (p2 : Reserve) → Step before m2 told (rooms.reserve_plan hash r.reserve) (p2, outcome.Waits) → SaysWaits i (ForRoom r) under told
    room_says m2 told p2 s = elim (room_decided r.reserve.stands) as (λ _. SaysWaits i (ForRoom r) under told) [
      | inl row ↦
          at_row i (ForRoom r) under told (room_row_quiet before m2 told hash r.reserve r.reserve.stands row (p2, outcome.Waits) s refl) (row_of_room r.reserve.stands) room_on
          (room_rows_wait_for_a_holder V same hash same st.setting slot_of w st.chart st.blocks st.sights calls_on together i r under row m2 p2 steps)
      | inr none ↦
          by r.reserve.stands refl
          (rooms_wait_for_a_copying V same hash same st.setting slot_of (is_lawful same hash terms m p stands of st is) w st.chart st.blocks st.sights calls_on together i r under none m2 p2 steps).1 s
    ]
      where
        steps : Steps Took value_at w.memory (rooms.reserve_plan hash r.reserve) m2 (p2, outcome.Waits)
        steps = as_taken i (ForRoom r) under (rooms.reserve_plan hash r.reserve) m2 told (p2, outcome.Waits) s

        by : (q : Reserving) → r.reserve.stands ≡ q → RoomAwaits st.chart (is_incremental st.setting.mode) q → Step before m2 told (rooms.plan_at hash r.reserve q) (p2, outcome.Waits)
            → SaysWaits i (ForRoom r) under told
        by (reserves.Copies copier) here awaits t = (
          does_nothing i (ForRoom r) under copier (ap copier_in_room here) awaits told
              (room_copier_told before m2 told hash r.reserve st.chart (is_incremental st.setting.mode) copier awaits (p2, outcome.Waits) t),
          copier_waits i (ForRoom r) under copier (ap copier_in_room here) awaits (room_for_resizes same m r (its i (ForRoom r) under).0 (its i (ForRoom r) under).3),
        )
        by _ here none t = absurd none

  -- a sweep
  module _ (i : ℕ) (o : CallOverAll) (under : stands.scene.calls of i ≡ Some (OverAll o)) where
    abbrev SweepKnows : Type 0
    SweepKnows = SweepFacts same hash w i (its_setting i (OverAll o) under) st.chart (seen i (OverAll o) under) o.began o.sweep

    sweep_on : IsRowOn (slot_of i) (row_of_sweep (slot_of i) o.sweep.stands)
    sweep_on = elim (together.stand i (OverAll o) under) as (λ _. IsRowOn (slot_of i) (row_of_sweep (slot_of i) o.sweep.stands)) [
      | inl rests ↦ begins o.sweep.stands rests.1.facts.point
      | inr within ↦ subst (λ (row : Row). IsRowOn (slot_of i) row) (within.0 ∙ same_row (slot_of i) o.sweep.stands) (stands.shown.is_at.held.on_slots i)
    ]
      where
        begins : (q : Sweeping) → SweepingFacts same hash w i (its_setting i (OverAll o) under) st.chart (seen i (OverAll o) under) o.began o.sweep q
            → IsRowOn (slot_of i) (row_of_sweep (slot_of i) q)
        begins (sweeps.Copies copier) (inl whole) = whole_on i (OverAll o) under copier whole
        begins (sweeps.Copies copier) (inr (blocking, late)) = late_on i (OverAll o) under o.began copier late
        begins (sweeps.Disposes dispose) f = dispose_on i (OverAll o) under dispose f.3
        begins _ f = tt

    -- its row is under way, or not begun
    its_row : (w.row i ≡ Rests) ⊎ (w.row i ≡ row_of_sweep (slot_of i) o.sweep.stands)
    its_row = elim (together.stand i (OverAll o) under) as (λ _. (w.row i ≡ Rests) ⊎ (w.row i ≡ row_of_sweep (slot_of i) o.sweep.stands)) [
      | inl rests ↦ inl rests.0
      | inr within ↦ inr (within.0 ∙ same_row (slot_of i) o.sweep.stands)
    ]

    its_facts : (IsRowOfSweep o.sweep.stands → ⊥) → SweepKnows
    its_facts none = elim (together.stand i (OverAll o) under) as (λ _. SweepKnows) [
      | inl rests ↦ rests.1.facts
      | inr within ↦ absurd (none within.1)
    ]

    pub sweep_says : (m2 : Mem (Node K V)) (told : Changed) (p2 : Sweep) → Step before m2 told (plans.sweep_plan hash o.sweep) (p2, swept.Waits) → SaysWaits i (OverAll o) under told
    sweep_says m2 told p2 s = elim (sweep_decided o.sweep.stands) as (λ _. SaysWaits i (OverAll o) under told) [
      | inl row ↦
          at_row i (OverAll o) under told (sweep_row_quiet before m2 told hash o.sweep o.sweep.stands row (p2, swept.Waits) s refl) (row_of_sweep (slot_of i) o.sweep.stands) sweep_on
          (sweep_rows_wait_for_a_holder V same hash slot_of st.setting.batch_size w together.ground.came i o.sweep row its_row m2 p2 steps)
      | inr none ↦
          by o.sweep.stands refl
          (sweeps_wait_for_a_copying V same hash (is_lawful same hash terms m p stands of st is) (its_setting i (OverAll o) under) w i st.chart (seen i (OverAll o) under) o.began o.sweep
          (map_of V same hash same st.setting slot_of w st.chart st.blocks st.sights calls_on together i (together.inside i (OverAll o) under)) (its_facts none) none m2 p2 steps).1 s
    ]
      where
        steps : Steps Took value_at w.memory (plans.sweep_plan hash o.sweep) m2 (p2, swept.Waits)
        steps = as_taken i (OverAll o) under (plans.sweep_plan hash o.sweep) m2 told (p2, swept.Waits) s

        by : (q : Sweeping) → o.sweep.stands ≡ q → SweepAwaits st.chart (is_incremental st.setting.mode) q → Step before m2 told (plans.plan_at hash o.sweep q) (p2, swept.Waits)
            → SaysWaits i (OverAll o) under told
        by (sweeps.Copies copier) here awaits t = (
          does_nothing i (OverAll o) under copier (ap copier_in_sweep here) awaits told
              (sweep_copier_told before m2 told hash o.sweep st.chart (is_incremental st.setting.mode) copier awaits (p2, swept.Waits) t),
          copier_waits i (OverAll o) under copier (ap copier_in_sweep here) awaits (sweep_for_resizes same m o (its i (OverAll o) under).0 (its i (OverAll o) under).3),
        )
        by _ here none t = absurd none
