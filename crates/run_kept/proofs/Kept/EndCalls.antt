-- That each copying that is not over has who ends it, after each step of a call, of its row, too.
use Rattle.std.specs.Prelude.{Bool, true, List, Option, Some}
use Rattle.std.specs.Int.{IsPowerOfTwo}
use Rattle.std.proofs.Common.{◌≡◌, ℕ, inl, inr, refl, ap, sym, subst, ◌∙◌, false}
use Rattle.run_blocks.specs.Given.WaitsOthers.{HaveEnds, copier_in, copier_in_room, copier_in_sweep}
use Rattle.run_blocks.proofs.Given.WaitsCallsEnd.{calls_keep_ends}
use Rattle.run_blocks.proofs.Given.WaitsEndingCalls.{copier_then}
use Rattle.run_blocks.proofs.Given.WaitsRoomsEnd.{rooms_keep_ends, sweeps_keep_ends}
use Rattle.run_blocks.specs.Given.WaitersBlocking.{HaveEndsBlocking}
use Rattle.run_blocks.proofs.Given.WaitersLikes.{IsFreshCopier, IsIdleAt, IsIdleCopier}
use Rattle.run_blocks.proofs.Given.WaitersRowsFresh.{key_row_fresh, room_row_fresh, sweep_row_fresh}
use Rattle.run_blocks.proofs.Given.WaitersCalls.{calls_keep_ends_blocking, rooms_keep_ends_blocking, sweeps_keep_ends_blocking}
use Rattle.run_schedules.specs.Given.SeizeWordsMem.{Mem, Took, value_at}
use Rattle.run_schedules.specs.Given.SeizeWordsPlan.{Steps}
use Rattle.seize.specs.World.{with_at}
use Rattle.papaya_raw.specs.Given.TablesChunks.{is_incremental}
use Rattle.papaya_raw.specs.Given.TablesDeclared.node.Node.{Node}
use Rattle.run_blocks.specs.Given.ResizeDeclared.copier.Copying.{Copying as Point}
use Rattle.run_blocks.specs.Given.ResizeDeclared.copier.Copying.TheVariants as copies
use Rattle.run_blocks.specs.Given.ResizeDeclared.yielding.Yielding.{Yielding}
use Rattle.run_blocks.specs.Given.ResizeDeclared.yielding.Yielding.TheVariants as outcome
use Rattle.run_blocks.specs.Given.ResizeDeclared.sum.Sum.{Sum}
use Rattle.papaya_raw.specs.Call.{call_plan}
use Rattle.papaya_raw.specs.Machine.{reserved as of_room}
use Rattle.papaya_raw.specs.Progress.{of_called, of_outcome, of_swept}
use Rattle.papaya_raw.specs.declared.machines.answer.Called.{Called}
use Rattle.papaya_raw.specs.declared.machines.call.Calling.{Calling}
use Rattle.papaya_raw.specs.declared.machines.call.Calling.TheVariants as at
use Rattle.papaya_raw.specs.declared.machines.call.KeyCall.{KeyCall}
use Rattle.papaya_raw.specs.declared.machines.machine.Machine.{Machine}
use Rattle.papaya_raw.specs.declared.machines.machine.Machine.TheVariants as kinds
use Rattle.papaya_raw.specs.declared.machines.progress.Progress.{Progress}
use Rattle.papaya_raw.specs.Given.ReservesReserve.{reserve_plan}
use Rattle.papaya_raw.specs.Given.ReservesDeclared.reserve.Reserve.{Reserve}
use Rattle.papaya_raw.specs.Given.ReservesDeclared.reserve.Reserving.{Reserving}
use Rattle.papaya_raw.specs.Given.ReservesDeclared.reserve.Reserving.TheVariants as reserves
use Rattle.papaya_raw.specs.Given.SweepsSweep.{sweep_plan}
use Rattle.papaya_raw.specs.Given.ReservesDeclared.sweep.Sweep.{Sweep}
use Rattle.papaya_raw.specs.Given.ReservesDeclared.sweep.Swept.{Swept}
use Rattle.papaya_raw.specs.Given.ReservesDeclared.sweep.Sweeping.{Sweeping}
use Rattle.papaya_raw.specs.Given.ReservesDeclared.sweep.Sweeping.TheVariants as sweeps
use Rattle.run_executor.specs.Given.RuleChart.{Chart}
use Rattle.run_executor.specs.Given.RuleWords.{Blocks}
use Rattle.run_executor.specs.Given.PointsSteps.{AreLawful}
use Rattle.run_executor.specs.Given.PointsTold.{IsRowOfCall, IsRowOfCopier}
use Rattle.run_executor.specs.Given.LateToldReserves.{IsRowOfReserve}
use Rattle.run_executor.specs.Given.LateToldSweeps.{IsRowOfSweep}
use Rattle.run_executor.specs.Given.TellerTells.{StepsObserved}
use Rattle.run_executor.specs.Given.EffectsDeclared.changed.Changed.TheVariants as changed
use Rattle.run_executor.specs.Given.CallersOverAll.{CallOverAll}
use Rattle.run_executor.specs.Given.CallersRooms.{CallForRoom}
use Rattle.run_executor.specs.Given.CallersSights.{Visible}
use Rattle.run_executor.specs.Given.CallersTogether.{CallOnKey, UnderWay, OnKey, ForRoom, Counting, OverAll, Together, next_of_counting}
use Rattle.run_executor.proofs.Given.CallersTogether.At.{at_same, at_other}
use Rattle.run_executor.specs.Given.EffectsKnown.{Known}
use Rattle.run_executor.specs.Given.FinishesMaps.{Standing, IsSameMap}
use Rattle.run_executor.specs.Given.FollowsShows.{Refines}
use Rattle.run_executor.proofs.Given.FollowsSteps.{WentTo, went_to, DidSo}
use Rattle.run_executor.proofs.Given.OthersOutcomes.{told_in}
use Rattle.run_schedules.specs.Schedules.Moment.{Moment}
use Rattle.run_blocks.proofs.Given.SettlesKeys.{steps as key_told}
use Rattle.run_blocks.proofs.Given.SettlesRest.{steps as sweep_told}
use Rattle.run_kept.specs.Kept.Ends.{HaveEndsIn, MapsHaveEnds}
use Rattle.run_kept.proofs.Kept.Ends.{StoodSo, call_goes, idle_keeps, stood_ends, stood_so}
use Rattle.seize.specs.declared.advance.Advance.{Advance as CountGoes}
use Rattle.seize.specs.declared.advance.Advance.TheVariants as progress
use Rattle.papaya_raw.specs.Given.TablesDeclared.setting.Setting.{Setting}
use Rattle.run_executor.proofs.Given.ScenesTold.{as_step}
use Rattle.run_executor.specs.Given.ScenesHeld.{Held, IsAt}
use Rattle.run_executor.specs.Given.ScenesScene.{Scene, slot_of}
use Rattle.run_executor.specs.Given.ScenesStepping.{StepLeads, scene_after}
use Rattle.run_executor.proofs.Given.General.{same_some as one_of}

-- at a row no call is to end a copying
row_point : (stands : Point) → IsRowOfCopier stands → IsIdleAt stands
row_point (copies.Retires settle rest) row = tt
row_point _ row = absurd row

row_of_call : (stands : Calling) → IsRowOfCall stands → IsIdleCopier (copier_in stands)
row_of_call (at.Disposes dispose answer) row = tt
row_of_call (at.Helps copier goal) row = row_point copier.stands row
row_of_call (at.Copies copier) row = row_point copier.stands row
row_of_call _ row = absurd row

row_of_room : (stands : Reserving) → IsRowOfReserve stands → IsIdleCopier (copier_in_room stands)
row_of_room (reserves.Copies copier) row = row_point copier.stands row
row_of_room _ row = absurd row

row_of_sweep : (stands : Sweeping) → IsRowOfSweep stands → IsIdleCopier (copier_in_sweep stands)
row_of_sweep (sweeps.Copies copier) row = row_point copier.stands row
row_of_sweep (sweeps.Disposes dispose) row = tt
row_of_sweep _ row = absurd row

-- a counting copies nothing
count_fresh : (K V : Type 0) (sum : Sum) (end : CountGoes ℕ) → IsFreshCopier (copier_then (next_of_counting {K = K} {V = V} {Q = K} sum end))
count_fresh K V sum (progress.Done count) = tt
count_fresh K V sum (progress.Refused fault) = tt
count_fresh K V sum _ = tt

-- what a reservation says of how far it is, it says in one way
same_outcome : {T : Type 0} (a b : Yielding T Unit) → of_outcome a ≡ of_outcome b → a ≡ b
same_outcome outcome.Goes outcome.Goes e = refl
same_outcome outcome.Waits outcome.Waits e = refl
same_outcome (outcome.Done v) (outcome.Done w) e = refl
same_outcome (outcome.Gave v) (outcome.Gave w) e = let one : v ≡ w = cc e in ap outcome.Gave one
same_outcome (outcome.Refused v) (outcome.Refused w) e = let one : v ≡ w = cc e in ap outcome.Refused one
same_outcome _ _ e = absurd (cc e)

module _ {K V : Type 0} (same : K → K → Bool) (hash : ℕ → K → ℕ) (name : ℕ → List ℕ) (m : Moment K V) (known : Known) (s : Scene K V) (old new : Held K V) (at_old : IsAt same hash old s)
    (shown : Refines same name m known s) (ends : MapsHaveEnds s) (map i : ℕ) (said : Progress (Node K V)) (leads : StepLeads same hash i said s old new) where
  module _ (u : UnderWay K V K) (here : s.calls map i ≡ Some u) where
    abbrev to : WentTo same hash name m known s old new at_old shown map i u here said leads
    to = went_to same hash name m known s old new at_old shown map i u here said leads

    abbrev led : Scene K V
    led = scene_after same s old new map i to.0 u to.1 said to.4

    together : Together V same to.0.hash same to.0.setting slot_of s.world to.0.chart to.0.blocks to.0.sights (s.calls map)
    together = at_old.together.makings.standing.each map to.0 to.2

    lawful : AreLawful same to.0.hash
    lawful = (at_old.together.makings.standing.fit map to.0 to.2).0

    power : IsPowerOfTwo to.0.setting.initial
    power = (at_old.together.makings.standing.fit map to.0 to.2).1

    -- its map has moved on, and each other one is as it was
    moved : (chart : Chart K) (blocks : Blocks) (sights : ℕ → Visible) (it : Option (UnderWay K V K))
        → to.4.maps2 ≡ with_at s.maps map (Some (record to.0 { chart = chart; blocks = blocks; sights = sights })) → to.4.next ≡ it
        → HaveEndsIn (is_incremental to.0.setting.mode) chart (with_at (s.calls map) i it) → MapsHaveEnds led
    moved chart blocks sights it maps next own = call_goes s ends led map i to.4.next refl others its
      where
        after : Standing K
        after = record to.0 { chart = chart; blocks = blocks; sights = sights }

        others : (n : ℕ) (st : Standing K) → (n ≡ map → ⊥) → to.4.maps2 n ≡ Some st → StoodSo (s.maps n) st
        others n st ne is = (st, sym (at_other s.maps map (Some after) n ne) ∙ sym (ap (λ (f : ℕ → Option (Standing K)). f n) maps) ∙ is, refl, refl)

        its : (st : Standing K) → to.4.maps2 map ≡ Some st → HaveEndsIn (is_incremental st.setting.mode) st.chart (with_at (s.calls map) i to.4.next)
        its st is =
            let one : st ≡ after = one_of st after (sym is ∙ ap (λ (f : ℕ → Option (Standing K)). f map) maps ∙ at_same s.maps map (Some after) map refl) in
            subst (λ (o : Option (UnderWay K V K)). HaveEndsIn (is_incremental st.setting.mode) st.chart (with_at (s.calls map) i o)) (sym next)
            (subst (λ (x : Standing K). HaveEndsIn (is_incremental x.setting.mode) x.chart (with_at (s.calls map) i it)) (sym one) own)

    -- each map is as it was
    stayed : (it : Option (UnderWay K V K)) → ((n : ℕ) → IsSameMap (s.maps n) (to.4.maps2 n)) → to.4.next ≡ it → IsIdleCopier (copier_then (Some u))
        → (is_incremental to.0.setting.mode ≡ false → IsFreshCopier (copier_then it)) → MapsHaveEnds led
    stayed it same_maps next idle fresh = call_goes s ends led map i to.4.next refl (λ n st ne is. stood_so (s.maps n) (to.4.maps2 n) (same_maps n) st is) its
      where
        its : (st : Standing K) → to.4.maps2 map ≡ Some st → HaveEndsIn (is_incremental st.setting.mode) st.chart (with_at (s.calls map) i to.4.next)
        its st is =
            let stood = stood_so (s.maps map) (to.4.maps2 map) (same_maps map) st is in
            let one : stood.0 ≡ to.0 = one_of stood.0 to.0 (sym stood.1 ∙ to.2) in
            let same_setting : st.setting ≡ to.0.setting = stood.3 ∙ ap (λ (x : Standing K). x.setting) one in
            idle_keeps (is_incremental st.setting.mode) st.chart (s.calls map) i to.4.next (stood_ends s ends map st stood)
            (subst (λ (o : Option (UnderWay K V K)). IsIdleCopier (copier_then o)) (sym here) idle)
            (λ blocking. subst (λ (o : Option (UnderWay K V K)). IsFreshCopier (copier_then o)) (sym next) (fresh (sym (ap (λ (x : Setting). is_incremental x.mode) same_setting) ∙ blocking)))

    -- in blocking mode
    at_once : is_incremental to.0.setting.mode ≡ false → HaveEndsBlocking to.0.chart (s.calls map)
    at_once blocking = subst (λ (b : Bool). HaveEndsIn b to.0.chart (s.calls map)) blocking (ends map to.0 to.2)

    -- in the mode of the map
    in_mode : (c : Chart K) (calls : ℕ → Option (UnderWay K V K)) → (is_incremental to.0.setting.mode ≡ true → HaveEnds to.0.chart (s.calls map) → HaveEnds c calls)
        → (is_incremental to.0.setting.mode ≡ false → HaveEndsBlocking to.0.chart (s.calls map) → HaveEndsBlocking c calls) → HaveEndsIn (is_incremental to.0.setting.mode) c calls
    in_mode c calls chunks blocking = by (is_incremental to.0.setting.mode) refl (ends map to.0 to.2)
      where
        by : (b : Bool) → is_incremental to.0.setting.mode ≡ b → HaveEndsIn b to.0.chart (s.calls map) → HaveEndsIn b c calls
        by true is had = chunks is had
        by false is had = blocking is had

  -- a call on one key
  module _ (x : CallOnKey K V K) (here : s.calls map i ≡ Some (OnKey x)) where
    key_steps : (p2 : KeyCall K V K) (end : Called (Node K V)) → (to (OnKey x) here).1 ≡ kinds.Key p2 → said ≡ of_called end
        → Steps Took value_at s.world.memory (call_plan same same (to (OnKey x) here).0.hash x.call) new.memory (p2, end)
    key_steps p2 end machine_is told_is =
        subst (λ (k : Mem (Node K V)). Steps Took value_at k (call_plan same same (to (OnKey x) here).0.hash x.call) new.memory (p2, end)) (sym at_old.memory)
        (as_step old.memory changed.Nothing (call_plan same same (to (OnKey x) here).0.hash x.call) new.memory new.changed (p2, end)
        (key_told same hash name m known s old new at_old shown map i x here said leads p2 end machine_is told_is))

    key_ends : DidSo same hash name m known s old new at_old shown map i (OnKey x) here said leads (OnKey x) → MapsHaveEnds (led (OnKey x) here)
    key_ends (p2, end, machine_is, told_is, inl (step, went)) =
        let st : Standing K = (to (OnKey x) here).0 in
        moved (OnKey x) here step.step.went.c2 step.step.blocks2 step.step.sights2 _ went.1 went.2
        (in_mode (OnKey x) here step.step.went.c2 _
        (λ mode had. calls_keep_ends V same st.hash same st.setting slot_of (lawful (OnKey x) here) (power (OnKey x) here) mode s.world st.chart st.blocks st.sights (s.calls map)
        (together (OnKey x) here) had i x here step.no_row new.memory p2 end (key_steps p2 end machine_is told_is) step.step)
        (λ mode had. calls_keep_ends_blocking V same st.hash same st.setting slot_of (lawful (OnKey x) here) (power (OnKey x) here) mode s.world st.chart st.blocks st.sights (s.calls map)
        (together (OnKey x) here) had i x here step.no_row new.memory p2 end (key_steps p2 end machine_is told_is) step.step))
    key_ends (p2, end, machine_is, told_is, inr (row, still)) =
        let st : Standing K = (to (OnKey x) here).0 in
        stayed (OnKey x) here _ still.1 still.2 (row_of_call x.call.stands row.is_row)
        (λ mode. key_row_fresh V same st.hash same st.setting slot_of mode s.world st.chart st.blocks st.sights (s.calls map) (together (OnKey x) here) (at_once (OnKey x) here mode) i
        new.memory x here row.is_row p2 end (key_steps p2 end machine_is told_is) x)

  -- a reservation
  module _ (x : CallForRoom) (here : s.calls map i ≡ Some (ForRoom x)) where
    room_steps : (p2 : Reserve) (end : Yielding (Node K V) Unit) → (to (ForRoom x) here).1 ≡ kinds.Reserve p2 → said ≡ of_outcome end
        → Steps Took value_at s.world.memory (reserve_plan (to (ForRoom x) here).0.hash x.reserve) new.memory (p2, end)
    room_steps p2 end machine_is told_is =
        subst (λ (k : Mem (Node K V)). Steps Took value_at k (reserve_plan (to (ForRoom x) here).0.hash x.reserve) new.memory (p2, end)) (sym at_old.memory)
        (as_step old.memory changed.Nothing (reserve_plan (to (ForRoom x) here).0.hash x.reserve) new.memory new.changed (p2, end) (by inner.0 inner.1 inner.2))
      where
        Stepped : Reserve × Yielding (Node K V) Unit → Type 0
        Stepped e = StepsObserved K V (Reserve × Yielding (Node K V) Unit) old.memory changed.Nothing (reserve_plan (to (ForRoom x) here).0.hash x.reserve) new.memory new.changed e

        inner : (r : Reserve × Yielding (Node K V) Unit) × (◌≡◌ {A = Machine K V K × Progress (Node K V)} ((to (ForRoom x) here).1, said) (of_room r)) × Stepped r
        inner = told_in old.memory new.memory new.changed of_room (reserve_plan (to (ForRoom x) here).0.hash x.reserve) ((to (ForRoom x) here).1, said) (to (ForRoom x) here).3

        by : (r : Reserve × Yielding (Node K V) Unit) → ◌≡◌ {A = Machine K V K × Progress (Node K V)} ((to (ForRoom x) here).1, said) (of_room r) → Stepped r → Stepped (p2, end)
        by (q, said_so) is told =
            let machines : kinds.Reserve q ≡ kinds.Reserve p2 = sym (ap (λ (z : Machine K V K × Progress (Node K V)). z.0) is) ∙ machine_is in
            let says : of_outcome said_so ≡ of_outcome end = sym (ap (λ (z : Machine K V K × Progress (Node K V)). z.1) is) ∙ told_is in
            let one : q ≡ p2 = cc machines in
            subst (λ (z : Yielding (Node K V) Unit). Stepped (p2, z)) (same_outcome said_so end says) (subst (λ (z : Reserve). Stepped (z, said_so)) one told)

    room_ends : DidSo same hash name m known s old new at_old shown map i (ForRoom x) here said leads (ForRoom x) → MapsHaveEnds (led (ForRoom x) here)
    room_ends (p2, end, machine_is, told_is, inl (step, went)) =
        let st : Standing K = (to (ForRoom x) here).0 in
        moved (ForRoom x) here step.step.went.c2 step.step.blocks2 step.step.sights2 _ went.1 went.2
        (in_mode (ForRoom x) here step.step.went.c2 _
        (λ mode had. rooms_keep_ends V same st.hash same st.setting slot_of (lawful (ForRoom x) here) (power (ForRoom x) here) mode s.world st.chart st.blocks st.sights (s.calls map)
        (together (ForRoom x) here) had i x here step.no_row new.memory p2 end (room_steps p2 end machine_is told_is) step.step)
        (λ mode had. rooms_keep_ends_blocking V same st.hash same st.setting slot_of (lawful (ForRoom x) here) (power (ForRoom x) here) mode s.world st.chart st.blocks st.sights (s.calls map)
        (together (ForRoom x) here) had i x here step.no_row new.memory p2 end (room_steps p2 end machine_is told_is) step.step))
    room_ends (p2, end, machine_is, told_is, inr (row, still)) =
        let st : Standing K = (to (ForRoom x) here).0 in
        stayed (ForRoom x) here _ still.1 still.2 (row_of_room x.reserve.stands row.is_row)
        (λ mode. room_row_fresh V same st.hash same st.setting slot_of mode s.world st.chart st.blocks st.sights (s.calls map) (together (ForRoom x) here) (at_once (ForRoom x) here mode) i
        new.memory x here row.is_row p2 end (room_steps p2 end machine_is told_is))

  -- a sweep
  module _ (x : CallOverAll) (here : s.calls map i ≡ Some (OverAll x)) where
    sweep_steps : (p2 : Sweep) (end : Swept (Node K V)) → (to (OverAll x) here).1 ≡ kinds.Sweep p2 → said ≡ of_swept end
        → Steps Took value_at s.world.memory (sweep_plan (to (OverAll x) here).0.hash x.sweep) new.memory (p2, end)
    sweep_steps p2 end machine_is told_is =
        subst (λ (k : Mem (Node K V)). Steps Took value_at k (sweep_plan (to (OverAll x) here).0.hash x.sweep) new.memory (p2, end)) (sym at_old.memory)
        (as_step old.memory changed.Nothing (sweep_plan (to (OverAll x) here).0.hash x.sweep) new.memory new.changed (p2, end)
        (sweep_told same hash name m known s old new at_old shown map i (OverAll x) here said leads x refl p2 end machine_is told_is))

    sweep_ends : DidSo same hash name m known s old new at_old shown map i (OverAll x) here said leads (OverAll x) → MapsHaveEnds (led (OverAll x) here)
    sweep_ends (p2, end, machine_is, told_is, inl (step, went)) =
        let st : Standing K = (to (OverAll x) here).0 in
        moved (OverAll x) here step.step.went.c2 step.step.blocks2 step.step.sights2 _ went.1 went.2
        (in_mode (OverAll x) here step.step.went.c2 _
        (λ mode had. sweeps_keep_ends V same st.hash same st.setting slot_of (lawful (OverAll x) here) (power (OverAll x) here) mode s.world st.chart st.blocks st.sights (s.calls map)
        (together (OverAll x) here) had i x here step.no_row new.memory p2 end (sweep_steps p2 end machine_is told_is) step.step)
        (λ mode had. sweeps_keep_ends_blocking V same st.hash same st.setting slot_of (lawful (OverAll x) here) (power (OverAll x) here) mode s.world st.chart st.blocks st.sights (s.calls map)
        (together (OverAll x) here) had i x here step.no_row new.memory p2 end (sweep_steps p2 end machine_is told_is) step.step))
    sweep_ends (p2, end, machine_is, told_is, inr (row, still)) =
        let st : Standing K = (to (OverAll x) here).0 in
        stayed (OverAll x) here _ still.1 still.2 (row_of_sweep x.sweep.stands row.is_row)
        (λ mode. sweep_row_fresh V same st.hash same st.setting slot_of mode s.world st.chart st.blocks st.sights (s.calls map) (together (OverAll x) here) (at_once (OverAll x) here mode) i
        new.memory x here row.is_row p2 end (sweep_steps p2 end machine_is told_is) x.entered x.done)

  -- a counting
  count_ends : (x : Sum) (here : s.calls map i ≡ Some (Counting x)) → DidSo same hash name m known s old new at_old shown map i (Counting x) here said leads (Counting x)
      → MapsHaveEnds (led (Counting x) here)
  count_ends x here (sum2, end, machine_is, told_is, memory, still) = stayed (Counting x) here _ still.1 still.2 tt (λ mode. count_fresh K V sum2 end)

  pub calls_keep_all_ends : (u : UnderWay K V K) (here : s.calls map i ≡ Some u) → MapsHaveEnds (led u here)
  calls_keep_all_ends (OnKey x) here = key_ends x here (to (OnKey x) here).4.did
  calls_keep_all_ends (ForRoom x) here = room_ends x here (to (ForRoom x) here).4.did
  calls_keep_all_ends (Counting x) here = count_ends x here (to (Counting x) here).4.did
  calls_keep_all_ends (OverAll x) here = sweep_ends x here (to (OverAll x) here).4.did
