-- A step of a call writes no root, or leaves it where it is to be refused for nothing, and is to put no table behind another one.
use Rattle.std.specs.Prelude.{◌≡◌, ◌⊎◌, ℕ, Bool, Ok, Err}
use Rattle.std.proofs.Common.{refl, sym, subst, inl, inr}
use Rattle.run_finds.specs.Given.SeizeWordsMem.{Mem}
use Rattle.run_finds.specs.Given.SeizeWordsOp.{Exchanged, Found, Made, Roomed, Stored, Taken}
use Rattle.run_finds.specs.Given.SeizeWordsPlan.{Plan}
use Rattle.run_finds.specs.Given.SeizeWordsDeclared.fault.Fault.{Fault}
use Rattle.papaya_raw.specs.Given.SeizeDeclared.advance.Advance.{Advance as Counting}
use Rattle.papaya_raw.specs.Given.SeizeDeclared.advance.Advance.TheVariants as progress
use Rattle.papaya_raw.specs.Given.TablesDeclared.node.Node.{Node}
use Rattle.papaya_raw.specs.Given.TablesDeclared.table.Table.{Table}
use Rattle.papaya_raw.specs.Given.ResizeCopier as copiers
use Rattle.papaya_raw.specs.Given.ResizeCopier.{copier_plan}
use Rattle.papaya_raw.specs.Given.ResizeCopierFurther.{grown, remade}
use Rattle.run_finds.specs.Given.ResizeNewTable.{new_table_plan, standing as making_at}
use Rattle.run_finds.specs.Given.ResizeSum.{sum_plan}
use Rattle.run_finds.specs.Given.ResizeDeclared.copier.Copier.{Copier}
use Rattle.run_finds.specs.Given.ResizeDeclared.copier.Copying.{Copying}
use Rattle.run_finds.specs.Given.ResizeDeclared.copier.Copying.TheVariants as copying
use Rattle.run_finds.specs.Given.ResizeDeclared.new_table.Making.TheVariants as makes
use Rattle.run_finds.specs.Given.ResizeDeclared.new_table.NewTable.{NewTable}
use Rattle.run_finds.specs.Given.ResizeDeclared.yielding.Yielding.{Yielding}
use Rattle.papaya_raw.specs.Given.ReservesReserve as reserves
use Rattle.papaya_raw.specs.Given.ReservesReserve.{reserve_plan}
use Rattle.papaya_raw.specs.Given.ReservesDeclared.reserve.Reserve.{Reserve}
use Rattle.papaya_raw.specs.Given.ReservesDeclared.reserve.Reserving.{Reserving}
use Rattle.papaya_raw.specs.Given.ReservesDeclared.reserve.Reserving.TheVariants as reserving
use Rattle.papaya_raw.specs.Given.SweepsSweep as sweeps_of
use Rattle.papaya_raw.specs.Given.SweepsSweep.{sweep_plan}
use Rattle.papaya_raw.specs.Given.ReservesDeclared.sweep.Sweep.{Sweep}
use Rattle.papaya_raw.specs.Given.ReservesDeclared.sweep.Sweeping.{Sweeping}
use Rattle.papaya_raw.specs.Given.ReservesDeclared.sweep.Sweeping.TheVariants as sweeping
use Rattle.papaya_raw.specs.Given.ReservesDeclared.sweep.Swept.{Swept}
use Rattle.papaya_raw.specs.Call as calls_of
use Rattle.papaya_raw.specs.Call.{call_plan, copied, first_made, helped, next_made}
use Rattle.papaya_raw.specs.Machine.{called as of_key, counted as of_sum, machine_plan, reserved as of_room, swept as of_sweep}
use Rattle.papaya_raw.specs.declared.machines.answer.Called.{Called}
use Rattle.papaya_raw.specs.declared.machines.asking.Asking.TheVariants as asking
use Rattle.papaya_raw.specs.declared.machines.call.Calling.{Calling}
use Rattle.papaya_raw.specs.declared.machines.call.Calling.TheVariants as calling
use Rattle.papaya_raw.specs.declared.machines.call.KeyCall.{KeyCall}
use Rattle.papaya_raw.specs.declared.machines.machine.Machine.{Machine}
use Rattle.papaya_raw.specs.declared.machines.machine.Machine.TheVariants as kinds
use Rattle.papaya_raw.specs.declared.machines.progress.Progress.{Progress}
use Rattle.run_finds.specs.Given.TellerTells.{StepsObserved}
use Rattle.run_finds.specs.Given.EffectsDeclared.changed.Changed.{Changed}
use Rattle.run_finds.specs.Given.EffectsDeclared.changed.Changed.TheVariants as changed
use Rattle.run_finds.specs.Given.LateEnds.{EndsInCalling, EndsInCopying, EndsInSweeping}
use Rattle.run_finds.specs.Given.LateFaults.{HoldsInCalling, HoldsInCopying, HoldsInSweeping}
use Rattle.run_finds.proofs.Given.LateKindsKept.Rooms.Asks.{reserve_asks}
use Rattle.run_finds.proofs.Given.LateKindsKept.Rooms.Calling as calls_as
use Rattle.run_finds.proofs.Given.LateKindsKept.Rooms.Calling.{CallsAs, key_as}
use Rattle.run_finds.proofs.Given.LateKindsKept.Rooms.Copying as copies_as
use Rattle.run_finds.proofs.Given.LateKindsKept.Rooms.Copying.{CopiesAs, copier_as}
use Rattle.run_finds.proofs.Given.LateKindsKept.Rooms.Reserving as rooms_as
use Rattle.run_finds.proofs.Given.LateKindsKept.Rooms.Reserving.{ReservesAs}
use Rattle.run_finds.proofs.Given.LateKindsKept.Rooms.Sweeping as sweeps_as
use Rattle.run_finds.proofs.Given.LateKindsKept.Rooms.Sweeping.{SweepsAs, sweep_as}
use Rattle.run_finds.proofs.Given.OthersOutcomes.{told_in}
use Rattle.run_grows.specs.Grows.Limits.{IsFor, IsForDeferral, NeedsMore}
use Rattle.run_grows.proofs.Grows.Finding.Making.OffRoot.{IsDone, new_table_off, sum_off}
use Rattle.run_grows.proofs.Grows.Finding.Making.Unpromoted.{OffRoot}
use Rattle.run_grows.proofs.Grows.Limits.Walk.{EndsThen, key_end, memory_for, room_end, sweep_end}
use Rattle.run_finds.proofs.Given.ScenesTold.{as_step}

module _ {K V : Type 0} (m m2 : Mem (Node K V)) (told : Changed) (hash : K → ℕ) where
  abbrev Step : {R : Type 0} → Plan (Node K V) R → R → Type 0
  Step {R} plan end = StepsObserved K V R m changed.Nothing plan m2 told end

  abbrev Off : Type 0
  Off = OffRoot told

  -- what is so of the end of a making that is done, or it is off the root
  by_making : {R : Type 0} (P : R → Type 0) (f : NewTable × Counting Table → R) → ((n : NewTable) (t : Table) → P (f (n, progress.Done t))) → (e : NewTable × Counting Table) → IsDone m m2 told e ⊎ Off → (end : R) → end ≡ f e
      → P end ⊎ Off
  by_making P f done e (inr off) end is = inr off
  by_making P f done (n, progress.Goes) (inl over) end is = absurd (let so = over.1 in cc so)
  by_making P f done (n, progress.Waits) (inl over) end is = absurd (let so = over.1 in cc so)
  by_making P f done (n, progress.Refused fault) (inl over) end is = absurd (let so = over.1 in cc so)
  by_making P f done (n, progress.Done t) (inl over) end is = inl (subst P (sym is) (done n t))

  module _ (Why : Type 0) where
    -- of a copier
    module _ (c : Copier) (end : Copier × Yielding (Node K V) Table) where
      abbrev CopierFree : Copier × Yielding (Node K V) Table → Type 0
      CopierFree e = CopiesAs (IsFor Why) (IsForDeferral Why) e

      quiet_copier : (p : Copying) → c.stands ≡ p → HoldsInCopying (IsFor Why) (IsForDeferral Why) p → EndsInCopying (IsFor Why) (IsForDeferral Why) m c p → Step (copiers.plan_at hash c p) end → CopierFree end ⊎ Off
      quiet_copier p is stands ends s =
          inl (copier_as (IsFor Why) (IsForDeferral Why) (memory_for Why) K V hash c (subst (HoldsInCopying (IsFor Why) (IsForDeferral Why)) (sym is) stands) m m2 end
          (subst (EndsInCopying (IsFor Why) (IsForDeferral Why) m c) (sym is) ends)
          (as_step m changed.Nothing (copier_plan hash c) m2 told end (subst (λ (q : Copying). Step (copiers.plan_at hash c q) end) (sym is) s)))

      unmarked_off : (word : ℕ) (fault : Fault) → Step (copiers.plan_at hash c (copying.Unmarks word fault)) end → Off
      unmarked_off word fault (Exchanged (Ok found), took, ends) = subst OffRoot (sym took.1) tt
      unmarked_off word fault (Exchanged (Err found), took, ends) = subst OffRoot (sym took.1) tt
      unmarked_off word fault (Found found, took, ends) = subst OffRoot (sym took.1) tt
      unmarked_off word fault (Stored, took, ends) = subst OffRoot (sym took.1) tt
      unmarked_off word fault (Made r, took, ends) = subst OffRoot (sym took.1) tt
      unmarked_off word fault (Taken value, took, ends) = subst OffRoot (sym took.1) tt
      unmarked_off word fault (Roomed r, took, ends) = subst OffRoot (sym took.1) tt

      tallied_off : (word : ℕ) (fault : Fault) → Step (copiers.plan_at hash c (copying.Tallies word fault)) end → Off
      tallied_off word fault (Exchanged (Ok found), took, ends) = subst OffRoot (sym took.1) tt
      tallied_off word fault (Exchanged (Err found), took, ends) = subst OffRoot (sym took.1) tt
      tallied_off word fault (Found found, took, ends) = subst OffRoot (sym took.1) tt
      tallied_off word fault (Stored, took, ends) = subst OffRoot (sym took.1) tt
      tallied_off word fault (Made r, took, ends) = subst OffRoot (sym took.1) tt
      tallied_off word fault (Taken value, took, ends) = subst OffRoot (sym took.1) tt
      tallied_off word fault (Roomed r, took, ends) = subst OffRoot (sym took.1) tt

      copier_at : (p : Copying) → c.stands ≡ p → Step (copiers.plan_at hash c p) end → CopierFree end ⊎ Off
      copier_at (copying.Grows word code n) is s =
          let it = told_in m m2 told (grown c word code) (new_table_plan n) end s in
          by_making CopierFree (grown c word code) (λ n t. copies_as.grown_as (IsFor Why) (IsForDeferral Why) K V hash c word code (making_at n (makes.Over t), progress.Done t) tt) it.0 (new_table_off m m2 told n it.0 it.2) end it.1
      copier_at (copying.Remakes n) is s =
          let it = told_in m m2 told (remade c) (new_table_plan n) end s in
          by_making CopierFree (remade c) (λ n t. copies_as.remade_as (IsFor Why) (IsForDeferral Why) K V hash c (making_at n (makes.Over t), progress.Done t) tt) it.0 (new_table_off m m2 told n it.0 it.2) end it.1
      copier_at (copying.Passes word code table) is s = inr (subst OffRoot (sym s.1.1) tt)
      copier_at copying.Replaces is s = inr (subst OffRoot (sym s.1.1) tt)
      copier_at (copying.Tallies word fault) is s = inr (tallied_off word fault s)
      copier_at (copying.Unmarks word fault) is s = inr (unmarked_off word fault s)
      copier_at (copying.Unclaims fault) is s = inr (subst OffRoot (sym s.1.1) tt)
      copier_at (copying.Refused fault) is s = inr (subst OffRoot (sym s.2) tt)
      copier_at p is s = quiet_copier p is tt tt s

    copier_off : (c : Copier) (end : Copier × Yielding (Node K V) Table) → Step (copier_plan hash c) end → CopiesAs (IsFor Why) (IsForDeferral Why) end ⊎ Off
    copier_off c end s = copier_at c end c.stands refl s

    -- of what it goes on to
    by_copier : {R : Type 0} (P : R → Type 0) (f : Copier × Yielding (Node K V) Table → R) → ((e : Copier × Yielding (Node K V) Table) → CopiesAs (IsFor Why) (IsForDeferral Why) e → P (f e)) → (c : Copier) (end : R)
        → (it : (e : Copier × Yielding (Node K V) Table) × (end ≡ f e) × Step (copier_plan hash c) e) → P end ⊎ Off
    by_copier P f on c end (e, is, s) = elim (copier_off c e s) as (λ _. P end ⊎ Off) [
      | inl free ↦ inl (subst P (sym is) (on e free))
      | inr off ↦ inr off
    ]

    -- of a call, whichever it is
    module _ (asks : K → K → Bool) (same : K → K → Bool) where
      abbrev KeyFree : KeyCall K V K × Called (Node K V) → Type 0
      KeyFree e = CallsAs (IsFor Why) (IsForDeferral Why) e

      quiet_key : (p : KeyCall K V K) (end : KeyCall K V K × Called (Node K V)) (stands : Calling) → p.stands ≡ stands → HoldsInCalling (IsFor Why) (IsForDeferral Why) p.trial.table stands
          → EndsInCalling (IsFor Why) (IsForDeferral Why) m p.trial.table stands → Step (calls_of.plan_at asks same hash p stands) end → KeyFree end ⊎ Off
      quiet_key p end stands is here ends s =
          inl (key_as (IsFor Why) (IsForDeferral Why) (memory_for Why) asks same hash p (subst (HoldsInCalling (IsFor Why) (IsForDeferral Why) p.trial.table) (sym is) here) m m2 end
          (subst (EndsInCalling (IsFor Why) (IsForDeferral Why) m p.trial.table) (sym is) ends)
          (as_step m changed.Nothing (call_plan asks same hash p) m2 told end (subst (λ (q : Calling). Step (calls_of.plan_at asks same hash p q) end) (sym is) s)))

      key_at : (p : KeyCall K V K) (end : KeyCall K V K × Called (Node K V)) (stands : Calling) → p.stands ≡ stands → Step (calls_of.plan_at asks same hash p stands) end → KeyFree end ⊎ Off
      key_at p end (calling.Helps c goal) is s =
          by_copier KeyFree (helped p goal) (calls_as.helped_as (IsFor Why) (IsForDeferral Why) p goal) c end (told_in m m2 told (helped p goal) (copier_plan hash c) end s)
      key_at p end (calling.Copies c) is s = by_copier KeyFree (copied p) (calls_as.copied_as (IsFor Why) (IsForDeferral Why) p) c end (told_in m m2 told (copied p) (copier_plan hash c) end s)
      key_at p end (calling.Firsts n) is s =
          let it = told_in m m2 told (first_made p) (new_table_plan n) end s in
          by_making KeyFree (first_made p) (λ n t. calls_as.first_as (IsFor Why) (IsForDeferral Why) p (making_at n (makes.Over t), progress.Done t) tt) it.0 (new_table_off m m2 told n it.0 it.2) end it.1
      key_at p end (calling.Allocs n) is s =
          let it = told_in m m2 told (next_made p) (new_table_plan n) end s in
          by_making KeyFree (next_made p) (λ n t. calls_as.next_as (IsFor Why) (IsForDeferral Why) p (making_at n (makes.Over t), progress.Done t) tt) it.0 (new_table_off m m2 told n it.0 it.2) end it.1
      key_at p end calling.Nexts is s = inr (subst OffRoot (sym s.1.1) tt)
      key_at p end (calling.Asks (asking.Absent gap)) is s = inr (subst OffRoot (sym s.2) tt)
      key_at p end (calling.Asks (asking.Present word)) is s = inr (subst OffRoot (sym s.2) tt)
      key_at p end (calling.Asks (asking.Fills word)) is s = quiet_key p end (calling.Asks (asking.Fills word)) is tt tt s
      key_at p end (calling.Asks (asking.GivesUp word)) is s = quiet_key p end (calling.Asks (asking.GivesUp word)) is tt tt s
      key_at p end (calling.Drops ends) is s = inr (subst OffRoot (sym s.1.1) tt)
      key_at p end (calling.Over ends) is s = inr (subst OffRoot (sym s.2) tt)
      key_at p end stands is s = quiet_key p end stands is tt tt s

      abbrev SweepFree : Sweep × Swept (Node K V) → Type 0
      SweepFree e = SweepsAs (IsFor Why) (IsForDeferral Why) e

      quiet_sweep : (c : Sweep) (end : Sweep × Swept (Node K V)) (stands : Sweeping) → c.stands ≡ stands → HoldsInSweeping (IsFor Why) (IsForDeferral Why) stands
          → EndsInSweeping (IsFor Why) (IsForDeferral Why) m stands → Step (sweeps_of.plan_at hash c stands) end → SweepFree end ⊎ Off
      quiet_sweep c end stands is here ends s =
          inl (sweep_as (IsFor Why) (IsForDeferral Why) (memory_for Why) K V hash c (subst (HoldsInSweeping (IsFor Why) (IsForDeferral Why)) (sym is) here) m m2 end
          (subst (EndsInSweeping (IsFor Why) (IsForDeferral Why) m) (sym is) ends)
          (as_step m changed.Nothing (sweep_plan hash c) m2 told end (subst (λ (q : Sweeping). Step (sweeps_of.plan_at hash c q) end) (sym is) s)))

      sweep_at : (c : Sweep) (end : Sweep × Swept (Node K V)) (stands : Sweeping) → c.stands ≡ stands → Step (sweeps_of.plan_at hash c stands) end → SweepFree end ⊎ Off
      sweep_at c end (sweeping.Copies x) is s =
          by_copier SweepFree (sweeps_of.copied c) (sweeps_as.copied_as (IsFor Why) (IsForDeferral Why) K V hash c) x end (told_in m m2 told (sweeps_of.copied c) (copier_plan hash x) end s)
      sweep_at c end (sweeping.Refused fault) is s = inr (subst OffRoot (sym s.2) tt)
      sweep_at c end stands is s = quiet_sweep c end stands is tt tt s

      abbrev RoomFree : Reserve × Yielding (Node K V) Unit → Type 0
      RoomFree e = ReservesAs (IsFor Why) (IsForDeferral Why) e

      room_at : (r : Reserve) (end : Reserve × Yielding (Node K V) Unit) (stands : Reserving) → Step (reserves.plan_at hash r stands) end → RoomFree end ⊎ Off
      room_at r end (reserving.Copies c) s =
          by_copier RoomFree (reserves.copied r) (rooms_as.copied_as (IsFor Why) (IsForDeferral Why) K V hash r) c end (told_in m m2 told (reserves.copied r) (copier_plan hash c) end s)
      room_at r end (reserving.Makes n) s =
          let it = told_in m m2 told (reserves.made r) (new_table_plan n) end s in
          by_making RoomFree (reserves.made r) (λ n t. rooms_as.made_as (IsFor Why) (IsForDeferral Why) K V hash r (making_at n (makes.Over t), progress.Done t) tt) it.0 (new_table_off m m2 told n it.0 it.2) end it.1
      room_at r end (reserving.Grows table n) s =
          let it = told_in m m2 told (reserves.grown r table) (new_table_plan n) end s in
          by_making RoomFree (reserves.grown r table) (λ n t. rooms_as.grown_as (IsFor Why) (IsForDeferral Why) K V hash r table (making_at n (makes.Over t), progress.Done t) tt) it.0 (new_table_off m m2 told n it.0 it.2) end it.1
      room_at r end (reserving.Sums table sum) s = let it = told_in m m2 told (reserves.summed r table) (sum_plan sum) end s in inr (sum_off m m2 told sum sum.stands it.0 it.2)
      room_at r end reserving.Reads s = inr (subst OffRoot (sym s.1.1) tt)
      room_at r end (reserving.Follows table need) s = inr (subst OffRoot (sym s.1.1) tt)
      room_at r end reserving.Over s = inr (subst OffRoot (sym s.2) tt)
      room_at r end (reserving.Refused fault) s = inr (subst OffRoot (sym s.2) tt)

-- So it is of the machine that it has come to, whatever that is refused for.
module _ {K V : Type 0} (m m2 : Mem (Node K V)) (told : Changed) (hash : K → ℕ) (Why : Type 0) (asks : K → K → Bool) (same : K → K → Bool) where
  pub machine_off : (before : Machine K V K) (end : Machine K V K × Progress (Node K V)) → StepsObserved K V (Machine K V K × Progress (Node K V)) m changed.Nothing (machine_plan asks same hash before) m2 told end
      → EndsThen Why K V K m m2 before end ⊎ OffRoot told
  machine_off (kinds.Key p) end s =
      let it = told_in m m2 told of_key (call_plan asks same hash p) end s in
      elim (key_at m m2 told hash Why asks same p it.0 p.stands refl it.2) as (λ _. EndsThen Why K V K m m2 (kinds.Key p) end ⊎ OffRoot told) [
        | inl free ↦ inl (subst (EndsThen Why K V K m m2 (kinds.Key p)) (sym it.1) (key_end Why K V K m m2 p it.0 free))
        | inr off ↦ inr off
      ]
  machine_off (kinds.Reserve r) end s =
      let it = told_in m m2 told of_room (reserve_plan hash r) end s in
      elim (room_at m m2 told hash (Why ⊎ NeedsMore r.additional) asks same r it.0 r.stands it.2) as (λ _. EndsThen Why K V K m m2 (kinds.Reserve r) end ⊎ OffRoot told) [
        | inl free ↦
            inl (subst (EndsThen Why K V K m m2 (kinds.Reserve r)) (sym it.1)
            (room_end Why K V K m m2 r it.0 (reserve_asks K V hash r m m2 it.0 (as_step m changed.Nothing (reserve_plan hash r) m2 told it.0 it.2)) free))
        | inr off ↦ inr off
      ]
  machine_off (kinds.Sweep c) end s =
      let it = told_in m m2 told of_sweep (sweep_plan hash c) end s in
      elim (sweep_at m m2 told hash Why asks same c it.0 c.stands refl it.2) as (λ _. EndsThen Why K V K m m2 (kinds.Sweep c) end ⊎ OffRoot told) [
        | inl free ↦ inl (subst (EndsThen Why K V K m m2 (kinds.Sweep c)) (sym it.1) (sweep_end Why K V K m m2 c it.0 free))
        | inr off ↦ inr off
      ]
  machine_off (kinds.Count sum) end s =
      let it = told_in m m2 told of_sum (sum_plan sum) end s in inr (sum_off m m2 told sum sum.stands it.0 it.2)
