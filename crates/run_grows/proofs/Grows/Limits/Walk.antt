-- A step of a call is refused for the length of a table as that was to be, whichever kind of call it is; and so is one that goes on by a reply, or as it is asked for its next pair.
use Rattle.std.specs.Prelude.{◌≡◌, ◌⊎◌, ◌≤◌, ◌<◌, ◌^◌, ℕ, Bool, true, false, nat_lt, if◌then◌else◌}
use Rattle.std.proofs.Common.{refl, sym, subst, inl, inr}
use Rattle.run_finds.specs.Given.SeizeWordsMem.{Mem, Took, value_at}
use Rattle.run_finds.specs.Given.SeizeWordsPlan.{Steps}
use Rattle.run_finds.specs.Given.SeizeWordsDeclared.fault.Fault.TheVariants.{Capacity, Memory}
use Rattle.run_finds.proofs.Given.SeizeRuleRows.Leaving.{steps_back}
use Rattle.papaya_raw.specs.Given.SeizeDeclared.advance.Advance.{Advance as Counting}
use Rattle.papaya_raw.specs.Given.SeizeDeclared.advance.Advance.TheVariants as counting
use Rattle.papaya_raw.specs.Given.TablesDeclared.node.Node.{Node}
use Rattle.papaya_raw.specs.Given.TablesDeclared.setting.Setting.{Setting}
use Rattle.papaya_raw.specs.Given.TablesDeclared.table.Table.{Table}
use Rattle.run_finds.specs.Given.ResizeSum.{sum_plan}
use Rattle.run_finds.specs.Given.ResizeDeclared.yielding.Yielding.{Yielding}
use Rattle.run_finds.specs.Given.ResizeDeclared.yielding.Yielding.TheVariants as outcome
use Rattle.run_finds.specs.Given.ResizeDeclared.sum.Sum.{Sum}
use Rattle.papaya_raw.specs.Given.ReservesReserve.{enough, needed, plan_at as room_at, refusing, reserve_plan, standing, summed}
use Rattle.papaya_raw.specs.Given.ReservesDeclared.reserve.Reserve.{Reserve}
use Rattle.papaya_raw.specs.Given.ReservesDeclared.reserve.Reserving.{Reserving}
use Rattle.papaya_raw.specs.Given.ReservesDeclared.reserve.Reserving.TheVariants as reserving
use Rattle.papaya_raw.specs.Given.SweepsSweep.{sweep_plan}
use Rattle.papaya_raw.specs.Given.ReservesDeclared.sweep.Sweep.{Sweep}
use Rattle.papaya_raw.specs.Given.ReservesDeclared.sweep.Sweeping.{Sweeping}
use Rattle.papaya_raw.specs.Given.ReservesDeclared.sweep.Sweeping.TheVariants as sweeping
use Rattle.papaya_raw.specs.Given.ReservesDeclared.sweep.Swept.{Swept}
use Rattle.papaya_raw.specs.Given.ReservesDeclared.sweep.Swept.TheVariants as swept
use Rattle.papaya_raw.specs.Call.{call_plan}
use Rattle.papaya_raw.specs.Machine.{called as of_key, counted as of_sum, machine_asked, machine_plan, machine_replied, reserved as of_room, swept as of_sweep, sweep_with_reply}
use Rattle.papaya_raw.specs.declared.machines.answer.Called.{Called}
use Rattle.papaya_raw.specs.declared.machines.answer.Called.TheVariants as called
use Rattle.papaya_raw.specs.declared.machines.asking.MachineReply.{MachineReply}
use Rattle.papaya_raw.specs.declared.machines.asking.MachineReply.TheVariants as reply
use Rattle.papaya_raw.specs.declared.machines.call.KeyCall.{KeyCall}
use Rattle.papaya_raw.specs.declared.machines.machine.Machine.{Machine}
use Rattle.papaya_raw.specs.declared.machines.machine.Machine.TheVariants as kinds
use Rattle.papaya_raw.specs.declared.machines.progress.Progress.{Progress}
use Rattle.run_finds.proofs.Given.RuleKeys.Always.{always_steps}
use Rattle.run_finds.specs.Given.LateEnds.{EndsInCalling, EndsInReserving, EndsInSweeping, EndsSo}
use Rattle.run_finds.specs.Given.LateFaults.{RefusesSo, HoldsInSweeping, SweepRefusesSo}
use Rattle.papaya_raw.proofs.Given.TablesEnds.{only_the_last_ends}
use Rattle.run_finds.proofs.Given.LateKindsKept.Rooms.Asks.{reserve_asks}
use Rattle.run_finds.proofs.Given.LateKindsKept.Rooms.Bound.{Keeps, calling_on, reserving_on, sweeping_on}
use Rattle.run_finds.proofs.Given.LateKindsKept.Rooms.Calling.{CallsAs, key_as, key_told_as}
use Rattle.run_finds.proofs.Given.LateKindsKept.Rooms.Making.{CountsOn, sum_counts}
use Rattle.run_finds.proofs.Given.LateKindsKept.Rooms.Reserving.{ReservesAs, reserve_as}
use Rattle.run_finds.proofs.Given.LateKindsKept.Rooms.Sweeping.{SweepsAs, sweep_as, told_as_on}
use Rattle.run_grows.specs.Grows.Limits.{IsFor, IsForDeferral, MachineEnds, NeedsMore, RoomEnds, SaysFor}
use Rattle.run_finds.specs.Given.ScenesStepping.{has_ended}
use Rattle.run_finds.proofs.Given.General.{less_not as at_least}

module _ (Why : Type 0) where
  -- the fault is another one
  pub memory_for : IsFor Why Memory
  memory_for is = absurd (cc is)

  -- where none can follow, for this
  pub ends_for : (setting : Setting) → setting.initial ≤ 2 ^ 48 → EndsSo (IsFor Why) (IsForDeferral Why) setting
  ends_for setting fits before reason count last none is = last.1 (only_the_last_ends reason before.len before.turn count setting.initial last.0 fits none)

module _ (Why Why2 : Type 0) (leads : Why → Why2) where
  pub keeps_for : Keeps (IsFor Why) (IsFor Why2) (IsForDeferral Why) (IsForDeferral Why2)
  keeps_for = ((λ fault so is. leads (so is)), (λ before reason so. (so.0, λ none. leads (so.1 none))))

  pub room_more : (p : Reserving) → RoomEnds Why p → RoomEnds Why2 p
  room_more p so = reserving_on (IsFor Why) (IsFor Why2) (IsForDeferral Why) (IsForDeferral Why2) p (λ bound. keeps_for) so

-- what is for one thing is for another one that follows from it
pub machine_for : {K V Q : Type 0} (Why Why2 : Type 0) → (Why → Why2) → (machine : Machine K V Q) → MachineEnds Why machine → MachineEnds Why2 machine
machine_for Why Why2 leads (kinds.Key p) so = calling_on (IsFor Why) (IsFor Why2) (IsForDeferral Why) (IsForDeferral Why2) p.trial.table p.stands (λ bound. keeps_for Why Why2 leads) so
machine_for Why Why2 leads (kinds.Reserve r) so = room_more (Why ⊎ NeedsMore r.additional) (Why2 ⊎ NeedsMore r.additional) more r.stands so
  where
    more : Why ⊎ NeedsMore r.additional → Why2 ⊎ NeedsMore r.additional
    more (inl why) = inl (leads why)
    more (inr needs) = inr needs
machine_for Why Why2 leads (kinds.Sweep c) so = sweeping_on (IsFor Why) (IsFor Why2) (IsForDeferral Why) (IsForDeferral Why2) c.stands (λ bound. keeps_for Why Why2 leads) so
machine_for Why Why2 leads (kinds.Count sum) so = tt

-- By what a step finds in its memory.
module _ (Why : Type 0) (K V Q : Type 0) (m m2 : Mem (Node K V)) where
  abbrev pub MachineMayEnd : Machine K V Q → Type 0
  MachineMayEnd (kinds.Key p) = EndsInCalling (IsFor Why) (IsForDeferral Why) m p.trial.table p.stands
  MachineMayEnd (kinds.Reserve r) = EndsInReserving (IsFor (Why ⊎ NeedsMore r.additional)) (IsForDeferral (Why ⊎ NeedsMore r.additional)) m m2 r r.stands
  MachineMayEnd (kinds.Sweep c) = EndsInSweeping (IsFor Why) (IsForDeferral Why) m c.stands
  MachineMayEnd (kinds.Count sum) = Unit {0}

  -- what it is refused for then
  abbrev pub WhyOf : Machine K V Q → Type 0
  WhyOf (kinds.Reserve r) = Why ⊎ NeedsMore r.additional
  WhyOf _ = Why

  abbrev pub EndsThen : Machine K V Q → Machine K V Q × Progress (Node K V) → Type 0
  EndsThen before end = MachineEnds Why end.0 × SaysFor (WhyOf before) end.1

  pub key_end : (p : KeyCall K V Q) (e : KeyCall K V Q × Called (Node K V)) → CallsAs (IsFor Why) (IsForDeferral Why) e → EndsThen (kinds.Key p) (of_key e)
  key_end p (q, called.Refused fault) so = so
  key_end p (q, called.Goes) so = (so.0, tt)
  key_end p (q, called.Waits) so = (so.0, tt)
  key_end p (q, called.Asks word) so = (so.0, tt)
  key_end p (q, called.Gave value) so = (so.0, tt)
  key_end p (q, called.Unstored value) so = (so.0, tt)
  key_end p (q, called.Done answer) so = (so.0, tt)

  pub room_end : (r : Reserve) (e : Reserve × Yielding (Node K V) Unit) → e.0.additional ≡ r.additional → ReservesAs (IsFor (Why ⊎ NeedsMore r.additional)) (IsForDeferral (Why ⊎ NeedsMore r.additional)) e
      → EndsThen (kinds.Reserve r) (of_room e)
  room_end r (q, told) asks_on so = (subst (λ (n : ℕ). RoomEnds (Why ⊎ NeedsMore n) q.stands) (sym asks_on) so.0, says told so.1)
    where
      says : (told : Yielding (Node K V) Unit) → RefusesSo (IsFor (Why ⊎ NeedsMore r.additional)) told → SaysFor (Why ⊎ NeedsMore r.additional) (of_room {K = K} {V = V} {Q = Q} (q, told)).1
      says outcome.Goes so = tt
      says outcome.Waits so = tt
      says (outcome.Gave value) so = tt
      says (outcome.Done done) so = tt
      says (outcome.Refused fault) so = so

  pub sweep_end : (c : Sweep) (e : Sweep × Swept (Node K V)) → SweepsAs (IsFor Why) (IsForDeferral Why) e → EndsThen (kinds.Sweep c) (of_sweep e)
  sweep_end c (q, told) so = (so.0, says told so.1)
    where
      says : (told : Swept (Node K V)) → SweepRefusesSo (IsFor Why) told → SaysFor Why (of_sweep {K = K} {V = V} {Q = Q} (q, told)).1
      says (swept.Refused fault) so = so
      says swept.Goes so = tt
      says swept.Waits so = tt
      says (swept.Gave value) so = tt
      says swept.Ready so = tt
      says (swept.Pair word) so = tt
      says (swept.Asks word) so = tt
      says swept.Done so = tt

  sum_end : (sum : Sum) (e : Sum × Counting ℕ) → CountsOn e → EndsThen (kinds.Count sum) (of_sum e)
  sum_end sum (next, counting.Goes) on = (tt, tt)
  sum_end sum (next, counting.Waits) on = (tt, tt)
  sum_end sum (next, counting.Done count) on = (tt, tt)
  sum_end sum (next, counting.Refused fault) on = absurd on

  -- The promise: so it is after it, and of what it says.
  module _ (asks : Q → K → Bool) (same : K → K → Bool) (hash : K → ℕ) where
    pub machine_ends : (machine : Machine K V Q) → MachineEnds Why machine → MachineMayEnd machine → (end : Machine K V Q × Progress (Node K V)) → Steps Took value_at m (machine_plan asks same hash machine) m2 end
        → EndsThen machine end
    machine_ends (kinds.Key p) so may end s =
        let d = steps_back of_key m m2 (call_plan asks same hash p) end s in
        subst (EndsThen (kinds.Key p)) (sym d.2) (key_end p d.0 (key_as (IsFor Why) (IsForDeferral Why) (memory_for Why) asks same hash p so m m2 d.0 may d.1))
    machine_ends (kinds.Reserve r) so may end s =
        let d = steps_back of_room m m2 (reserve_plan hash r) end s in
        subst (EndsThen (kinds.Reserve r)) (sym d.2)
        (room_end r d.0 (reserve_asks K V hash r m m2 d.0 d.1)
        (reserve_as (IsFor (Why ⊎ NeedsMore r.additional)) (IsForDeferral (Why ⊎ NeedsMore r.additional)) (memory_for (Why ⊎ NeedsMore r.additional)) K V hash r so m m2 d.0 may d.1))
    machine_ends (kinds.Sweep c) so may end s =
        let d = steps_back of_sweep m m2 (sweep_plan hash c) end s in
        subst (EndsThen (kinds.Sweep c)) (sym d.2) (sweep_end c d.0 (sweep_as (IsFor Why) (IsForDeferral Why) (memory_for Why) K V hash c so m m2 d.0 may d.1))
    machine_ends (kinds.Count sum) so may end s = let d = steps_back of_sum m m2 (sum_plan sum) end s in subst (EndsThen (kinds.Count sum)) (sym d.2) (sum_end sum d.0 (always_steps CountsOn m m2 (sum_plan sum) d.0 (sum_counts (Node K V) sum) d.1))

-- By a reply, or as it is asked for its next pair.
module _ (Why : Type 0) (K V Q : Type 0) where
  sweep_told_for : (stands : Sweeping) (c : Sweep) (told : MachineReply V) → HoldsInSweeping (IsFor Why) (IsForDeferral Why) c.stands → HoldsInSweeping (IsFor Why) (IsForDeferral Why) (sweep_with_reply stands c told).0.stands
  sweep_told_for (sweeping.Asks word) c reply.Yes so = (told_as_on (IsFor Why) (IsForDeferral Why) c so).1 true
  sweep_told_for (sweeping.Asks word) c reply.No so = (told_as_on (IsFor Why) (IsForDeferral Why) c so).1 false
  sweep_told_for (sweeping.Asks word) c (reply.Insert value) so = so
  sweep_told_for (sweeping.Asks word) c reply.Remove so = so
  sweep_told_for (sweeping.Asks word) c reply.Abort so = so
  sweep_told_for _ c told so = so

  pub reply_ends : (machine : Machine K V Q) (told : MachineReply V) → MachineEnds Why machine → MachineEnds Why (machine_replied machine told).0
  reply_ends (kinds.Key p) told so = key_told_as (IsFor Why) (IsForDeferral Why) (λ is. absurd (cc is)) p so told
  reply_ends (kinds.Sweep c) told so = sweep_told_for c.stands c told so
  reply_ends (kinds.Reserve r) told so = so
  reply_ends (kinds.Count sum) told so = tt

  pub asked_ends : (machine : Machine K V Q) → MachineEnds Why machine → MachineEnds Why (machine_asked machine).0
  asked_ends (kinds.Sweep c) so = (told_as_on (IsFor Why) (IsForDeferral Why) c so).0
  asked_ends (kinds.Key p) so = so
  asked_ends (kinds.Reserve r) so = so
  asked_ends (kinds.Count sum) so = tt

-- A reservation that has come to a count by which it needs too many places,
abbrev pub SummedAt : {T : Type 0} → Mem T → Mem T → Reserve → Reserving → Type 0
SummedAt {T} m m2 r (reserving.Sums table sum) =
    (after : Sum) × (count : ℕ) × Steps Took value_at m (sum_plan {T = T} sum) m2 (after, counting.Done count) × (2 ^ 48 < needed r.additional count)
SummedAt m m2 r _ = ⊥

abbrev pub SummedIn : {K V Q T : Type 0} → Mem T → Mem T → Machine K V Q → Type 0
SummedIn m m2 (kinds.Reserve r) = SummedAt m m2 r r.stands
SummedIn m m2 _ = ⊥

-- is refused at once: what goes on is as it was to be.
module _ (Why : Type 0) (K V Q : Type 0) (m m2 : Mem (Node K V)) (asks : Q → K → Bool) (same : K → K → Bool) (hash : K → ℕ) where
  abbrev Which : (r : Reserve) → Reserve × Yielding (Node K V) Unit → Type 0
  Which r e = has_ended (of_room {K = K} {V = V} {Q = Q} e).1 ≡ false → RoomEnds (Why ⊎ NeedsMore e.0.additional) e.0.stands

  enough_on : (r : Reserve) (table : Table) (need : ℕ) → Which r (enough r table need)
  enough_on r table need = by (nat_lt (2 ^ 48) need) (nat_lt table.len need) refl
    where
      by : (long short : Bool) → nat_lt (2 ^ 48) need ≡ long
          → Which r (if long then refusing r Capacity else (if short then (standing r (reserving.Follows table need), outcome.Goes) else (standing r reserving.Over, outcome.Done tt)))
      by true short e = λ goes. absurd (cc goes)
      by false true e = λ goes. at_least (2 ^ 48) need e
      by false false e = λ goes. tt

  summed_on : (r : Reserve) (table : Table) (e : Sum × Counting ℕ) → CountsOn e → Which r (summed r table e)
  summed_on r table (sum, counting.Goes) on = λ goes. tt
  summed_on r table (sum, counting.Waits) on = λ goes. tt
  summed_on r table (sum, counting.Done count) on = enough_on r table (needed r.additional count)
  summed_on r table (sum, counting.Refused fault) on = absurd on

  less : (additional : ℕ) → (Why ⊎ ⊥) ⊎ NeedsMore additional → Why ⊎ NeedsMore additional
  less additional (inl (inl why)) = inl why
  less additional (inl (inr none)) = absurd none
  less additional (inr needs) = inr needs

  room_on : (r : Reserve) (e : Reserve × Yielding (Node K V) Unit) (stands : Reserving) → Steps Took value_at m (room_at hash r stands) m2 e
      → RoomEnds ((Why ⊎ SummedAt m m2 r stands) ⊎ NeedsMore e.0.additional) e.0.stands → Which r e
  room_on r e (reserving.Sums table sum) s so =
      let d = steps_back (summed r table) m m2 (sum_plan sum) e s in
      subst (Which r) (sym d.2) (summed_on r table d.0 (always_steps CountsOn m m2 (sum_plan sum) d.0 (sum_counts (Node K V) sum) d.1))
  room_on r e _ s so = λ goes. room_more ((Why ⊎ ⊥) ⊎ NeedsMore e.0.additional) (Why ⊎ NeedsMore e.0.additional) (less e.0.additional) e.0.stands so

  none_summed : Why ⊎ ⊥ → Why
  none_summed (inl why) = why
  none_summed (inr none) = absurd none

  abbrev OnWhere : Type 0 → Machine K V Q × Progress (Node K V) → Type 0
  OnWhere Before end = MachineEnds Before end.0 → has_ended end.1 ≡ false → MachineEnds Why end.0

  of_rooms : (r : Reserve) (e : Reserve × Yielding (Node K V) Unit) → Steps Took value_at m (reserve_plan hash r) m2 e → OnWhere (Why ⊎ SummedAt m m2 r r.stands) (of_room e)
  of_rooms r (q, told) s = λ so goes. room_on r (q, told) r.stands s so goes

  pub machine_on : (machine : Machine K V Q) (end : Machine K V Q × Progress (Node K V)) → Steps Took value_at m (machine_plan asks same hash machine) m2 end → OnWhere (Why ⊎ SummedIn m m2 machine) end
  machine_on (kinds.Key p) end s = λ so goes. machine_for (Why ⊎ ⊥) Why none_summed end.0 so
  machine_on (kinds.Sweep c) end s = λ so goes. machine_for (Why ⊎ ⊥) Why none_summed end.0 so
  machine_on (kinds.Count sum) end s = λ so goes. machine_for (Why ⊎ ⊥) Why none_summed end.0 so
  machine_on (kinds.Reserve r) end s =
      let d = steps_back of_room m m2 (reserve_plan hash r) end s in subst (OnWhere (Why ⊎ SummedAt m m2 r r.stands)) (sym d.2) (of_rooms r d.0 d.1)
