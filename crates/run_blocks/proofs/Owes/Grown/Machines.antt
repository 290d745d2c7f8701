-- What a machine is to be refused for, whichever it is: as it begins, by what it is told, and by a step by which no block is refused.
use Rattle.std.specs.Prelude.{◌≡◌, ℕ, Bool, true, false}
use Rattle.std.proofs.Common.{sym, subst}
use Rattle.run_debts.specs.Given.SeizeWordsMem.{Mem}
use Rattle.run_debts.specs.Given.SeizeWordsDeclared.fault.Fault.{Fault}
use Rattle.run_debts.specs.Given.SeizeWordsDeclared.fault.Fault.TheVariants.{Capacity, RemoveNothing}
use Rattle.run_debts.specs.Given.SeizeDeclared.advance.Advance.{Advance as CountTold}
use Rattle.run_debts.specs.Given.SeizeDeclared.advance.Advance.TheVariants as counting
use Rattle.run_debts.specs.Given.TablesDeclared.node.Node.{Node}
use Rattle.run_debts.specs.Given.TablesDeclared.setting.Setting.{Setting}
use Rattle.owner_calls.specs.Given.ResizeSum.{sum_plan}
use Rattle.owner_calls.specs.Given.ResizeDeclared.yielding.Yielding.{Yielding}
use Rattle.owner_calls.specs.Given.ResizeDeclared.yielding.Yielding.TheVariants as outcome
use Rattle.owner_calls.specs.Given.ResizeDeclared.sum.Sum.{Sum}
use Rattle.owner_calls.specs.Given.ReservesReserve.{reserve_plan}
use Rattle.run_debts.specs.Given.ReservesDeclared.reserve.Reserve.{Reserve}
use Rattle.owner_calls.specs.Given.SweepsSweep.{sweep_plan}
use Rattle.run_debts.specs.Given.ReservesDeclared.sweep.Sweep.{Sweep}
use Rattle.run_debts.specs.Given.ReservesDeclared.sweep.Sweeping.{Sweeping}
use Rattle.run_debts.specs.Given.ReservesDeclared.sweep.Sweeping.TheVariants as sweeping
use Rattle.run_debts.specs.Given.ReservesDeclared.sweep.Swept.{Swept}
use Rattle.run_debts.specs.Given.ReservesDeclared.sweep.Swept.TheVariants as swept
use Rattle.owner_calls.specs.Given.RawCall.{call_plan}
use Rattle.run_debts.specs.Given.RawMachine.{machine_asked, machine_plan, machine_replied, sweep_with_reply, called as of_key, reserved as of_room, swept as of_sweep, counted as of_sum}
use Rattle.run_debts.specs.Given.RawDeclared.machines.answer.Called.{Called}
use Rattle.run_debts.specs.Given.RawDeclared.machines.answer.Called.TheVariants as called
use Rattle.run_debts.specs.Given.RawDeclared.machines.asking.MachineReply.{MachineReply}
use Rattle.run_debts.specs.Given.RawDeclared.machines.asking.MachineReply.TheVariants as reply
use Rattle.run_debts.specs.Given.RawDeclared.machines.call.KeyCall.{KeyCall}
use Rattle.run_debts.specs.Given.RawDeclared.machines.machine.Machine.{Machine}
use Rattle.run_debts.specs.Given.RawDeclared.machines.machine.Machine.TheVariants as kinds
use Rattle.run_debts.specs.Given.RawDeclared.machines.progress.Progress.{Progress}
use Rattle.run_debts.specs.Given.RawDeclared.machines.progress.Progress.TheVariants as progress
use Rattle.owner_calls.specs.Given.LateFaults.{SoInCalling, SoInReserving, SoInSweeping}
use Rattle.owner_calls.proofs.Given.LateKindsKept.Rooms.Making.{CountsOn, sum_counts}
use Rattle.owner_calls.proofs.Given.LateKindsKept.Rooms.Reserving.{ReservesFor}
use Rattle.owner_calls.proofs.Given.LateKindsKept.Rooms.Sweeping.{SweepsFor, told_so_on}
use Rattle.owner_calls.specs.Given.CallersPairs.{Given}
use Rattle.owner_calls.specs.Given.CallersOverAll.{CallOverAll}
use Rattle.run_debts.specs.Given.CallersRooms.{CallForRoom}
use Rattle.owner_calls.specs.Given.CallersTogether.{UnderWay, OnKey, ForRoom, Counting, OverAll, IsBegun, Gets, Removes, Inserts, TriesToInsert, Computes, Updates, UpdatesOrInserts, TriesToInsertWith, RemovesIf}
use Rattle.run_debts.specs.Given.EffectsDeclared.changed.Changed.{Changed}
use Rattle.run_debts.specs.Given.EffectsDeclared.changed.Changed.TheVariants as changed
use Rattle.run_debts.specs.Given.EffectsDeclared.changed.Kind.{Kind}
use Rattle.run_debts.specs.Given.FinishesMachines.{machine_of}
use Rattle.run_debts.specs.Given.FinishesMaps.{Standing}
use Rattle.run_debts.proofs.Given.OthersOutcomes.{told_in}
use Rattle.run_blocks.specs.Owes.Grown.{SoInMachine}
use Rattle.run_blocks.proofs.Owes.Grown.OnKeys.{CallsFor, key_so, key_told_so}
use Rattle.run_blocks.proofs.Owes.Grown.Within.{reserve_so, so_always, sweep_so}
use Rattle.run_blocks.proofs.Owes.Tables.Hosts.{Step}
use Rattle.run_debts.specs.Given.ScenesBeginning.{Begins}

module _ (Is : Fault → Type 0) {K V : Type 0} where
  -- what it says that is refused is so
  abbrev pub SaysSo : Progress (Node K V) → Type 0
  SaysSo (progress.Refused fault) = Is fault
  SaysSo _ = Unit {0}

  abbrev MachineFor : Machine K V K × Progress (Node K V) → Type 0
  MachineFor (machine, said) = SoInMachine Is machine × SaysSo said

  key_says : (end : KeyCall K V K × Called (Node K V)) → CallsFor Is end → MachineFor (of_key end)
  key_says (p, called.Goes) so = (so.0, tt)
  key_says (p, called.Waits) so = (so.0, tt)
  key_says (p, called.Gave value) so = (so.0, tt)
  key_says (p, called.Unstored value) so = (so.0, tt)
  key_says (p, called.Asks about) so = (so.0, tt)
  key_says (p, called.Done answer) so = (so.0, tt)
  key_says (p, called.Refused fault) so = so

  room_says : (end : Reserve × Yielding (Node K V) Unit) → ReservesFor Is end → MachineFor (of_room end)
  room_says (r, outcome.Goes) so = (so.0, tt)
  room_says (r, outcome.Waits) so = (so.0, tt)
  room_says (r, outcome.Gave value) so = (so.0, tt)
  room_says (r, outcome.Done end) so = (so.0, tt)
  room_says (r, outcome.Refused fault) so = so

  sweep_says : (end : Sweep × Swept (Node K V)) → SweepsFor Is end → MachineFor (of_sweep end)
  sweep_says (c, swept.Goes) so = (so.0, tt)
  sweep_says (c, swept.Waits) so = (so.0, tt)
  sweep_says (c, swept.Gave value) so = (so.0, tt)
  sweep_says (c, swept.Ready) so = (so.0, tt)
  sweep_says (c, swept.Pair word) so = (so.0, tt)
  sweep_says (c, swept.Asks word) so = (so.0, tt)
  sweep_says (c, swept.Done) so = (so.0, tt)
  sweep_says (c, swept.Refused fault) so = so

-- a counting is refused for nothing, and one over all pairs that is told what it asks
module _ (Is : Fault → Type 0) where
  sum_says : (K V : Type 0) (end : Sum × CountTold ℕ) → CountsOn end → MachineFor Is {K = K} {V = V} (of_sum end)
  sum_says K V (sum, counting.Goes) on = (tt, tt)
  sum_says K V (sum, counting.Waits) on = (tt, tt)
  sum_says K V (sum, counting.Done count) on = (tt, tt)
  sum_says K V (sum, counting.Refused fault) on = absurd on

  sweep_told_so : {V : Type 0} (q : Sweeping) (c : Sweep) (told : MachineReply V) → SoInSweeping Is c.stands → SoInSweeping Is (sweep_with_reply q c told).0.stands
  sweep_told_so (sweeping.Asks word) c reply.Yes so = (told_so_on Is c so).1 true
  sweep_told_so (sweeping.Asks word) c reply.No so = (told_so_on Is c so).1 false
  sweep_told_so _ c told so = so

module _ (Is : Fault → Type 0) {K V : Type 0} where
  -- a walk that is asked for its next pair
  pub asked_so : (y : Machine K V K) → SoInMachine Is y → SoInMachine Is (machine_asked y).0
  asked_so (kinds.Sweep c) so = (told_so_on Is c so).0
  asked_so (kinds.Key p) so = so
  asked_so (kinds.Reserve r) so = so
  asked_so (kinds.Count sum) so = so

  -- and one that is told what it asks
  pub replied_so : Is RemoveNothing → (y : Machine K V K) (told : MachineReply V) → SoInMachine Is y → SoInMachine Is (machine_replied y told).0
  replied_so nothing (kinds.Key p) told so = key_told_so Is nothing p so told
  replied_so nothing (kinds.Sweep c) told so = sweep_told_so Is c.stands c told so
  replied_so nothing (kinds.Reserve r) told so = so
  replied_so nothing (kinds.Count sum) told so = so

  -- one that begins has nothing to tell
  key_begins : (same : K → K → Bool) (hash : K → ℕ) (setting : Setting) (slot : ℕ → ℕ) (i : ℕ) (keys : K → Bool) (given : Given K V) (call : KeyCall K V K)
      → IsBegun V same hash same setting slot i keys given call → SoInCalling Is call.stands
  key_begins same hash setting slot i keys given call (Gets q code few class) = tt
  key_begins same hash setting slot i keys given call (Removes q code few class) = tt
  key_begins same hash setting slot i keys given call (Inserts key value) = tt
  key_begins same hash setting slot i keys given call (TriesToInsert key value) = tt
  key_begins same hash setting slot i keys given call (Computes key) = tt
  key_begins same hash setting slot i keys given call (Updates key) = tt
  key_begins same hash setting slot i keys given call (UpdatesOrInserts key absent) = tt
  key_begins same hash setting slot i keys given call (TriesToInsertWith key) = tt
  key_begins same hash setting slot i keys given call (RemovesIf q code few class) = tt

  pub begins_so : (same : K → K → Bool) (standing : Standing K) (i : ℕ) (u : UnderWay K V K) → Begins same standing i u → SoInMachine Is (machine_of u)
  begins_so same standing i (OnKey u) begins = key_begins same standing.hash standing.setting _ i u.keys u.pair u.call begins.0
  begins_so same standing i (ForRoom r) begins = subst (λ (x : CallForRoom). SoInReserving Is x.reserve.stands) (sym begins.1) tt
  begins_so same standing i (Counting sum) begins = tt
  begins_so same standing i (OverAll o) begins = subst (λ (x : CallOverAll). SoInSweeping Is x.sweep.stands) (sym begins.1) tt

  -- a step by which no block is refused
  module _ (long : Is Capacity) (m m2 : Mem (Node K V)) (told : Changed) (unrefused : (k : Kind) → told ≡ changed.Unmade k → ⊥) (asks : K → K → Bool) (same : K → K → Bool) (hash : K → ℕ)
      (machine : Machine K V K) (said : Progress (Node K V)) where
    pub machine_so : (before : Machine K V K) → SoInMachine Is before → Step m m2 told (machine_plan asks same hash before) (machine, said) → SoInMachine Is machine × SaysSo Is said
    machine_so (kinds.Key p) so s =
        let it = told_in m m2 told of_key (call_plan asks same hash p) (machine, said) s in
        subst (MachineFor Is) (sym it.1) (key_says Is it.0 (key_so Is long m m2 told unrefused asks same hash p so it.0 it.2))
    machine_so (kinds.Reserve r) so s =
        let it = told_in m m2 told of_room (reserve_plan hash r) (machine, said) s in
        subst (MachineFor Is) (sym it.1) (room_says Is it.0 (reserve_so Is long m m2 told unrefused hash r so it.0 it.2))
    machine_so (kinds.Sweep c) so s =
        let it = told_in m m2 told of_sweep (sweep_plan hash c) (machine, said) s in
        subst (MachineFor Is) (sym it.1) (sweep_says Is it.0 (sweep_so Is long m m2 told unrefused hash c so it.0 it.2))
    machine_so (kinds.Count sum) so s =
        let it = told_in m m2 told of_sum (sum_plan sum) (machine, said) s in
        subst (MachineFor Is) (sym it.1) (sum_says Is K V it.0 (so_always Is long m m2 told unrefused CountsOn (sum_plan sum) it.0 (sum_counts (Node K V) sum) it.2))
