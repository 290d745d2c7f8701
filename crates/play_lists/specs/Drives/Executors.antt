-- What an executor does, it does by acts: where it is, its acts have led. All its maps have its hasher.
use Rattle.std.specs.Prelude.{◌≡◌, ℕ, ◌+◌, ◌<◌, ◌≤◌, ◌^◌, length, max, Bool, None, Some, Result}
use Rattle.std.specs.Int.{IsPowerOfTwo}
use Rattle.seize.specs.declared.advance.Advance.{Advance}
use Rattle.seize.specs.declared.rows.settle.Settled.{Settled}
use Rattle.seize_acts.specs.Acts.Answers.{Grant, stepped}
use Rattle.run_schedules.specs.Given.SeizeWordsPlan.{Plan}
use Rattle.seize.specs.Enter.{enter_plan, unregister_plan}
use Rattle.seize.specs.Leave.{leave_plan}
use Rattle.seize.specs.Register.{register_plan}
use Rattle.seize.specs.Settle.{settle_plan}
use Rattle.seize.specs.declared.rows.enter.Enter.{Enter}
use Rattle.seize.specs.declared.rows.enter.Unregister.{Unregister}
use Rattle.seize.specs.declared.rows.leave.Leave.{Leave}
use Rattle.seize.specs.declared.rows.register.Register.{Register}
use Rattle.seize.specs.declared.rows.settle.Settle.{Settle}
use Rattle.map_tables.specs.Nodes.{deferred_word}
use Rattle.run_kept.specs.Given.ResizeNewMap.{new_map_plan}
use Rattle.run_schedules.specs.Given.RawEndMap.{end_map_plan}
use Rattle.run_finds.specs.Given.RawMachine.{machine_plan}
use Rattle.map_tables.specs.Lengths.{IsTableLen}
use Rattle.map_tables.specs.declared.node.Node.{Node}
use Rattle.map_tables.specs.declared.setting.Setting.{Setting}
use Rattle.run_finds.specs.Given.RawDeclared.machines.asking.MachineReply.{MachineReply}
use Rattle.run_finds.specs.Given.RawDeclared.machines.machine.Machine.{Machine}
use Rattle.run_finds.specs.Given.RawDeclared.machines.progress.Progress.{Progress as CallProgress}
use Rattle.many_acts.specs.Given.PointsSteps.{AreLawful}
use Rattle.many_acts.specs.Given.CallersTogether.{UnderWay}
use Rattle.many_acts.specs.Given.FinishesEndings.{Finishing}
use Rattle.many_acts.specs.Given.FinishesMachines.{machine_of}
use Rattle.many_acts.specs.Given.FinishesMakings.{Beginning}
use Rattle.many_acts.specs.Given.FinishesMaps.{Standing}
use Rattle.run_finds.specs.Given.ExecutorDeclared.executor.Executor.{Executor}
use Rattle.many_acts.specs.Given.ScenesDeclared.row.RowTold.{RowTold}
use Rattle.many_acts.specs.Given.ScenesDeclared.row.SlotCall.{SlotCall}
use Rattle.many_acts.specs.Given.ScenesDeclared.row.SlotRow.{SlotRow}
use Rattle.many_acts.specs.Given.ScenesDeclared.row.SlotRow.TheVariants as rows
use Rattle.many_acts.specs.Given.ScenesDeclared.row.SlotUse.TheVariants as used
use Rattle.run_finds.specs.Given.ExecutorDeclared.worker.Work.TheVariants as work
use Rattle.many_acts.specs.Acts.Acts.{Act, Answer, Nothing, OfCall, OfReply, OfAsking, OfMaking, OfEnding, Wanted, begun, BeginsCall, StepsCall, TellsCall, AsksCall, StopsCall, BeginsMaking, StepsMaking, BeginsEnding, StepsEnding, BeginsRow, StepsRow}
use Rattle.many_acts.specs.Acts.AsSteps.{changed_by, changed_of}
use Rattle.many_acts.specs.Acts.Leads.{AllStand, Led, MayBe}
use Rattle.run_finds.specs.Given.ExecutorBeginning.{BeginsThere}
use Rattle.run_finds.specs.Given.ExecutorEnding.{EndingBegins, EndsThere, NoCallOn}
use Rattle.run_finds.specs.Given.ExecutorIsThere.{IsThere, StaysGiven, use_at, work_of}
use Rattle.run_finds.specs.Given.ExecutorMaking.{MakesThere}
use Rattle.run_finds.specs.Given.ExecutorMakingBegins.{MakingBegins}
use Rattle.run_finds.specs.Given.ExecutorOnSlots.{MayBegin, RowBeginsThere, RowStepsThere}
use Rattle.run_finds.specs.Given.ExecutorReplying.{AsksThere, RepliesThere, StopsThere}
use Rattle.run_finds.specs.Given.ExecutorStepping.{StepsThere}
use Rattle.many_acts.specs.Given.ScenesBeginning.{Begins}
use Rattle.many_acts.specs.Given.ScenesRows.{of_registering, of_settling, of_storing, request_of}
use Rattle.many_acts.specs.Given.ScenesScene.{Scene, slot_of}

module _ {K V S : Type 0} (e e2 : Executor K V S) where
  -- a step of this plan, in the memory of the first executor, is computed to this outcome, in that of the second, with this choice, and so is what it has changed
  abbrev pub IsComputed : {R : Type 0} → Plan (Node K V) R → R → Grant → Type 0
  IsComputed plan end g = (stepped e.memory.memory g plan ≡ Some (e2.memory.memory, end)) × (changed_of e.memory.memory g plan ≡ e2.memory.changed)

  -- so it is of a machine that tells this
  abbrev pub Computes : {M P : Type 0} → Plan (Node K V) (M × P) → P → Grant → Type 0
  Computes {M} plan told g = (machine : M) × IsComputed plan (machine, told) g

  -- and of a row, whichever it is, that tells this
  abbrev pub RowIsComputed : SlotRow → RowTold (Node K V) → Grant → Type 0
  RowIsComputed (rows.Registers c) told g = (end : Register × Advance ℕ) × IsComputed (register_plan c) end g × (told ≡ of_registering end.1)
  RowIsComputed (rows.Enters c) told g = (end : Enter × Advance Unit) × IsComputed (enter_plan c) end g × (told ≡ of_storing end.1)
  RowIsComputed (rows.Leaves c) told g = (end : Leave × Settled (Node K V)) × IsComputed (leave_plan deferred_word c) end g × (told ≡ of_settling end.1)
  RowIsComputed (rows.Flushes c) told g = (end : Settle × Settled (Node K V)) × IsComputed (settle_plan deferred_word c) end g × (told ≡ of_settling end.1)
  RowIsComputed (rows.Frees c) told g = (end : Unregister × Advance Unit) × IsComputed (unregister_plan c) end g × (told ≡ of_storing end.1)

module _ {K V S : Type 0} (same : K → K → Bool) (hash : S → K → ℕ) (e e2 : Executor K V S) (s : Scene K V) where
  -- In this scene, in which the first executor is, the act may be made, and tells this: it leads to one in which the second is; and so is each one to which it
  -- leads, where the invariant of all holds.
  pub record IsAct (act : Act K V S) (told : Answer K V) : Type 0 where
    pub may : MayBe same hash e.batch_size e.roots slot_of act s
    pub to : Scene K V
    pub led : Led same hash e.batch_size e.roots slot_of act s told to
    pub there : IsThere same (hash e.hasher) e2 to
    pub wherever : (n : Scene K V) (said : Answer K V) → AllStand same hash e.batch_size e.roots slot_of n → Led same hash e.batch_size e.roots slot_of act s said n
        → (said ≡ told) × IsThere same (hash e.hasher) e2 n

  -- and what its one operation has changed is what the memory of the second tells
  abbrev pub IsStep : Act K V S → Answer K V → Type 0
  IsStep act told = IsAct act told × (changed_by same act s ≡ e2.memory.changed)

  -- So it is of a step that is computed with whichever choice of the memory; and there is one.
  abbrev pub AreSteps : (Grant → Type 0) → (Grant → Act K V S) → Answer K V → Type 0
  AreSteps Computed act told = ((g : Grant) × Computed g) × ((g : Grant) → Computed g → IsStep (act g) told)

  -- The promise of what callers do with calls: they begin, and take steps, they are told something, asked for a pair, or given up.
  pub record CallsAreActs (i : ℕ) : Type 0 where
    pub begin : (m : ℕ) (machine : Machine K V K) → BeginsThere same (hash e.hasher) m machine i s e e2 → work_of e i ≡ None → (standing : Standing K) → s.maps m ≡ Some standing
        → use_at e (slot_of i) ≡ used.Inside → (wanted : Wanted K V) → machine_of (begun same slot_of standing i wanted) ≡ machine → IsAct (BeginsCall i m wanted) Nothing
    pub begun_so : (m : ℕ) (standing : Standing K) → s.maps m ≡ Some standing → (u : UnderWay K V K) → Begins same standing i u → (wanted : Wanted K V) × (begun same slot_of standing i wanted ≡ u)
    pub step : (told : CallProgress (Node K V)) → StepsThere same (hash e.hasher) i told s e e2 → (m : ℕ) (u : UnderWay K V K) → s.calls m i ≡ Some u
        → AreSteps (Computes e e2 (machine_plan same same (hash e.hasher) (machine_of u)) told) (StepsCall i m) (OfCall told)
    pub reply : (told : MachineReply V) (result : Result Unit (MachineReply V)) → RepliesThere same (hash e.hasher) i told result s e e2 → (m : ℕ) (u : UnderWay K V K) → s.calls m i ≡ Some u → IsAct (TellsCall i m told) (OfReply result)
    pub ask : (ready : Bool) → AsksThere same (hash e.hasher) i ready s e e2 → (m : ℕ) (u : UnderWay K V K) → s.calls m i ≡ Some u → IsAct (AsksCall i m) (OfAsking ready)
    pub stop : (stopped : Bool) → StopsThere same (hash e.hasher) i stopped s e e2 → (m : ℕ) (u : UnderWay K V K) → s.calls m i ≡ Some u → IsAct (StopsCall i m) (OfAsking stopped)

  -- Of makings, of ends of maps, and of rows on slots.
  pub record OthersAreActs (i : ℕ) : Type 0 where
    pub making_begins : (given : Setting) (places : ℕ) → MakingBegins same (hash e.hasher) given places i s e e2 → work_of e i ≡ None → AreLawful same (hash e.hasher) → IsPowerOfTwo given.initial
        → given.batch_size ≡ e.batch_size → given.mask + 1 < 2 ^ 64 → 0 < e.roots → (max places 8 ≤ 2 ^ 48 → IsTableLen (max places 8))
        → IsAct (BeginsMaking i (length e.maps.items) e.hasher given places) Nothing
    pub making : (told : Advance Setting) → MakesThere same (hash e.hasher) i told s e e2 → (b : Beginning K) → s.makers i ≡ Some b
        → AreSteps (Computes e e2 (new_map_plan {K = K} {V = V} b.machine) told) (StepsMaking i) (OfMaking told)
    pub ending_begins : (m : ℕ) → EndingBegins same (hash e.hasher) m i s e e2 → work_of e i ≡ None → NoCallOn e m → IsAct (BeginsEnding i m) Nothing
    pub ending : (told : Settled (Node K V)) → EndsThere same (hash e.hasher) i told s e e2 → (f : Finishing K V) → s.enders i ≡ Some f
        → AreSteps (Computes e e2 (end_map_plan {K = K} {V = V} f.machine) told) (StepsEnding i) (OfEnding told)
    pub row_begins : (call : SlotCall) → RowBeginsThere same (hash e.hasher) call i s e e2 → work_of e i ≡ None → MayBegin e (slot_of i) call → IsAct (BeginsRow i (request_of (slot_of i) call)) Nothing
    pub row : (told : RowTold (Node K V)) → RowStepsThere same (hash e.hasher) i told s e e2 → (it : SlotRow) → work_of e i ≡ Some (work.OnSlot it) → AreSteps (RowIsComputed e e2 it told) (StepsRow i) Nothing

-- So it is wherever an executor is, that keeps what it was given.
abbrev pub ExecutorsAct : {K S : Type 0} → (V : Type 0) → (K → K → Bool) → (S → K → ℕ) → Type 0
ExecutorsAct {K} {S} V same hash =
    (e e2 : Executor K V S) (s : Scene K V) → IsThere same (hash e.hasher) e s → StaysGiven e e2 → (i : ℕ) → CallsAreActs same hash e e2 s i × OthersAreActs same hash e e2 s i
