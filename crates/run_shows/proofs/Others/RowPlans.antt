-- What a row on a slot does by one operation: it writes words of slots and of entries, makes room for slots, or takes a block away.
use Rattle.std.specs.Prelude.{ℕ, Option, Ok}
use Rattle.std.proofs.Common.{sym, subst}
use Rattle.seize_words.specs.declared.at.At.{At}
use Rattle.seize_words.specs.declared.at.At.TheVariants.{Slot, Entry}
use Rattle.seize_words.specs.OneMemory.Mem.{Mem}
use Rattle.seize_words.specs.OneMemory.Op.{Op, Out, Load, Store, Swap, Add, Or, Exchange, Make, Take, Rewrite, Room, Found, Exchanged, Roomed}
use Rattle.seize_words.specs.OneMemory.Plan.{Plan, Turn, Do, plan_as}
use Rattle.seize.specs.World.{MayStep}
use Rattle.seize.specs.declared.rows.leave.Leave.{Leave}
use Rattle.seize.specs.declared.rows.leave.Leaving.{Leaving}
use Rattle.seize.specs.declared.rows.leave.Leaving.TheVariants as leaving
use Rattle.seize.specs.declared.rows.register.Register.{Register}
use Rattle.seize.specs.declared.rows.register.Registering.{Registering}
use Rattle.seize.specs.declared.rows.register.Registering.TheVariants as registering
use Rattle.seize.specs.declared.rows.settle.Settle.{Settle}
use Rattle.seize.specs.declared.rows.settle.Settling.{Settling}
use Rattle.seize.specs.declared.rows.settle.Settling.TheVariants as settling
use Rattle.seize.specs.Enter.{enter_plan, unregister_plan}
use Rattle.seize.specs.Leave as leave
use Rattle.seize.specs.Register as register
use Rattle.seize.specs.Settle as settle
use Rattle.run_effects.specs.Given.TablesNodes.{deferred_word}
use Rattle.run_effects.specs.Given.TablesDeclared.node.Node.{Node}
use Rattle.run_effects.specs.Tells.Seen.{seen_of}
use Rattle.run_effects.specs.ReportingMemory.Tells.{observed_of, StepsObserved}
use Rattle.run_effects.specs.declared.changed.Changed.{Changed}
use Rattle.run_effects.specs.declared.changed.Changed.TheVariants as changed
use Rattle.run_shows.specs.declared.row.RowTold.{RowTold}
use Rattle.run_shows.specs.declared.row.SlotRow.{SlotRow}
use Rattle.run_shows.specs.declared.row.SlotRow.TheVariants as rows
use Rattle.run_shows.proofs.Follows.Operations.{Operated, operated}
use Rattle.run_shows.specs.Scenes.OnSlots.{RowSteps}
use Rattle.run_shows.specs.Scenes.Scene.{row_of}

-- a word of the collector's own
abbrev pub IsOfSlots : At → Type 0
IsOfSlots (Slot s field) = Unit {0}
IsOfSlots (Entry b field) = Unit {0}
IsOfSlots _ = ⊥

-- what a step tells that does no more
abbrev pub TellsRow : Changed → Type 0
TellsRow changed.Nothing = Unit {0}
TellsRow (changed.Wrote at old new) = IsOfSlots at
TellsRow (changed.Made kind b) = ⊥
TellsRow (changed.Unmade kind) = ⊥
TellsRow (changed.Took b) = Unit {0}
TellsRow (changed.Roomed bucket had) = Unit {0}

module _ {T : Type 0} where
  abbrev IsRowOp : Op T → Type 0
  IsRowOp (Load at) = Unit {0}
  IsRowOp (Store at word) = IsOfSlots at
  IsRowOp (Swap at word) = IsOfSlots at
  IsRowOp (Add at by) = IsOfSlots at
  IsRowOp (Or at bits) = ⊥
  IsRowOp (Exchange at old new) = IsOfSlots at
  IsRowOp (Make value words) = ⊥
  IsRowOp (Take b) = Unit {0}
  IsRowOp (Rewrite b value) = ⊥
  IsRowOp (Room bucket) = Unit {0}

  abbrev IsRowPlan : {R : Type 0} → Plan T R → Type 0
  IsRowPlan (Turn rest) = Unit {0}
  IsRowPlan (Do op rest) = IsRowOp op

  so_as : {A B : Type 0} (f : A → B) (plan : Plan T A) → IsRowPlan plan → IsRowPlan (plan_as f plan)
  so_as f (Turn rest) is = tt
  so_as f (Do op rest) is = is

  -- each plan of such a row does no more
  settles_so : (defers : T → Option ℕ) (c : Settle) (p : Settling) → IsRowPlan (settle.plan_at defers c p)
  settles_so defers c settling.Sees = tt
  settles_so defers c _ = tt

  leaves_so : (defers : T → Option ℕ) (c : Leave) (p : Leaving) → IsRowPlan (leave.plan_at defers c p)
  leaves_so defers c leaving.Swaps = tt
  leaves_so defers c (leaving.Settles it) = so_as (leave.settled c) (settle.settle_plan defers it) (settles_so defers it it.stands)
  leaves_so defers c leaving.Frees = tt
  leaves_so defers c leaving.Over = tt

registers_so : (T : Type 0) (c : Register) (p : Registering) → IsRowPlan (register.plan_at {T = T} c p)
registers_so T c registering.Begin = tt
registers_so T c _ = tt

module _ {K V : Type 0} where
  op_tells : (m : Mem (Node K V)) (op : Op (Node K V)) (out : Out (Node K V)) → IsRowOp op → TellsRow (observed_of op out (seen_of m op out))
  op_tells m (Load at) out is = tt
  op_tells m (Store at word) out is = is
  op_tells m (Swap at word) (Found before) is = is
  op_tells m (Swap at word) _ is = tt
  op_tells m (Add at by) (Found before) is = is
  op_tells m (Add at by) _ is = tt
  op_tells m (Or at bits) out is = absurd is
  op_tells m (Exchange at old new) (Exchanged (Ok word)) is = is
  op_tells m (Exchange at old new) _ is = tt
  op_tells m (Make value words) out is = absurd is
  op_tells m (Take b) out is = tt
  op_tells m (Rewrite b value) out is = absurd is
  op_tells m (Room bucket) (Roomed roomed) is = tt
  op_tells m (Room bucket) _ is = tt

  plan_tells : {R : Type 0} (m m2 : Mem (Node K V)) (told : Changed) (plan : Plan (Node K V) R) (end : R) → StepsObserved K V R m changed.Nothing plan m2 told end → IsRowPlan plan → TellsRow told
  plan_tells m m2 told (Turn rest) end steps is = subst TellsRow (sym steps.2) tt
  plan_tells m m2 told (Do op rest) end steps is = subst TellsRow (sym steps.1.1) (op_tells m op steps.0 is)

  module _ (m m2 : Mem (Node K V)) (told : Changed) (after : SlotRow × RowTold (Node K V)) where
    pub row_tells : (row : SlotRow) → RowSteps K V row m m2 told after → TellsRow told
    row_tells (rows.Registers c) s = plan_tells m m2 told (register.register_plan c) s.0 s.1 (registers_so (Node K V) c c.stands)
    row_tells (rows.Enters c) s = plan_tells m m2 told (enter_plan c) s.0 s.1 tt
    row_tells (rows.Leaves c) s = plan_tells m m2 told (leave.leave_plan deferred_word c) s.0 s.1 (leaves_so deferred_word c c.stands)
    row_tells (rows.Flushes c) s = plan_tells m m2 told (settle.settle_plan deferred_word c) s.0 s.1 (settles_so deferred_word c c.stands)
    row_tells (rows.Frees c) s = plan_tells m m2 told (unregister_plan c) s.0 s.1 tt

    pub row_operated : (row : SlotRow) → MayStep deferred_word (row_of row) m → RowSteps K V row m m2 told after → Operated m m2 told
    row_operated (rows.Registers c) may s = operated m m2 told (register.register_plan c) s.0 may s.1
    row_operated (rows.Enters c) may s = operated m m2 told (enter_plan c) s.0 may s.1
    row_operated (rows.Leaves c) may s = operated m m2 told (leave.leave_plan deferred_word c) s.0 may s.1
    row_operated (rows.Flushes c) may s = operated m m2 told (settle.settle_plan deferred_word c) s.0 may s.1
    row_operated (rows.Frees c) may s = operated m m2 told (unregister_plan c) s.0 may s.1
