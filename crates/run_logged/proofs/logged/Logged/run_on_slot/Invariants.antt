-- What a run keeps from step to step, and what each step lowers.
use Rattle.std.specs.Prelude.{◌≡◌, ℕ, Some}
use Rattle.run_shows.specs.declared.row.SlotRow.{SlotRow}
use Rattle.run_executor.specs.declared.worker.Work.TheVariants.{OnSlot}
use Rattle.run_logged.specs.Log.Back.{BringsBack}
use Rattle.run_logged.specs.Log.Goes.{GoesTo, RowGoes, far}
use Rattle.run_logged.specs.Log.OnSlots.{ContinuesFor, OnSlotRan}
use Rattle.run_logged.proofs.Log.RowsFall.{steps_left_of}
use Rattle.run_logged.proofs.Log.Runs.{EndsAs}
use Rattle.run_logged.proofs.logged.Logged.run_on_slot.Given as goal
use Rattle.run_executor.specs.Executing.IsThere.{PreservesSettings, work_of}

-- the row is under way by the steps that ran, what it did stands in the list, what that reclaims has come back, and what the executor was given stays
abbrev pub invariant-loop-self : goal.invariant-loop-self
invariant-loop-self g l = record {
  ran : OnSlotRan l.fn.effects.items l.effects.items l.fn.self l.self;
  goes : (n : ℕ) × ContinuesFor l.fn.caller n l.fn.self.executor l.self.executor;
  gone : GoesTo (RowGoes l.fn.caller) (far l.fn.effects.items l.fn.self) (far l.effects.items l.self);
  used : EndsAs l.fn.self l.self l.fn.caller;
  under : (row : SlotRow) × (work_of l.self.executor l.fn.caller ≡ Some (OnSlot row));
  given : PreservesSettings l.fn.self.executor l.self.executor;
  back : BringsBack l.fn.effects.items l.effects.items l.fn.self l.fn.back.items l.back.items;
}

abbrev pub decreases-loop-self : goal.decreases-loop-self
decreases-loop-self g l = steps_left_of l.self.executor.memory.memory (work_of l.self.executor l.fn.caller)
