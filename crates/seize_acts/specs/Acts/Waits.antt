-- When a row waits.
use Rattle.std.specs.Prelude.{◌≡◌, ℕ, true, List, Option, Some, ◌⊎◌}
use Rattle.seize_words.specs.OneMemory.Mem.{Mem, Took, value_at}
use Rattle.seize_words.specs.OneMemory.Plan.{Steps}
use Rattle.seize.specs.declared.advance.Advance.TheVariants as progress
use Rattle.seize.specs.declared.rows.settle.Settle.{Settle}
use Rattle.seize.specs.declared.rows.settle.Settled.TheVariants as settled
use Rattle.seize.specs.declared.rows.leave.Leave.{Leave}
use Rattle.seize.specs.declared.rows.defer.Defer.{Defer}
use Rattle.seize.specs.declared.rows.register.Register.{Register}
use Rattle.seize.specs.declared.rows.enter.Enter.{Enter}
use Rattle.seize.specs.declared.rows.enter.Unregister.{Unregister}
use Rattle.seize.specs.Settle.{settle_plan}
use Rattle.seize.specs.Leave.{leave_plan}
use Rattle.seize.specs.Defer.{defer_plan}
use Rattle.seize.specs.Register.{register_plan}
use Rattle.seize.specs.Enter.{enter_plan, unregister_plan}
use Rattle.seize.specs.World.{World, Row, Rests, Registers, Enters, Settles, Leaves, Defers, Frees, Event, Runs, at_start}
use Rattle.seize_model.specs.Ends.Holders.{has_batch}
use Rattle.seize_acts.specs.Acts.Answers.{Grant, stepped}
use Rattle.seize_acts.specs.Acts.Acts.{Act, AllDid}

-- the row retires, flushes, refreshes or leaves on this slot
abbrev pub SettlesOn : ℕ → Row → Type 0
SettlesOn s (Settles c) = c.slot ≡ s
SettlesOn s (Leaves c) = c.slot ≡ s
SettlesOn s _ = ⊥

-- Just one row has the batch of this slot in hand, and that is another caller's.
abbrev pub AnotherHas : {T : Type 0} → World T → ℕ → ℕ → Type 0
AnotherHas w i s = (j : ℕ) × (has_batch s (w.row j) ≡ true) × (j ≡ i → ⊥) × ((k : ℕ) → has_batch s (w.row k) ≡ true → k ≡ j)

module _ {T : Type 0} (defers : T → Option ℕ) where
  -- the next step of this row answers that it has to wait
  abbrev pub Waits : Row → Grant → Mem T → Type 0
  Waits Rests g m = ⊥
  Waits (Registers c) g m = (m2 : Mem T) × (end : Register) × (stepped m g (register_plan c) ≡ Some (m2, (end, progress.Waits)))
  Waits (Enters c) g m = (m2 : Mem T) × (end : Enter) × (stepped m g (enter_plan c) ≡ Some (m2, (end, progress.Waits)))
  Waits (Settles c) g m = (m2 : Mem T) × (end : Settle) × (stepped m g (settle_plan defers c) ≡ Some (m2, (end, settled.Waits)))
  Waits (Leaves c) g m = (m2 : Mem T) × (end : Leave) × (stepped m g (leave_plan defers c) ≡ Some (m2, (end, settled.Waits)))
  Waits (Defers s c) g m = (m2 : Mem T) × (end : Defer) × (stepped m g (defer_plan c) ≡ Some (m2, (end, progress.Waits)))
  Waits (Frees c) g m = (m2 : Mem T) × (end : Unregister) × (stepped m g (unregister_plan c) ≡ Some (m2, (end, progress.Waits)))

  -- Just one row has in hand the batch of the slot that this caller's row settles on, and that is another one.
  abbrev pub AnotherHasIt : World T → ℕ → Type 0
  AnotherHasIt w i =
      (s : ℕ) × (j : ℕ) × SettlesOn s (w.row i) × (has_batch s (w.row j) ≡ true) × (j ≡ i → ⊥) × ((k : ℕ) → has_batch s (w.row k) ≡ true → k ≡ j)

  -- A row waits only while that is so.
  abbrev pub RowsWaitForAHolder : Type 0
  RowsWaitForAHolder =
      (batch_size roots : ℕ) (acts : List (Act T)) (w : World T) → AllDid defers batch_size acts (at_start defers roots) w
      → (i : ℕ) (g : Grant) → Waits (w.row i) g w.memory → AnotherHasIt w i

  -- A row that settles waits only while that is so, be it under way, or within what is more than a row, and about to begin with this step.
  abbrev pub SettlingWaitsForAHolder : Type 0
  SettlingWaitsForAHolder =
      (batch_size roots : ℕ) (events : List (Event T)) (w : World T) → Runs defers batch_size events (at_start defers roots) w
      → (i : ℕ) (c d : Settle) (m : Mem T) → (w.row i ≡ Rests) ⊎ (w.row i ≡ Settles c)
      → Steps Took value_at w.memory (settle_plan defers c) m (d, settled.Waits) → AnotherHas w i c.slot

  -- and one that defers a block never waits
  abbrev pub DeferringNeverWaits : Type 0
  DeferringNeverWaits = (c d : Defer) (m m2 : Mem T) → Steps Took value_at m (defer_plan c) m2 (d, progress.Waits) → ⊥
