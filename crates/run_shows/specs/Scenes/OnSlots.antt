-- What it leads to that a caller begins a row on its slot, and that it takes a step of that.
use Rattle.std.specs.Prelude.{◌≡◌, ℕ, Bool, Option}
use Rattle.seize.specs.declared.advance.Advance.{Advance}
use Rattle.seize.specs.declared.rows.enter.Enter.{Enter}
use Rattle.seize.specs.declared.rows.enter.Unregister.{Unregister}
use Rattle.seize.specs.declared.rows.leave.Leave.{Leave}
use Rattle.seize.specs.declared.rows.register.Register.{Register}
use Rattle.seize.specs.declared.rows.settle.Settle.{Settle}
use Rattle.seize.specs.declared.rows.settle.Settled.{Settled}
use Rattle.seize.specs.Enter.{enter_plan, unregister_plan}
use Rattle.seize.specs.Leave.{leave_plan}
use Rattle.seize.specs.Register.{register_plan}
use Rattle.seize.specs.Settle.{settle_plan}
use Rattle.seize.specs.World.{World, Row, Rests, Event, Begin, Step, Happens}
use Rattle.seize_words.specs.OneMemory.Mem.{Mem}
use Rattle.run_effects.specs.Given.TablesNodes.{deferred_word}
use Rattle.run_effects.specs.Given.TablesDeclared.node.Node.{Node}
use Rattle.run_effects.specs.ReportingMemory.Tells.{StepsObserved}
use Rattle.run_effects.specs.declared.changed.Changed.{Changed}
use Rattle.run_effects.specs.declared.changed.Changed.TheVariants.{Nothing}
use Rattle.many_maps.specs.Maps.{Standing, IsSameMap}
use Rattle.run_shows.specs.declared.row.RowTold.{RowTold}
use Rattle.run_shows.specs.declared.row.RowTold.TheVariants as told
use Rattle.run_shows.specs.declared.row.SlotCall.{SlotCall}
use Rattle.run_shows.specs.declared.row.SlotRow.{SlotRow}
use Rattle.run_shows.specs.declared.row.SlotRow.TheVariants as rows
use Rattle.run_shows.specs.Scenes.Held.{Held, IsAt}
use Rattle.run_shows.specs.Scenes.Rows.{request_of, of_registering, of_storing, of_settling}
use Rattle.run_shows.specs.Scenes.Scene.{Scene, HasNoCall, IsOnSlot, row_of, slot_of}

module _ (K V : Type 0) where
  -- a step of a machine on a slot, of this plan, is told, and so is what its one operation has changed
  abbrev pub RowSteps : SlotRow → Mem (Node K V) → Mem (Node K V) → Changed → SlotRow × RowTold (Node K V) → Type 0
  RowSteps (rows.Registers c) m m2 changed after =
      (end : Register × Advance ℕ) × StepsObserved K V (Register × Advance ℕ) m Nothing (register_plan c) m2 changed end × (after ≡ (rows.Registers end.0, of_registering end.1))
  RowSteps (rows.Enters c) m m2 changed after =
      (end : Enter × Advance Unit) × StepsObserved K V (Enter × Advance Unit) m Nothing (enter_plan c) m2 changed end × (after ≡ (rows.Enters end.0, of_storing end.1))
  RowSteps (rows.Leaves c) m m2 changed after =
      (end : Leave × Settled (Node K V)) × StepsObserved K V (Leave × Settled (Node K V)) m Nothing (leave_plan deferred_word c) m2 changed end × (after ≡ (rows.Leaves end.0, of_settling end.1))
  RowSteps (rows.Flushes c) m m2 changed after =
      (end : Settle × Settled (Node K V)) × StepsObserved K V (Settle × Settled (Node K V)) m Nothing (settle_plan deferred_word c) m2 changed end × (after ≡ (rows.Flushes end.0, of_settling end.1))
  RowSteps (rows.Frees c) m m2 changed after =
      (end : Unregister × Advance Unit) × StepsObserved K V (Unregister × Advance Unit) m Nothing (unregister_plan c) m2 changed end × (after ≡ (rows.Frees end.0, of_storing end.1))

-- how a row goes on that has told this: as it is then, or it rests once it has come to its end
abbrev pub row_then : {T : Type 0} → SlotRow → RowTold T → Row
row_then after told.Goes = row_of after
row_then after told.Waits = row_of after
row_then after (told.Gave value) = row_of after
row_then after _ = Rests

module _ {K V : Type 0} where
  module _ (IsThere : Scene K V → Type 0) where
    -- This has happened, and all maps are as they were, but for what may be looked at: it has led to a scene of this kind.
    abbrev pub HappensTo : Event (Node K V) → Scene K V → Held K V → Type 0
    HappensTo event s old =
        (w2 : World (Node K V)) × Happens deferred_word old.batch_size event s.world w2
        × (maps2 : ℕ → Option (Standing K)) × ((m : ℕ) → IsSameMap (s.maps m) (maps2 m)) × IsThere (record s { world = w2; maps = maps2 })

    -- A row that a caller begins on its slot, which has no call, is under way.
    abbrev pub RowBeginsTo : SlotCall → ℕ → Scene K V → Held K V → Held K V → Type 0
    RowBeginsTo called i s old new = (new.memory ≡ old.memory) × HasNoCall s i × HappensTo (Begin i (request_of (slot_of i) called)) s old

    -- The step of a caller's row: it is told, with what its one operation has changed, and the row goes on, unless it has come to its end.
    abbrev pub RowLeadsTo : ℕ → RowTold (Node K V) → Scene K V → Held K V → Held K V → Type 0
    RowLeadsTo i told s old new =
        (row : SlotRow) → IsOnSlot s i row
        → (after : SlotRow) × RowSteps K V row old.memory new.memory new.changed (after, told) × (did : HappensTo (Step i) s old) × (did.0.row i ≡ row_then after told)

-- each to the scene of what is held then
module _ {K V : Type 0} (same : K → K → Bool) (hash : ℕ → K → ℕ) where
  abbrev pub HappensAt : Event (Node K V) → Scene K V → Held K V → Held K V → Type 0
  HappensAt event s old new = HappensTo (IsAt same hash new) event s old

  abbrev pub RowBegins : SlotCall → ℕ → Scene K V → Held K V → Held K V → Type 0
  RowBegins called i s old new = RowBeginsTo (IsAt same hash new) called i s old new

  abbrev pub RowLeads : ℕ → RowTold (Node K V) → Scene K V → Held K V → Held K V → Type 0
  RowLeads i told s old new = RowLeadsTo (IsAt same hash new) i told s old new
