-- What the steps of rows, and of who reclaims all, tell as they are played: of words of slots and entries, room for slots, blocks that are taken away, and roots emptied.
use Rattle.std.specs.Prelude.{◌==◌, ◌⊎◌, Bool, Some, None, if◌then◌else◌}
use Rattle.std.proofs.Common.{◌≡◌, ℕ, true, false, inl, inr, refl, subst, sym}
use Rattle.seize_acts.specs.Acts.Answers.{Grant, stepped}
use Rattle.run_schedules.specs.Given.SeizeWordsMem.{Mem}
use Rattle.seize.specs.Enter.{enter_plan, unregister_plan}
use Rattle.seize.specs.Leave.{leave_plan}
use Rattle.seize.specs.ReclaimAll.{next_batch, next_head, plan_at, reclaim_all_plan, standing, within}
use Rattle.seize.specs.Register.{register_plan}
use Rattle.seize.specs.Settle.{settle_plan}
use Rattle.seize.specs.declared.rows.leave.Leave.{Leave}
use Rattle.seize.specs.declared.rows.leave.Leaving.{Leaving}
use Rattle.seize.specs.declared.rows.leave.Leaving.TheVariants as leaves
use Rattle.seize.specs.declared.rows.reclaim_all.ReclaimAll.{ReclaimAll}
use Rattle.seize.specs.declared.rows.reclaim_all.Reclaiming.{Reclaiming}
use Rattle.seize.specs.declared.rows.reclaim_all.Reclaiming.TheVariants as at
use Rattle.seize.specs.declared.rows.register.Registering.{Registering}
use Rattle.seize.specs.declared.rows.register.Registering.TheVariants as registers
use Rattle.seize.specs.declared.rows.settle.Settle.{Settle}
use Rattle.seize.specs.declared.rows.settle.Settled.{Settled}
use Rattle.seize.specs.declared.states.TheConstants.{ACTIVE}
use Rattle.map_tables.specs.Nodes.{deferred_word, was_left}
use Rattle.map_tables.specs.declared.node.Node.{Node}
use Rattle.run_finds.specs.Given.TellerTells.{StepsObserved}
use Rattle.run_kept.specs.Given.EffectsDeclared.changed.Changed.{Changed}
use Rattle.run_kept.specs.Given.EffectsDeclared.changed.Changed.TheVariants as changed
use Rattle.many_acts.specs.Given.ScenesOnSlots.{RowSteps}
use Rattle.many_acts.specs.Given.ScenesRows.{of_registering, of_settling, of_storing}
use Rattle.many_acts.specs.Given.ScenesScene.{row_of}
use Rattle.many_acts.specs.Given.ScenesDeclared.row.RowTold.{RowTold}
use Rattle.many_acts.specs.Given.ScenesDeclared.row.SlotRow.{SlotRow}
use Rattle.many_acts.specs.Given.ScenesDeclared.row.SlotRow.TheVariants as rows
use Rattle.many_acts.proofs.Given.OthersRowPlans.{TellsRow, row_tells}
use Rattle.many_acts.proofs.Given.OthersOutcomes.{told_in}
use Rattle.run_schedules.specs.Schedules.Moment.{Moment}
use Rattle.many_acts.specs.Acts.AsSteps.{changed_of, row_changed}
use Rattle.many_acts.proofs.Acts.AsSteps.Told.{was_told}
use Rattle.run_schedules.specs.Deeds.Deeds.{Deed, Leaves, Opens, ReclaimsAll, Registers, Shuts, Tends, acted_on}
use Rattle.play_lists.specs.Played.Play.{leaves_as, registers_as, row_deed, slot_row_steps}
use Rattle.play_lists.specs.Agrees.Fresh.{comes_with, gives_back}
use Rattle.play_lists.proofs.Agrees.Elsewhere.{EmptiesRoot}
use Rattle.play_lists.proofs.Agrees.Fresh.{BeginsElsewhere}
use Rattle.play_lists.proofs.Agrees.Known.{MakesSome}
use Rattle.play_lists.proofs.Grouped.Callers.{under as mapped}

module _ {K V : Type 0} (g : Grant) (m : Mem (Node K V)) (end : Mem (Node K V) × (SlotRow × RowTold (Node K V))) where
  pub row_stepped_so : (row : SlotRow) → slot_row_steps row g m ≡ Some end → RowSteps K V row m end.0 (row_changed (row_of row) g m) end.1
  row_stepped_so (rows.Registers c) is =
      let p = mapped (λ p. (p.0, (rows.Registers p.1.0, of_registering p.1.1))) (stepped m g (register_plan c)) end is in
      subst (λ (q : Mem (Node K V) × (SlotRow × RowTold (Node K V))). RowSteps K V (rows.Registers c) m q.0 (changed_of m g (register_plan c)) q.1) p.2 (p.0.1, was_told m g (register_plan c) p.0 p.1, refl)
  row_stepped_so (rows.Enters c) is =
      let p = mapped (λ p. (p.0, (rows.Enters p.1.0, of_storing p.1.1))) (stepped m g (enter_plan c)) end is in
      subst (λ (q : Mem (Node K V) × (SlotRow × RowTold (Node K V))). RowSteps K V (rows.Enters c) m q.0 (changed_of m g (enter_plan c)) q.1) p.2 (p.0.1, was_told m g (enter_plan c) p.0 p.1, refl)
  row_stepped_so (rows.Leaves c) is =
      let p = mapped (λ p. (p.0, (rows.Leaves p.1.0, of_settling p.1.1))) (stepped m g (leave_plan deferred_word c)) end is in
      subst (λ (q : Mem (Node K V) × (SlotRow × RowTold (Node K V))). RowSteps K V (rows.Leaves c) m q.0 (changed_of m g (leave_plan deferred_word c)) q.1) p.2
      (p.0.1, was_told m g (leave_plan deferred_word c) p.0 p.1, refl)
  row_stepped_so (rows.Flushes c) is =
      let p = mapped (λ p. (p.0, (rows.Flushes p.1.0, of_settling p.1.1))) (stepped m g (settle_plan deferred_word c)) end is in
      subst (λ (q : Mem (Node K V) × (SlotRow × RowTold (Node K V))). RowSteps K V (rows.Flushes c) m q.0 (changed_of m g (settle_plan deferred_word c)) q.1) p.2
      (p.0.1, was_told m g (settle_plan deferred_word c) p.0 p.1, refl)
  row_stepped_so (rows.Frees c) is =
      let p = mapped (λ p. (p.0, (rows.Frees p.1.0, of_storing p.1.1))) (stepped m g (unregister_plan c)) end is in
      subst (λ (q : Mem (Node K V) × (SlotRow × RowTold (Node K V))). RowSteps K V (rows.Frees c) m q.0 (changed_of m g (unregister_plan c)) q.1) p.2 (p.0.1, was_told m g (unregister_plan c) p.0 p.1, refl)

  -- a row
  pub row_says : (row : SlotRow) → slot_row_steps row g m ≡ Some end → TellsRow (row_changed (row_of row) g m)
  row_says row is = row_tells m end.0 (row_changed (row_of row) g m) end.1 row (row_stepped_so row is)

-- and who reclaims all
module _ {K V : Type 0} (m n : Mem (Node K V)) (told : Changed) (end : ReclaimAll × Settled (Node K V)) where
  as_row : (x : Changed) → told ≡ x → TellsRow x → TellsRow told ⊎ EmptiesRoot told
  as_row x is so = inl (subst TellsRow (sym is) so)

  all_tell : (c : ReclaimAll) (p : Reclaiming) → StepsObserved K V (ReclaimAll × Settled (Node K V)) m changed.Nothing (plan_at deferred_word was_left c p) n told end → TellsRow told ⊎ EmptiesRoot told
  all_tell c (at.Heads slot) s = as_row _ s.1.1 tt
  all_tell c (at.Retakes slot) s = as_row _ s.1.1 tt
  all_tell c (at.Leaves slot leave) s =
      let it = told_in m n told (within (λ (l : Leave). standing c (at.Leaves slot l)) (next_head c slot)) (leave_plan deferred_word leave) end s in
      inl (row_tells m n told (rows.Leaves it.0.0, of_settling it.0.1) (rows.Leaves leave) (it.0, it.2, refl))
  all_tell c (at.Batches slot) s = as_row _ s.1.1 tt
  all_tell c (at.Flushes slot settle) s =
      let it = told_in m n told (within (λ (l : Settle). standing c (at.Flushes slot l)) (next_batch (record c { again = true }) slot)) (settle_plan deferred_word settle) end s in
      inl (row_tells m n told (rows.Flushes it.0.0, of_settling it.0.1) (rows.Flushes settle) (it.0, it.2, refl))
  all_tell c (at.Frees slot) s = as_row _ s.1.1 tt
  all_tell c (at.Roots root) s = as_row _ s.1.1 tt
  all_tell c (at.Nexts root block) s = as_row _ s.1.1 tt
  all_tell c (at.Takes root block next) s = as_row _ s.1.1 tt
  all_tell c (at.Empties root) s = inr (subst EmptiesRoot (sym s.1.1) refl)
  all_tell c (at.Unuses root) s = inr (subst EmptiesRoot (sym s.1.1) tt)
  all_tell c at.Over s = as_row changed.Nothing s.2 tt

pub all_say : {K V : Type 0} (g : Grant) (m : Mem (Node K V)) (c : ReclaimAll) (end : Mem (Node K V) × (ReclaimAll × Settled (Node K V))) → stepped m g (reclaim_all_plan deferred_word was_left c) ≡ Some end
    → (let told = changed_of m g (reclaim_all_plan deferred_word was_left c) in TellsRow told ⊎ EmptiesRoot told)
all_say g m c end is =
    let plan = reclaim_all_plan deferred_word was_left c in all_tell m end.0 (changed_of m g plan) end.1 c c.stands (was_told m g plan end is)

-- No row makes a block.
pub row_makes : (told : Changed) → TellsRow told → MakesSome told
row_makes (changed.Made kind b) is = absurd is
row_makes _ is = tt

pub all_make : (told : Changed) → TellsRow told ⊎ EmptiesRoot told → MakesSome told
all_make told (inl row) = row_makes told row
all_make (changed.Made kind b) (inr empties) = absurd empties
all_make _ (inr empties) = tt

-- It begins no call, acts on no map, none comes by it, and none gives its number back.
module _ {K V : Type 0} where
  pub record OfNoMap (d : Deed K V) : Type 0 where
    pub acts : (m : Moment K V) → acted_on d m ≡ None
    pub begins : (n : ℕ) → BeginsElsewhere n d
    pub comes : (n : ℕ) → comes_with n d ≡ false
    pub keeps : (again : Bool) (n : ℕ) → gives_back again n d ≡ false

  opens : (s : ℕ) → OfNoMap (Opens s)
  opens s = record { acts = λ m. refl; begins = λ n. tt; comes = λ n. refl; keeps = λ again n. refl }

  shuts : (s : ℕ) → OfNoMap (Shuts s)
  shuts s = record { acts = λ m. refl; begins = λ n. tt; comes = λ n. refl; keeps = λ again n. refl }

  leaves_slot : (s : ℕ) → OfNoMap (Leaves s)
  leaves_slot s = record { acts = λ m. refl; begins = λ n. tt; comes = λ n. refl; keeps = λ again n. refl }

  registers_at : (s : ℕ) → OfNoMap (Registers s)
  registers_at s = record { acts = λ m. refl; begins = λ n. tt; comes = λ n. refl; keeps = λ again n. refl }

  tends : (s : ℕ) → OfNoMap (Tends s)
  tends s = record { acts = λ m. refl; begins = λ n. tt; comes = λ n. refl; keeps = λ again n. refl }

  pub reclaims_all : (last : Bool) → OfNoMap (ReclaimsAll last)
  reclaims_all last = record { acts = λ m. refl; begins = λ n. tt; comes = λ n. refl; keeps = λ again n. refl }

  registers_none : (stands : Registering) (s : ℕ) → OfNoMap (registers_as stands s)
  registers_none registers.Begin s = registers_at s
  registers_none registers.Look s = registers_at s
  registers_none (registers.Widen bucket head) s = registers_at s
  registers_none (registers.Take head) s = registers_at s
  registers_none registers.Enter s = opens s
  registers_none registers.Registered s = registers_at s
  registers_none (registers.Refused fault) s = registers_at s

  opens_or : (q : Bool) (s : ℕ) → OfNoMap (if q then Opens s else Leaves s)
  opens_or true s = opens s
  opens_or false s = leaves_slot s

  leaves_none : (c : Leave) (stands : Leaving) → OfNoMap (leaves_as c stands)
  leaves_none c leaves.Swaps = shuts c.slot
  leaves_none c (leaves.Settles settle) = leaves_slot c.slot
  leaves_none c leaves.Frees = leaves_slot c.slot
  leaves_none c leaves.Over = opens_or (c.becomes == ACTIVE) c.slot

  pub row_of_no_map : (row : SlotRow) → OfNoMap (row_deed row)
  row_of_no_map (rows.Registers c) = registers_none c.stands c.slot
  row_of_no_map (rows.Enters c) = opens c.slot
  row_of_no_map (rows.Leaves c) = leaves_none c c.stands
  row_of_no_map (rows.Flushes c) = tends c.slot
  row_of_no_map (rows.Frees c) = tends c.slot
