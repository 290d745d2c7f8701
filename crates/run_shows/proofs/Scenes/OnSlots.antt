-- The row that begins works on its slot, and does so after a step: a leaving keeps its slot.
use Rattle.std.specs.Prelude.{◌≡◌, ℕ, Bool, true, false, Option, nat_lt, if◌then◌else◌}
use Rattle.std.proofs.Common.{refl, ap, ◌∙◌}
use Rattle.seize_words.specs.OneMemory.Mem.{Mem, Took, value_at}
use Rattle.seize_words.specs.OneMemory.Op.{Out, Found}
use Rattle.seize_words.specs.OneMemory.Plan.{Now, Steps, Ends}
use Rattle.seize.specs.declared.rows.leave.Leave.{Leave}
use Rattle.seize.specs.declared.rows.leave.Leaving.{Leaving}
use Rattle.seize.specs.declared.rows.leave.Leaving.TheVariants as leaves
use Rattle.seize.specs.declared.rows.settle.Settle.{Settle}
use Rattle.seize.specs.declared.rows.settle.Settled.{Settled}
use Rattle.seize.specs.declared.rows.settle.Settled.TheVariants as settled
use Rattle.seize.specs.declared.states.TheConstants.{ACTIVE}
use Rattle.seize.specs.Leave as leave
use Rattle.seize.specs.Settle.{counting_down, settle_plan}
use Rattle.seize_acts.proofs.Given.SeizeRuleRows.Leaving.{steps_back}
use Rattle.many_maps.specs.Given.CallersRows.{IsRowOn}
use Rattle.run_shows.specs.Scenes.Rows.{begun_row}
use Rattle.run_shows.specs.Scenes.Scene.{row_of}
use Rattle.run_shows.specs.declared.row.SlotCall.{SlotCall}
use Rattle.run_shows.specs.declared.row.SlotCall.TheVariants as call

-- the row of each works on its slot
pub its_row : (slot size : ℕ) (called : SlotCall) → IsRowOn slot (row_of (begun_row slot size called))
its_row slot size (call.Register enters) = tt
its_row slot size call.Enter = refl
its_row slot size call.Leave = refl
its_row slot size call.LeaveOwned = refl
its_row slot size call.Refresh = refl
its_row slot size call.Flush = refl
its_row slot size call.Unregister = refl

-- a leaving keeps its slot
module _ {T : Type 0} (shown : ℕ → Option T) (c : Leave) (end : Leave × Settled T) where
  counted : (b : Bool) → (if b then leave.standing c leaves.Frees else leave.standing c leaves.Over).slot ≡ c.slot
  counted true = refl
  counted false = refl

  by_list : (b : Bool) (x y : Leave × Settled T) → x.0.slot ≡ c.slot → y.0.slot ≡ c.slot → Ends shown (if b then Now x else Now y) end → end.0.slot ≡ c.slot
  by_list true x y same same2 is = ap (λ (p : Leave × Settled T). p.0.slot) is ∙ same
  by_list false x y same same2 is = ap (λ (p : Leave × Settled T). p.0.slot) is ∙ same2

  list_at : (out : Out T) → Ends shown (leave.list_taken c out) end → end.0.slot ≡ c.slot
  list_at (Found head) is =
      by_list (nat_lt ACTIVE head) (leave.standing c (leaves.Settles (counting_down c.slot c.batch_size head)), settled.Goes) (leave.counted_down c, settled.Goes) refl (counted c.frees) is
  list_at _ is = ap (λ (p : Leave × Settled T). p.0.slot) is

  settled_at : (settle : Settle) (p : Settled T) → (leave.settled c (settle, p)).0.slot ≡ c.slot
  settled_at settle settled.Goes = refl
  settled_at settle settled.Waits = refl
  settled_at settle (settled.Gave value) = refl
  settled_at settle settled.Done = counted c.frees

module _ {T : Type 0} (defers : T → Option ℕ) (c : Leave) (m m2 : Mem T) (end : Leave × Settled T) where
  pub left_at : (p : Leaving) → Steps Took value_at m (leave.plan_at defers c p) m2 end → end.0.slot ≡ c.slot
  left_at leaves.Swaps st = list_at (value_at m2) c end st.0 st.2
  left_at (leaves.Settles settle) st =
      let back = steps_back (leave.settled c) m m2 (settle_plan defers settle) end st in
      ap (λ (p : Leave × Settled T). p.0.slot) back.2 ∙ settled_at (value_at m2) c end back.0.0 back.0.1
  left_at leaves.Frees st = ap (λ (p : Leave × Settled T). p.0.slot) st.2
  left_at leaves.Over st = ap (λ (p : Leave × Settled T). p.0.slot) st.1
