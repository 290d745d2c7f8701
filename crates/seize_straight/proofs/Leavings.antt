-- The steps of the end of a slot's section that finds no list, over any memory.
use Rattle.std.specs.Prelude.{◌≡◌, ◌<◌, ◌≤◌, ℕ, Bool, true, false, Option}
use Rattle.std.proofs.Common.{refl}
use Rattle.std.proofs.lemmas.Bool.{le-ltb, lt-ltb}
use Rattle.seize_words.specs.OneMemory.Op.{Op, Out, Store, Swap, Found, Stored}
use Rattle.seize_words.specs.declared.at.At.TheVariants.{Slot}
use Rattle.seize.specs.Leave.{leave_plan, leaving, standing}
use Rattle.seize.specs.declared.rows.leave.Leaving.TheVariants as at
use Rattle.seize.specs.declared.rows.settle.Settled.TheVariants as settled
use Rattle.seize.specs.declared.states.TheConstants.{ACTIVE, FREE, HEAD}
use Rattle.seize_straight.specs.Going.{SettleGoes}
use Rattle.seize_straight.specs.Leaving.{leave_at}
use Rattle.seize_straight.specs.Runs.{Leads, EndsTelling}
use Rattle.seize_straight.proofs.Running.{Led, steps_to, tells_at}

module _ {T M : Type 0} (defers : T → Option ℕ) {can : M → Op T → Type 0} {took : M → Op T → Out T → M → Type 0} {shown : M → ℕ → Option T}
    {slot size becomes : ℕ} {frees : Bool} {m0 m1 : M} where
  -- the list is taken
  module _ {head : ℕ} (begun : Led (SettleGoes {T = T}) took shown (leave_plan defers) can (leaving slot size becomes frees) m0 (leaving slot size becomes frees) m0)
      (swaps : took m0 (Swap (Slot slot HEAD) becomes) (Found head) m1) where
    pub has_list : ACTIVE < head → Leads (SettleGoes {T = T}) took shown (leave_plan defers) (leaving slot size becomes frees) m0 (leave_at slot size becomes frees head) m1
    has_list more = (steps_to begun settled.Goes tt (leave_at slot size becomes frees head) m1 (Found head, swaps, rw (lt-ltb ACTIVE head more) refl)).leads

    -- there is none, and the slot keeps its number
    pub has_left : head ≤ ACTIVE → frees ≡ false → EndsTelling (SettleGoes {T = T}) took shown (leave_plan defers) (leaving slot size becomes frees) m0 m1 settled.Done
    has_left none keeps =
        let over = standing (leaving slot size becomes frees) at.Over in
        tells_at (steps_to begun settled.Goes tt over m1 (Found head, swaps, rw (le-ltb ACTIVE head none) (rw keeps refl))) settled.Done (λ x. x) over m1 (refl, refl)

    -- or gives it up
    pub to_free : head ≤ ACTIVE → frees ≡ true
        → Led (SettleGoes {T = T}) took shown (leave_plan defers) can (leaving slot size becomes frees) m0 (standing (leaving slot size becomes frees) at.Frees) m1
    to_free none gives =
        steps_to begun settled.Goes tt (standing (leaving slot size becomes frees) at.Frees) m1 (Found head, swaps, rw (le-ltb ACTIVE head none) (rw gives refl))

  pub has_freed : {m2 : M} → Led (SettleGoes {T = T}) took shown (leave_plan defers) can (leaving slot size becomes frees) m0 (standing (leaving slot size becomes frees) at.Frees) m1
      → took m1 (Store (Slot slot HEAD) FREE) Stored m2 → EndsTelling (SettleGoes {T = T}) took shown (leave_plan defers) (leaving slot size becomes frees) m0 m2 settled.Done
  has_freed {m2} l stores =
      let over = standing (leaving slot size becomes frees) at.Over in tells_at (steps_to l settled.Goes tt over m2 (Stored, stores, refl)) settled.Done (λ x. x) over m2 (refl, refl)
