-- Making a slot active, and giving it up: one store each.
use Rattle.seize_words.specs.declared.at.At.TheVariants.{Slot}
use Rattle.seize_words.specs.OneMemory.Op.{Store}
use Rattle.seize_words.specs.OneMemory.Plan.{Plan, Do, Now}
use Rattle.seize.specs.declared.states.TheConstants.{HEAD, ACTIVE, FREE}
use Rattle.seize.specs.declared.advance.Advance.{Advance}
use Rattle.seize.specs.declared.advance.Advance.TheVariants.{Done}
use Rattle.seize.specs.declared.rows.enter.Enter.{Enter}
use Rattle.seize.specs.declared.rows.enter.Unregister.{Unregister}

module _ {T : Type 0} where
  abbrev pub enter_plan : Enter → Plan T (Enter × Advance Unit)
  enter_plan c = Do (Store (Slot c.slot HEAD) ACTIVE) (λ out. Now (c, Done tt))

  abbrev pub unregister_plan : Unregister → Plan T (Unregister × Advance Unit)
  unregister_plan c = Do (Store (Slot c.slot HEAD) FREE) (λ out. Now (c, Done tt))
