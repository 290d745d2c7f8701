-- How a slot's section ends: its list is taken, and counted down.
use Rattle.std.specs.Prelude.{ℕ, Bool, nat_lt, if◌then◌else◌, Option}
use Rattle.seize_words.specs.declared.at.At.TheVariants.{Slot}
use Rattle.seize_words.specs.OneMemory.Op.{Out, Store, Swap, Found}
use Rattle.seize_words.specs.OneMemory.Plan.{Plan, Then, Turn, Do, Now, plan_as}
use Rattle.seize.specs.declared.states.TheConstants.{HEAD, FREE, ACTIVE}
use Rattle.seize.specs.declared.rows.settle.Settle.{Settle}
use Rattle.seize.specs.declared.rows.settle.Settled.{Settled}
use Rattle.seize.specs.declared.rows.settle.Settled.TheVariants.{Goes, Waits, Gave, Done}
use Rattle.seize.specs.declared.rows.leave.Leave.{Leave}
use Rattle.seize.specs.declared.rows.leave.Leaving.{Leaving}
use Rattle.seize.specs.declared.rows.leave.Leaving.TheVariants as at
use Rattle.seize.specs.Settle.{counting_down, settle_plan}

-- a slot of a batch size leaves: what its head becomes, and whether its number is free again after it
abbrev pub leaving : ℕ → ℕ → ℕ → Bool → Leave
leaving slot size becomes frees = record { slot = slot; batch_size = size; becomes = becomes; frees = frees; stands = at.Swaps }

-- standing elsewhere
abbrev pub standing : Leave → Leaving → Leave
standing c stands = record c { stands = stands }

-- the list is counted down
abbrev pub counted_down : Leave → Leave
counted_down c = if c.frees then standing c at.Frees else standing c at.Over

module _ {T : Type 0} where
  -- a head that names no entry has no list to be counted down
  abbrev pub list_taken : Leave → Out T → Then T (Leave × Settled T)
  list_taken c (Found head) =
      if nat_lt ACTIVE head then Now (standing c (at.Settles (counting_down c.slot c.batch_size head)), Goes) else Now (counted_down c, Goes)
  list_taken c _ = Now (c, Goes)

  -- takes the list, and ends the section
  abbrev pub swaps : Leave → Plan T (Leave × Settled T)
  swaps c = Do (Swap (Slot c.slot HEAD) c.becomes) (list_taken c)

  -- a step of its settling, as a step of its own
  abbrev pub settled : Leave → Settle × Settled T → Leave × Settled T
  settled c (settle, Goes) = (standing c (at.Settles settle), Goes)
  settled c (settle, Waits) = (standing c (at.Settles settle), Waits)
  settled c (settle, Gave value) = (standing c (at.Settles settle), Gave value)
  settled c (settle, Done) = (counted_down c, Goes)

  -- makes the slot free
  abbrev pub frees : Leave → Plan T (Leave × Settled T)
  frees c = Do (Store (Slot c.slot HEAD) FREE) (λ out. Now (standing c at.Over, Goes))

  -- each point
  abbrev pub plan_at : (T → Option ℕ) → Leave → Leaving → Plan T (Leave × Settled T)
  plan_at defers c at.Swaps = swaps c
  plan_at defers c (at.Settles settle) = plan_as (settled c) (settle_plan defers settle)
  plan_at defers c at.Frees = frees c
  plan_at defers c at.Over = Turn (Now (c, Done))

  -- what its next step does
  abbrev pub leave_plan : (T → Option ℕ) → Leave → Plan T (Leave × Settled T)
  leave_plan defers c = plan_at defers c c.stands
