-- Which outcomes of a settling go on, and so what may be run of it, and where that leads.
use Rattle.std.specs.Prelude.{ℕ, Option}
use Rattle.seize_words.specs.OneMemory.Op.{Op, Out}
use Rattle.seize.specs.Settle.{settle_plan}
use Rattle.seize.specs.declared.rows.settle.Settle.{Settle}
use Rattle.seize.specs.declared.rows.settle.Settled.{Settled}
use Rattle.seize.specs.declared.rows.settle.Settled.TheVariants as settled
use Rattle.seize_straight.specs.Reaches.{Reached, Reaches}
use Rattle.seize_straight.specs.Runs.{Leads, MayRun}

-- a settling that tells this takes a further step, and has given nothing back
abbrev pub SettleGoes : {T : Type 0} → Settled T → Type 0
SettleGoes settled.Goes = Unit {0}
SettleGoes settled.Waits = Unit {0}
SettleGoes _ = ⊥

-- it takes a further step where what it gives back is dropped
abbrev pub DropGoes : {T : Type 0} → Settled T → Type 0
DropGoes settled.Done = ⊥
DropGoes _ = Unit {0}

module _ {T M : Type 0} (defers : T → Option ℕ) (took : M → Op T → Out T → M → Type 0) (shown : M → ℕ → Option T) where
  -- a settling may be run from this point on
  abbrev pub MaySettle : (M → Op T → Type 0) → Settle → M → Type 0
  MaySettle = MayRun (SettleGoes {T = T}) took shown (settle_plan defers)

  -- steps of it lead from the one point to the other
  abbrev pub SettleLeads : Settle → M → Settle → M → Type 0
  SettleLeads = Leads (SettleGoes {T = T}) took shown (settle_plan defers)

  -- it has come to a point, or to what it told
  abbrev pub SettleReaches : Settle → M → M → Reached Settle (Settled T) → Type 0
  SettleReaches = Reaches (SettleGoes {T = T}) took shown (settle_plan defers)

  -- the same, where what it gives back is dropped
  abbrev pub MayDrop : (M → Op T → Type 0) → Settle → M → Type 0
  MayDrop = MayRun (DropGoes {T = T}) took shown (settle_plan defers)

  abbrev pub DropLeads : Settle → M → Settle → M → Type 0
  DropLeads = Leads (DropGoes {T = T}) took shown (settle_plan defers)
