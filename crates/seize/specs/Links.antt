-- A guard's work on links, each link a whole word: one operation each.
use Rattle.std.specs.Prelude.{ℕ, Result}
use Rattle.seize_words.specs.OneMemory.Op.{Out, Load, Swap as SwapWord, Or, Exchange, Found, Exchanged}
use Rattle.seize_words.specs.OneMemory.Plan.{Plan, Then, Do, Now}
use Rattle.seize.specs.declared.advance.Advance.{Advance}
use Rattle.seize.specs.declared.advance.Advance.TheVariants.{Goes, Done}
use Rattle.seize.specs.declared.rows.links.Protect.{Protect}
use Rattle.seize.specs.declared.rows.links.Swap.{Swap}
use Rattle.seize.specs.declared.rows.links.CompareExchange.{CompareExchange}
use Rattle.seize.specs.declared.rows.links.Mark.{Mark}
use Rattle.seize.specs.declared.rows.links.Copy.{Copy}

module _ {T C : Type 0} where
  -- the word that was found
  abbrev pub found : C → Out T → Then T (C × Advance ℕ)
  found c (Found word) = Now (c, Done word)
  found c _ = Now (c, Goes)

  -- the word that was found, and whether the new one replaced it
  abbrev pub exchanged : C → Out T → Then T (C × Advance (Result ℕ ℕ))
  exchanged c (Exchanged result) = Now (c, Done result)
  exchanged c _ = Now (c, Goes)

module _ {T : Type 0} where
  abbrev pub protect_plan : Protect → Plan T (Protect × Advance ℕ)
  protect_plan c = Do (Load c.link) (found c)

  abbrev pub swap_plan : Swap → Plan T (Swap × Advance ℕ)
  swap_plan c = Do (SwapWord c.link c.new) (found c)

  abbrev pub compare_exchange_plan : CompareExchange → Plan T (CompareExchange × Advance (Result ℕ ℕ))
  compare_exchange_plan c = Do (Exchange c.link c.old c.new) (exchanged c)

  abbrev pub mark_plan : Mark → Plan T (Mark × Advance ℕ)
  mark_plan c = Do (Or c.link c.marks) (found c)

  -- only an empty link is written
  abbrev pub copy_plan : Copy → Plan T (Copy × Advance (Result ℕ ℕ))
  copy_plan c = Do (Exchange c.link 0 c.word) (exchanged c)
