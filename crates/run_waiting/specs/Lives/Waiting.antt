-- Which block another one waits behind, by the log of effects.
use Rattle.std.specs.Prelude.{◌≡◌, ◌≢◌, ℕ, ◌==◌, List, [], ◌∷◌, Option, Some, None, if◌then◌else◌}
use Rattle.run_debts.specs.Given.SeizeLaw.{Effect, Deferred, Taken, LeftOver}
use Rattle.run_debts.specs.Given.SeizeWorld.{Row, Defers}
use Rattle.run_debts.specs.Given.SeizeFurther.{IsWordOf}
use Rattle.run_debts.specs.Given.SeizeDeclared.rows.defer.Deferring.TheVariants as deferring
use Rattle.run_debts.specs.Given.SeizeWordsWord.{link_to}

-- the block, unless it is this one
abbrev pub unless_it : ℕ → Option ℕ → Option ℕ
unless_it c None = None
unless_it c (Some t) = if t == c then None else Some t

-- the block behind which this one was put last, as long as that is neither reclaimed nor left over
abbrev pub waits_behind : ℕ → List Effect → Option ℕ
waits_behind b [] = None
waits_behind b (Deferred c t ∷ log) = if b == c then Some t else waits_behind b log
waits_behind b (Taken c ∷ log) = unless_it c (waits_behind b log)
waits_behind b (LeftOver c further ∷ log) = unless_it c (waits_behind b log)
waits_behind b (_ ∷ log) = waits_behind b log

-- the row is putting this block behind that one
abbrev pub IsPutting : ℕ → ℕ → Row → Type 0
IsPutting b t (Defers s c) = (c.stands ≢ deferring.Over) × (c.block ≡ link_to b) × IsWordOf t c.table_word
IsPutting b t _ = ⊥
