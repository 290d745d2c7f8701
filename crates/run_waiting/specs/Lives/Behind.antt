-- What waits behind tables at a moment of a run: it is told to be there, and its blocks are there, one behind the other.
use Rattle.std.specs.Prelude.{◌≡◌, ◌⊎◌, ℕ, true, List, [], ◌∷◌, Some}
use Rattle.run_debts.specs.Given.SeizeWorld.{World, Hand, LeftTo}
use Rattle.run_debts.specs.Given.TablesDeclared.node.Node.{Node}
use Rattle.run_debts.specs.Given.RunsDeclared.effect.TableId.{TableId}
use Rattle.run_debts.specs.Given.SchedulesLists.{is_among}
use Rattle.run_debts.specs.Given.SchedulesMoment.{Behind, Deferral, Moment}
use Rattle.run_debts.specs.Given.SchedulesThings.{same_table}
use Rattle.run_debts.specs.Given.SchedulesViews.{behind}
use Rattle.run_debts.specs.Given.EffectsKnown.{Known}
use Rattle.run_debts.specs.Given.EffectsDeclared.role.Role.TheVariants as role
use Rattle.run_debts.specs.Given.SpotsUnreclaimed.{is_unreclaimed}
use Rattle.run_waiting.specs.Lives.Waiting.{waits_behind}

-- what it was of has ended, and it can only be taken away
abbrev pub IsLeft : Hand → Type 0
IsLeft (LeftTo i) = Unit {0}
IsLeft _ = ⊥

-- no block that is noted as a table is left over
abbrev pub NoTableLeft : {K V : Type 0} → Known → World (Node K V) → Type 0
NoTableLeft known w = (b len : ℕ) (t : TableId) → known.roles b ≡ role.Table t len → IsLeft (w.hand b) → ⊥

-- The pair has a block, and so has the table. That one waits behind this one; or both are left over, since their map ends.
pub record IsDeferredTo {K V : Type 0} (known : Known) (w : World (Node K V)) (n : ℕ) (t : TableId) : Type 0 where
  pub pair : ℕ
  pub is_pair : known.roles pair ≡ role.Pair n
  pub table : ℕ
  pub len : ℕ
  pub is_table : known.roles table ≡ role.Table t len
  pub waits : (waits_behind pair w.log ≡ Some table) ⊎ (IsLeft (w.hand pair) × IsLeft (w.hand table))

-- this is so of each pair that waits, and of the table that it waits behind
abbrev pub EachWaits : (ℕ → TableId → Type 0) → List Deferral → Type 0
EachWaits P [] = Unit {0}
EachWaits P (d ∷ deferred) = P d.pair d.behind × EachWaits P deferred

module _ {K V : Type 0} where
  -- each pair that waits behind a table is told to be behind one, and its block lies behind that of this table
  abbrev pub RefinesWaiting : Moment K V → Known → World (Node K V) → Type 0
  RefinesWaiting m known w = EachWaits (λ n t. (m.place n ≡ Behind) × IsDeferredTo known w n t) m.deferred

-- The promise: so nothing is reclaimed that waits behind a table.
abbrev pub WaitingIsThere : Type 0 → Type 0 → Type 0
WaitingIsThere K V =
    (m : Moment K V) (known : Known) (w : World (Node K V)) → RefinesWaiting m known w → (t : TableId) (n : ℕ) → is_among n (behind t m.deferred) ≡ true → is_unreclaimed (m.place n) ≡ true

-- each pair that waits is told to be behind one table
abbrev pub WaitsOnce : List Deferral → Type 0
WaitsOnce deferred = EachWaits (λ n t. (u : TableId) → is_among n (behind u deferred) ≡ true → same_table t u ≡ true) deferred
