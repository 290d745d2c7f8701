-- What an end of a map has left over so far is noted as the pairs that waited behind its tables as it began, in their order.
use Rattle.std.specs.Prelude.{◌≡◌, ◌<◌, ◌≤◌, ◌-◌, ℕ, zero, suc, Bool, true, false, List, [], ◌++◌, map as each_of}
use Rattle.seize.specs.World.{World}
use Rattle.papaya_raw.specs.Given.TablesDeclared.node.Node.{Node}
use Rattle.papaya_raw.specs.declared.machines.end_map.EndMap.{EndMap}
use Rattle.run_executor.specs.Given.RuleChart.{Chart}
use Rattle.run_schedules.specs.Schedules.Moment.{Deferral, Moment}
use Rattle.run_schedules.specs.Schedules.Views.{behind}
use Rattle.run_executor.specs.Given.EffectsKnown.{Known}
use Rattle.run_executor.specs.Given.EffectsDeclared.role.Role.TheVariants as role
use Rattle.run_executor.specs.Given.FinishesEndings.{Finishing, FinishingFacts, waiting_by}
use Rattle.run_executor.specs.Given.FinishesFactsEnds.{Deed, taken_by}
use Rattle.run_executor.specs.Given.FollowsMaps.{table_of}

-- the pairs that wait behind so many tables of a map, from this one on
abbrev pub waited_behind : ℕ → List Deferral → ℕ → ℕ → List ℕ
waited_behind map ds t zero = []
waited_behind map ds t (suc tables) = behind (table_of map t) ds ++ waited_behind map ds (suc t) tables

-- The end of the map began at the first moment, and has left over the tables before this one, and what waits: that is noted as the pairs that waited behind those tables. Behind each
-- later table the same pairs wait as then.
pub record WaitsSo {K V : Type 0} (map : ℕ) (c : Chart K) (first m : Moment K V) (known : Known) (past : ℕ) (waits : List ℕ) : Type 0 where
  pub noted : each_of known.roles waits ≡ each_of role.Pair (waited_behind map first.deferred c.first (past - c.first))
  pub still : (t : ℕ) → past ≤ t → t < c.past → behind (table_of map t) m.deferred ≡ behind (table_of map t) first.deferred

-- so it is of an end that is under way,
abbrev pub ReportsWaiting : {K V : Type 0} → (K → K → Bool) → ℕ → ℕ → Finishing K V → Moment K V → Moment K V → Known → World (Node K V) → Type 0
ReportsWaiting same map i f first m known w = (size : ℕ) (k : FinishingFacts same size w i f) → WaitsSo map f.chart first m known k.past f.waits

-- and of all tables, once it is over.
abbrev pub ReportsLeft : {K V : Type 0} → ℕ → Chart K → Moment K V → Known → List ℕ → Type 0
ReportsLeft map c first known waits = each_of known.roles waits ≡ each_of role.Pair (waited_behind map first.deferred c.first (c.past - c.first))

-- where it has come by a deed
abbrev pub ReportsThen : {K V : Type 0} → (K → K → Bool) → ℕ → ℕ → Finishing K V → (over : Bool) → EndMap → Deed → Moment K V → Moment K V → Known → World (Node K V) → Type 0
ReportsThen same map i f true ending deed first m known w = ReportsLeft map f.chart first known f.waits
ReportsThen same map i f false ending deed first m known w =
    ReportsWaiting same map i (record f { machine = ending; back = f.back ++ taken_by deed; waits = f.waits ++ waiting_by deed }) first m known w
