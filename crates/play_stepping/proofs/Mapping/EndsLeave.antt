-- What a map leaves over as it ends: the pairs that waited behind the tables that it took.
use Rattle.std.specs.Prelude.{◌≡◌, ◌-◌, ℕ, zero, suc, Bool, List, [], ◌∷◌, ◌++◌, flat_map, map}
use Rattle.std.proofs.Common.{refl, ap, sym, ◌∙◌}
use Rattle.play_scheduler.specs.Given.RuleChart.{Chart}
use Rattle.run_schedules.specs.declared.effect.Effect.{Effect}
use Rattle.run_schedules.specs.declared.effect.Effect.TheVariants.{Ended}
use Rattle.run_schedules.specs.declared.effect.TableId.{TableId}
use Rattle.run_schedules.specs.Schedules.After.{tables_taken}
use Rattle.run_schedules.specs.Schedules.Moment.{Deferral}
use Rattle.run_schedules.specs.Schedules.Views.{behind}
use Rattle.owner_whole.specs.Given.FinishesOrders.{pairs_of}
use Rattle.play_scheduler.specs.Given.FollowsMaps.{table_of}
use Rattle.run_executor.specs.Given.MomentsWholeEnds.{all_ended, tables_ended}
use Rattle.play_scheduler.specs.Given.ShedsWaits.{waited_behind}

-- what waits behind the tables that are taken
abbrev pub pairs_behind : List Deferral → List Effect → List ℕ
pairs_behind ds fs = flat_map (λ t. behind t ds) (flat_map tables_taken fs)

-- pairs that end take none
no_tables : (number : ℕ → ℕ) (xs : List ℕ) (rest : List Effect) → flat_map tables_taken (map (λ n. Ended (number n)) xs ++ rest) ≡ flat_map tables_taken rest
no_tables number [] rest = refl
no_tables number (x ∷ xs) rest = no_tables number xs rest

behind_tables : (of : ℕ) (ds : List Deferral) (t more : ℕ) → pairs_behind ds (tables_ended of t more) ≡ waited_behind of ds t more
behind_tables of ds t zero = refl
behind_tables of ds t (suc more) = ap (λ (ns : List ℕ). behind (table_of of t) ds ++ ns) (behind_tables of ds (suc t) more)

-- so what waited behind all tables of a map is what a whole end of it leaves over
pub waited_is : {K : Type 0} (incremental : Bool) (of : ℕ) (number : ℕ → ℕ) (c : Chart K) (ds : List Deferral)
    → waited_behind of ds c.first (c.past - c.first) ≡ pairs_behind ds (all_ended incremental of number c)
waited_is incremental of number c ds =
    sym (behind_tables of ds c.first (c.past - c.first))
    ∙ sym (ap (λ (ts : List TableId). flat_map (λ t. behind t ds) ts) (no_tables number (pairs_of incremental c) (tables_ended of c.first (c.past - c.first))))
