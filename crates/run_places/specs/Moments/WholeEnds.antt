-- What a whole end of a map does: all of the map ends.
use Rattle.std.specs.Prelude.{◌≡◌, ◌-◌, ℕ, zero, suc, Bool, List, [], ◌∷◌, ◌++◌, map, flat_map, Some, None}
use Rattle.run_shows.specs.Given.TablesChunks.{is_incremental}
use Rattle.run_shows.specs.Given.RuleChart.{Chart}
use Rattle.run_shows.specs.Given.RunsDeclared.effect.Effect.{Effect}
use Rattle.run_shows.specs.Given.RunsDeclared.effect.Effect.TheVariants.{Ended, Taken}
use Rattle.run_shows.specs.Given.SchedulesAfter.{tables_taken}
use Rattle.run_shows.specs.Given.SchedulesEffects.{with_effects}
use Rattle.run_shows.specs.Given.SchedulesHanding.{tables_in}
use Rattle.run_shows.specs.Given.SchedulesMoment.{Moment}
use Rattle.run_shows.specs.Given.SchedulesViews.{size_of, chain_of}
use Rattle.run_shows.specs.Given.FinishesEndings.{AllPairsOnce}
use Rattle.run_shows.specs.Given.FinishesMaps.{Standing}
use Rattle.run_shows.specs.Given.FinishesOrders.{pairs_of}
use Rattle.run_shows.specs.Given.EffectsKnown.{Known}
use Rattle.run_shows.specs.Follows.Maps.{RefinesMap, table_of}

-- so many tables of a map end, from this one on
abbrev pub tables_ended : ℕ → ℕ → ℕ → List Effect
tables_ended number t zero = []
tables_ended number t (suc more) = Taken (table_of number t) ∷ tables_ended number (suc t) more

-- all of a map ends: its pairs, table by table, and by ascending place, and then its tables
abbrev pub all_ended : {K : Type 0} → Bool → ℕ → (ℕ → ℕ) → Chart K → List Effect
all_ended incremental of number c = map (λ n. Ended (number n)) (pairs_of incremental c) ++ tables_ended of c.first (c.past - c.first)

-- The promise: where all of a map ends that a moment shows, it has no pair then, and its tables end that were linked, from the root's on.
abbrev pub WholeEndsTakeAll : Type 0 → Type 0 → Type 0
WholeEndsTakeAll K V =
    (m : Moment K V) (known : Known) (of : ℕ) (number : ℕ → ℕ) (st : Standing K) → RefinesMap of number st m known → AllPairsOnce (is_incremental st.setting.mode) st.chart
    → (let did = all_ended (is_incremental st.setting.mode) of number st.chart in
    (size_of of (with_effects None (Some of) did m) ≡ 0) × (flat_map tables_taken did ≡ tables_in (chain_of of m)))
