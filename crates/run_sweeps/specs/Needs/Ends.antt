-- What the end of a map finds: pairs that are in the map, and tables of it that are linked.
use Rattle.std.specs.Prelude.{◌≡◌, ◌<◌, ℕ, true, false, Some, None}
use Rattle.papaya_raw.specs.Given.TablesChunks.{is_incremental}
use Rattle.run_finds.specs.Given.RuleChart.{Chart}
use Rattle.run_schedules.specs.Schedules.Effects.{AtEachEffect}
use Rattle.run_schedules.specs.Schedules.Lives.{EventFinds}
use Rattle.run_schedules.specs.Schedules.Moment.{Moment}
use Rattle.run_finds.specs.Given.EffectsKnown.{Known}
use Rattle.run_kept.specs.Given.FinishesEndings.{AllPairsOnce}
use Rattle.run_finds.specs.Given.FinishesMaps.{Standing}
use Rattle.run_finds.specs.Given.FollowsMaps.{RefinesMap}
use Rattle.run_finds.specs.Given.MomentsWholeEnds.{all_ended}

-- these are the numbers of the pairs that a map has
abbrev pub NumbersPairs : {K : Type 0} → Chart K → (number other : ℕ → ℕ) → Type 0
NumbersPairs c number other = (n : ℕ) → c.current n ≡ true → number n ≡ other n

-- The promise: where all of a map ends that a moment shows, each pair is in the map as it ends, and each table is linked.
abbrev pub EndsFindAll : Type 0 → Type 0 → Type 0
EndsFindAll K V =
    (m : Moment K V) (known : Known) (of : ℕ) (shown number : ℕ → ℕ) (st : Standing K) → RefinesMap of shown st m known → AllPairsOnce (is_incremental st.setting.mode) st.chart
    → ((n : ℕ) → st.chart.current n ≡ true → n < st.chart.stored) → NumbersPairs st.chart number shown
    → AtEachEffect (EventFinds (Some of) false) None (Some of) (all_ended (is_incremental st.setting.mode) of number st.chart) m
