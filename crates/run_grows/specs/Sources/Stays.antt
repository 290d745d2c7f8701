-- Where pairs were copied from is so still wherever tables are as they were, and pairs lie where they lay.
use Rattle.std.specs.Prelude.{◌≡◌, ◌≢◌, ◌⊎◌, ℕ, ◌<◌, ◌≤◌, Bool, List, length, Some}
use Rattle.run_finds.specs.Given.TablesChunks.{is_incremental}
use Rattle.run_finds.specs.Given.SchedulesMoment.{Moment}
use Rattle.run_finds.specs.Given.EffectsKnown.{Known}
use Rattle.run_finds.specs.Given.FinishesMaps.{Standing}
use Rattle.run_finds.specs.Given.RuleChart.{Tombstone}
use Rattle.run_finds.specs.Given.FollowsShows.{Refines}
use Rattle.run_grows.specs.Sources.Sources.{RefinesSources}
use Rattle.run_finds.specs.Given.ScenesScene.{Scene}

module _ {K V : Type 0} where
  -- pairs were stored where they were stored, and lie where they lay, and none has come
  pub record PairsStay (m v : Moment K V) : Type 0 where
    pub stored : length v.stored ≡ length m.stored
    pub born : (k : ℕ) → k ≤ length m.stored → v.born k ≡ m.born k
    pub spot : (k : ℕ) → k ≤ length m.stored → v.spot k ≡ m.spot k

  -- no pair was stored in this map
  abbrev pub NoneBorn : ℕ → Moment K V → Type 0
  NoneBorn map v = (k : ℕ) → 0 < k → k ≤ length v.stored → (v.born k).map ≡ map → ⊥

  -- a map stood before with these tables; or it is new, and no pair was stored there, nor removed
  abbrev pub MapIsAsBefore : Moment K V → Moment K V → Scene K V → ℕ → Standing K → Type 0
  MapIsAsBefore m v s map st2 =
      ((st : Standing K) × (s.maps map ≡ Some st) × (st2.chart ≡ st.chart) × (is_incremental st.setting.mode ≡ is_incremental st2.setting.mode))
      ⊎ ((st2.chart.stored ≡ 0) × NoneBorn map v × ((t i : ℕ) (mark : Bool) → st2.chart.place t i ≢ Tombstone mark))

-- The promise: so it stays wherever maps stand that stood before, with the tables that they had, or are new, and pairs lie where they lay.
abbrev pub SourcesStay : Type 0 → Type 0 → Type 0
SourcesStay K V =
    (same : K → K → Bool) (name : ℕ → List ℕ) (m v : Moment K V) (known known2 : Known) (s t : Scene K V) → RefinesSources same name m known s → Refines same name v known2 t → PairsStay m v
    → ((map : ℕ) (st2 : Standing K) → t.maps map ≡ Some st2 → MapIsAsBefore m v s map st2) → RefinesSources same name v known2 t
