-- Where pairs were copied from: an older table names each pair for ever that was put into a later one. And where those lay that were removed.
use Rattle.std.specs.Prelude.{◌≡◌, ◌≢◌, ℕ, ◌<◌, ◌≤◌, Bool, true, List, length, Some}
use Rattle.run_finds.specs.Given.TablesChunks.{is_incremental}
use Rattle.run_finds.specs.Given.SchedulesMoment.{Moment}
use Rattle.run_finds.specs.Given.RuleChart.{Phase, Still, Tombstone, Holds, Chart}
use Rattle.run_finds.specs.Given.EffectsKnown.{Known}
use Rattle.run_finds.specs.Given.FinishesMaps.{Standing}
use Rattle.run_finds.specs.Given.FollowsShows.{Refines}
use Rattle.run_finds.specs.Given.SpotsSpots.{spot_in}
use Rattle.run_finds.specs.Given.ScenesScene.{Scene}

module _ {K : Type 0} (c : Chart K) (n : ℕ) where
  -- this place of a table names the pair, and it is being copied, or was
  pub record IsSource (t i : ℕ) : Type 0 where
    pub made : t < c.past
    pub within : i < c.len t
    pub phase : Phase
    pub borrowed : Bool
    pub held : c.place t i ≡ Holds n phase borrowed
    pub moves : phase ≢ Still

  -- there is such a place in a table before this one
  pub record HasSource (turn : ℕ) : Type 0 where
    pub table : ℕ
    pub before : table < turn
    pub place : ℕ
    pub is : IsSource table place

module _ {K V : Type 0} (c : Chart K) (number : ℕ → ℕ) (m : Moment K V) where
  -- each pair that lies in a later table than the one in which it was stored came from a place of an older one
  abbrev pub CameFromPlaces : Type 0
  CameFromPlaces = (n : ℕ) → n < c.stored → (m.born (number n)).turn < (m.spot (number n)).turn → HasSource c n (m.spot (number n)).turn

module _ {K V : Type 0} (map : ℕ) (number : ℕ → ℕ) (st : Standing K) (m : Moment K V) where
  -- each pair that was stored in the map has its number there
  abbrev pub AreNumbered : Type 0
  AreNumbered = (k : ℕ) → 0 < k → k ≤ length m.stored → (m.born k).map ≡ map → (n : ℕ) × (n < st.chart.stored) × (number n ≡ k)

module _ {K V : Type 0} (c : Chart K) (map : ℕ) (m : Moment K V) where
  -- where a table has a tombstone a pair lay that was stored in the map
  abbrev pub WereLeft : Type 0
  WereLeft = (t i : ℕ) (mark : Bool) → c.place t i ≡ Tombstone mark → (k : ℕ) × (0 < k) × (k ≤ length m.stored) × ((m.born k).map ≡ map) × (m.spot k ≡ spot_in t i)

-- Of each map that stands: each pair that was stored there has its number; in one that grows in chunks each that lies in a later table than the one in which it was stored came from a place of an older one; and where a table has a tombstone a pair lay.
pub record RefinesSources {K V : Type 0} (same : K → K → Bool) (name : ℕ → List ℕ) (m : Moment K V) (known : Known) (s : Scene K V) : Type 0 where
  pub shown : Refines same name m known s
  pub numbered : (map : ℕ) (st : Standing K) → s.maps map ≡ Some st → AreNumbered map (shown.number map) st m
  pub came : (map : ℕ) (st : Standing K) → s.maps map ≡ Some st → is_incremental st.setting.mode ≡ true → CameFromPlaces st.chart (shown.number map) m
  pub left : (map : ℕ) (st : Standing K) → s.maps map ≡ Some st → WereLeft st.chart map m
