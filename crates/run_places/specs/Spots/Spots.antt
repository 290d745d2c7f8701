-- Where the pairs of maps lie at a moment of a run: where the tables of their maps name them.
use Rattle.std.specs.Prelude.{◌≡◌, ◌≢◌, ℕ, ◌<◌, ◌≤◌, nat_lt, Bool, true, false, length, Option, Some}
use Rattle.run_shows.specs.Given.TablesChunks.{is_incremental}
use Rattle.run_shows.specs.Given.TablesDeclared.status.TheConstants.Status.{ABORTED}
use Rattle.run_shows.specs.Given.RunsDeclared.effect.Spot.{Spot}
use Rattle.run_shows.specs.Given.SchedulesMoment.{Moment}
use Rattle.run_shows.specs.Given.RuleChart.{Place, Holds, Chart}
use Rattle.run_shows.specs.Given.FinishesMaps.{Standing}
use Rattle.run_shows.specs.Given.EffectsKnown.{Known}
use Rattle.run_shows.specs.Given.EffectsDeclared.role.Role.TheVariants as role

-- which pair a place names, if it names one, and whether the pair is borrowed there
pub data Named : Type 0 where
  Nobody : Named
  ThePair : ℕ → Bool → Named

abbrev pub named_by : Place → Named
named_by (Holds n phase borrowed) = ThePair n borrowed
named_by _ = Nobody

abbrev pub spot_in : ℕ → ℕ → Spot
spot_in t i = record { turn = t; place = i }

module _ {K : Type 0} (c : Chart K) where
  -- In incremental mode a pair lies in the last table that names it, which is none before the root, and is borrowed there if it was stored in an earlier
  -- one. In blocking mode it lies in the root.
  abbrev pub LiesAt : Bool → ℕ → Spot → ℕ → Type 0
  LiesAt true n s born =
      (c.first ≤ s.turn) × (named_by (c.place s.turn s.place) ≡ ThePair n (nat_lt born s.turn)) × ((t i : ℕ) (b : Bool) → named_by (c.place t i) ≡ ThePair n b → t ≤ s.turn)
  LiesAt false n s born = (s.turn ≡ c.first) × (named_by (c.place s.turn s.place) ≡ ThePair n false)

  -- In blocking mode, where a table behind the root, which was not given up, names the pair, its newest copy is there. No such copy is told that is not there.
  pub record IsCopiedTo (n : ℕ) (s : Spot) : Type 0 where
    pub is : (t i : ℕ) (b : Bool) → c.first < t → c.status t ≢ ABORTED → named_by (c.place t i) ≡ ThePair n b → s ≡ spot_in t i
    pub there : c.first < s.turn → (b : Bool) × (named_by (c.place s.turn s.place) ≡ ThePair n b)

module _ {K : Type 0} (s : Standing K) (known : Known) where
  -- the pair may be looked at, and its block is the pair of this number
  abbrev pub IsPairOf : ℕ → ℕ → Type 0
  IsPairOf n k = (n < s.chart.stored) × (s.blocks.pair_known n ≡ true) × (known.roles (s.blocks.pair n) ≡ role.Pair k)

module _ {K V : Type 0} (s : Standing K) (m : Moment K V) (known : Known) where
  -- No table names a pair that was stored in a later one, and the first table was not given up. Each pair of the map lies where it is said to, and in blocking
  -- mode its newest copy does.
  pub record RefinesSpots : Type 0 where
    pub born : (n k t i : ℕ) (b : Bool) → IsPairOf s known n k → named_by (s.chart.place t i) ≡ ThePair n b → (m.born k).turn ≤ t
    pub whole : s.chart.status 0 ≢ ABORTED
    pub lies : (n k : ℕ) → IsPairOf s known n k → s.chart.current n ≡ true → LiesAt s.chart (is_incremental s.setting.mode) n (m.spot k) (m.born k).turn
    pub copied : is_incremental s.setting.mode ≡ false → (n k : ℕ) → IsPairOf s known n k → s.chart.current n ≡ true → IsCopiedTo s.chart n (m.copy k)

-- So does each map that stands, and no pair that is yet to come has a copy.
pub record RefinesPlaces {K V : Type 0} (m : Moment K V) (known : Known) (maps : ℕ → Option (Standing K)) : Type 0 where
  pub each : (map : ℕ) (standing : Standing K) → maps map ≡ Some standing → RefinesSpots standing m known
  pub fresh : (k : ℕ) → length m.stored < k → m.copy k ≡ spot_in 0 0
