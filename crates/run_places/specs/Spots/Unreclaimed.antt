-- Which blocks are not reclaimed at a moment of a run: those of the pairs and the tables that were not given back.
use Rattle.std.specs.Prelude.{◌≡◌, ℕ, Bool, true, false}
use Rattle.run_shows.specs.Given.RunsDeclared.effect.TableId.{TableId}
use Rattle.run_shows.specs.Given.SchedulesMoment.{Place, Unborn, GivenBack, Moment}
use Rattle.run_shows.specs.Given.SchedulesViews.{is_there, is_stage}
use Rattle.run_shows.specs.Given.EffectsKnown.{Known}
use Rattle.run_shows.specs.Given.EffectsDeclared.role.Role.TheVariants as role

-- the pair was stored, and is not reclaimed
abbrev pub is_unreclaimed : Place → Bool
is_unreclaimed Unborn = false
is_unreclaimed GivenBack = false
is_unreclaimed _ = true

-- A block that was stored as a pair of the run holds one that is not reclaimed, and each such pair has its block. So it is with tables, and none has two.
pub record RefinesUnreclaimed {K V : Type 0} (m : Moment K V) (known : Known) : Type 0 where
  pub pairs : (b k : ℕ) → known.roles b ≡ role.Pair k → is_unreclaimed (m.place k) ≡ true
  pub pairs_there : (k : ℕ) → is_unreclaimed (m.place k) ≡ true → (b : ℕ) × (known.roles b ≡ role.Pair k)
  pub tables : (b len : ℕ) (t : TableId) → known.roles b ≡ role.Table t len → is_stage is_there t m ≡ true
  pub tables_there : (t : TableId) → is_stage is_there t m ≡ true → (b : ℕ) × (len : ℕ) × (known.roles b ≡ role.Table t len)
  pub tables_once : (b d len len2 : ℕ) (t : TableId) → known.roles b ≡ role.Table t len → known.roles d ≡ role.Table t len2 → b ≡ d
