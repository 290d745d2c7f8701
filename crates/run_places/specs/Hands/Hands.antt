-- In whose hands the blocks are that a moment of a run has in maps: in nobody's.
use Rattle.std.specs.Prelude.{◌≡◌, ℕ, ◌<◌, ◌≤◌, true, length, Some}
use Rattle.run_shows.specs.Given.SeizeWorld.{Hand, InUse, LeftTo}
use Rattle.run_shows.specs.Given.RunsDeclared.effect.TableId.{TableId}
use Rattle.run_shows.specs.Given.SchedulesMoment.{InMap, MapThere, Moment}
use Rattle.run_shows.specs.Given.SchedulesViews.{is_in_a_map, map_at}
use Rattle.run_shows.specs.Given.EffectsKnown.{Known}
use Rattle.run_shows.specs.Given.EffectsDeclared.role.Role.TheVariants as role
use Rattle.run_shows.specs.Given.FinishesMaps.{Standing}
use Rattle.run_shows.specs.Scenes.Scene.{Scene}

-- the block is in use in its map, or left over by that: no caller, and no row, has it to unlink it, or to hand it over
abbrev pub IsInUse : Hand → Type 0
IsInUse (InUse o) = Unit {0}
IsInUse (LeftTo i) = Unit {0}
IsInUse _ = ⊥

pub record RefinesHands {K V : Type 0} (m : Moment K V) (known : Known) (s : Scene K V) : Type 0 where
  -- so is each pair that is in a map, and each table that the root has not passed
  pub pairs : (b n : ℕ) → known.roles b ≡ role.Pair n → is_in_a_map (m.place n) ≡ true → IsInUse (s.world.hand b)
  pub tables : (b len : ℕ) (t : TableId) (there : MapThere) → known.roles b ≡ role.Table t len → map_at t.map m ≡ Some there → there.first ≤ t.turn → IsInUse (s.world.hand b)
  -- a pair is in no map but in that in which it was stored
  pub born : (n map : ℕ) → m.place n ≡ InMap map → (n ≤ length m.stored) × ((m.born n).map ≡ map)
  -- a map that stands has had each of its tables, and from the root on they stand in their blocks
  pub stand : (b len : ℕ) (t : TableId) (standing : Standing K) → known.roles b ≡ role.Table t len → s.maps t.map ≡ Some standing
      → (t.turn < standing.chart.past) × (standing.chart.first ≤ t.turn → b ≡ standing.blocks.table t.turn)
