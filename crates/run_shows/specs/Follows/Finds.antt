-- What an effect of a step of a call finds of the pairs and the tables of its map.
use Rattle.std.specs.Prelude.{◌≡◌, ℕ, ◌+◌, true, length}
use Rattle.run_effects.specs.Given.RunsDeclared.effect.Effect.{Effect}
use Rattle.run_effects.specs.Given.RunsDeclared.effect.Effect.TheVariants.{Linked, Promoted, Stored, Replaced, Removed}
use Rattle.run_effects.specs.Given.RunsDeclared.effect.Spot.{Spot}
use Rattle.run_effects.specs.Given.RunsDeclared.effect.TableId.{TableId}
use Rattle.run_effects.specs.Given.SchedulesGrowing.{IsNextRoot}
use Rattle.run_effects.specs.Given.SchedulesLives.{IsFrom}
use Rattle.run_effects.specs.Given.SchedulesMoment.{InMap, Moment}
use Rattle.run_effects.specs.Given.SchedulesViews.{map_at, grows_in_chunks, is_linked, first_of, tables_of, is_stage, is_place}

module _ {K V : Type 0} (map : ℕ) (m : Moment K V) where
  -- a pair may be stored there: in a linked table from the root on; in blocking mode, in the root's
  abbrev pub MayStandAt : Spot → Type 0
  MayStandAt s = (is_place is_linked map s m ≡ true) × IsFrom (grows_in_chunks (map_at map m)) (first_of map m) s.turn

  -- the root may come on to this table
  abbrev pub MayBeRoot : TableId → Type 0
  MayBeRoot t = (is_stage is_linked t m ≡ true) × IsNextRoot (grows_in_chunks (map_at map m)) (first_of map m) t.turn (tables_of map m)

  -- A pair that leaves the map is in it. The pair that is stored gets the next number, and the table that is linked the next turn.
  abbrev pub FindsMap : Effect → Type 0
  FindsMap (Linked t shape) = (t.map ≡ map) × (t.turn ≡ length (tables_of map m))
  FindsMap (Promoted t) = (t.map ≡ map) × MayBeRoot t
  FindsMap (Stored n s) = (n ≡ length m.stored + 1) × MayStandAt s
  FindsMap (Replaced n) = m.place n ≡ InMap map
  FindsMap (Removed n) = m.place n ≡ InMap map
  FindsMap _ = Unit {0}
