-- What is nothing to what is shown: of a moment all but its pairs, maps, tables and calls, and of a scene all but its memory, who has which block, its maps, and
-- its calls.
use Rattle.std.specs.Prelude.{◌≡◌, ℕ, Bool, List}
use Rattle.run_effects.specs.Given.SchedulesMoment.{Moment}
use Rattle.many_maps.specs.Maps.{IsSameMap}
use Rattle.run_effects.specs.Effects.Known.{Known}
use Rattle.run_shows.specs.Follows.Shows.{Refines}
use Rattle.run_shows.specs.Others.After.{RefinesAfter}
use Rattle.run_shows.specs.Scenes.Scene.{Scene}

-- the moment has the same pairs, maps, tables and calls
pub record HasSame {K V : Type 0} (m m2 : Moment K V) : Type 0 where
  pub place : m2.place ≡ m.place
  pub born : m2.born ≡ m.born
  pub stored : m2.stored ≡ m.stored
  pub maps : m2.maps ≡ m.maps
  pub tables : m2.tables ≡ m.tables
  pub calls : m2.calls ≡ m.calls

-- the blocks of the scene are the same, in the same hands, and so are its calls, and its maps, but for what may be looked at
pub record HasSameScene {K V : Type 0} (s s2 : Scene K V) : Type 0 where
  pub memory : s2.world.memory ≡ s.world.memory
  pub hand : s2.world.hand ≡ s.world.hand
  pub maps : (map : ℕ) → IsSameMap (s.maps map) (s2.maps map)
  pub calls : s2.calls ≡ s.calls

-- The promise: then the scene is shown as before.
abbrev pub RefinedElsewhere : (K V : Type 0) → (K → K → Bool) → Type 0
RefinedElsewhere K V same =
    (name : ℕ → List ℕ) (m m2 : Moment K V) (known : Known) (s s2 : Scene K V) (shown : Refines same name m known s) → HasSame m m2 → HasSameScene s s2
    → RefinesAfter same name m known s shown m2 known s2
