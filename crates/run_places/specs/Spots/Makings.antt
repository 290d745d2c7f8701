-- Where pairs lie, and what waits behind tables, after a step of the making of a map.
use Rattle.std.specs.Prelude.{◌≡◌, ℕ, Bool, List, Option, Some, None}
use Rattle.run_shows.specs.Given.SeizeDeclared.advance.Advance.{Advance}
use Rattle.run_shows.specs.Given.TablesDeclared.setting.Setting.{Setting}
use Rattle.run_shows.specs.Given.SchedulesEffects.{with_effects}
use Rattle.run_shows.specs.Given.SchedulesMoment.{Moment}
use Rattle.run_shows.specs.Given.FinishesMakings.{Beginning}
use Rattle.run_shows.specs.Given.EffectsEffects.{effects_of, known_after}
use Rattle.run_shows.specs.Given.EffectsKnown.{Known}
use Rattle.run_shows.specs.Given.EffectsDeclared.acting.Acting.TheVariants.{Making}
use Rattle.run_shows.specs.Follows.Shows.{Refines}
use Rattle.run_shows.specs.Others.Makings.{making_after}
use Rattle.run_places.specs.Spots.Deferred.{WaitOutside}
use Rattle.run_places.specs.Spots.Spots.{RefinesPlaces}
use Rattle.run_shows.specs.Scenes.Held.{Held, IsAt}
use Rattle.run_shows.specs.Scenes.Making.{MakingLeads}
use Rattle.run_shows.specs.Scenes.Scene.{Scene}

module _ (K V : Type 0) (same : K → K → Bool) (hash : ℕ → K → ℕ) where
  -- The promise, on whichever map its effects are told, if on any: pairs lie where they lay, none lies in the map that is made, and what waits behind tables
  -- stays outside of maps.
  abbrev pub MakingsLeavePlaces : Type 0
  MakingsLeavePlaces =
      (name : ℕ → List ℕ) (m : Moment K V) (known : Known) (s : Scene K V) (old new : Held K V) → IsAt same hash old s → Refines same name m known s
      → (i : ℕ) (told : Advance Setting) (leads : MakingLeads same hash i told s old new) (b : Beginning K) (here : s.makers i ≡ Some b) (of : Option ℕ) → RefinesPlaces m known s.maps → WaitOutside m
      → (let to = leads b here in
      RefinesPlaces (with_effects None of (effects_of (Making b.map) known new.changed) m) (known_after (Making b.map) new.changed known)
      (making_after same hash s old new i b to.0 to.2.step.w2 told to.3).maps
      × WaitOutside (with_effects None of (effects_of (Making b.map) known new.changed) m))
