-- Makings of maps: where one begins, its map comes, and it takes its steps, the moment shows all of the scene then.
use Rattle.std.specs.Prelude.{◌≡◌, ℕ, Bool, List, [], Option, Some, None}
use Rattle.run_shows.specs.Given.SeizeWorld.{with_at}
use Rattle.run_shows.specs.Given.SeizeDeclared.advance.Advance.{Advance}
use Rattle.run_shows.specs.Given.TablesDeclared.setting.Setting.{Setting}
use Rattle.run_shows.specs.Given.SchedulesBeginning.{with_map}
use Rattle.run_shows.specs.Given.SchedulesEffects.{with_effects}
use Rattle.run_shows.specs.Given.SchedulesMoment.{MapThere, Moment}
use Rattle.run_shows.specs.Given.SchedulesViews.{tables_of}
use Rattle.run_shows.specs.Given.EffectsEffects.{effects_of, known_after}
use Rattle.run_shows.specs.Given.EffectsKnown.{Known}
use Rattle.run_shows.specs.Given.EffectsDeclared.acting.Acting.TheVariants.{Making}
use Rattle.run_shows.specs.Given.FinishesMakings.{Beginning, HasMade}
use Rattle.run_shows.specs.Follows.Shows.{Refines}
use Rattle.run_shows.specs.Others.Makings.{WasNew, making_after}
use Rattle.run_places.specs.Spots.Unreclaimed.{RefinesUnreclaimed}
use Rattle.run_places.specs.Moments.Whole.{RefinesWhole}
use Rattle.run_shows.specs.Scenes.Held.{Held, IsAt}
use Rattle.run_shows.specs.Scenes.Making.{MakingLeads}
use Rattle.run_shows.specs.Scenes.Scene.{Scene}

module _ (K V : Type 0) (same : K → K → Bool) where
  -- The promises: so it is where a making begins, which has made no counter yet,
  abbrev pub MakingsBeginWhole : Type 0
  MakingsBeginWhole =
      (name : ℕ → List ℕ) (m : Moment K V) (known : Known) (s : Scene K V) → RefinesWhole same name m known s
      → (i : ℕ) (b : Beginning K) → (HasMade b.machine.stands → ⊥) → RefinesWhole same name m known (record s { makers = with_at s.makers i (Some b) })

  -- and where its map is there, by a number of which there is no table.
  abbrev pub MapsComeWhole : Type 0
  MapsComeWhole =
      (name : ℕ → List ℕ) (m : Moment K V) (known : Known) (s : Scene K V) → RefinesWhole same name m known s
      → (there : MapThere) → tables_of there.number m ≡ [] → RefinesWhole same name (with_map there m) known s

module _ (K V : Type 0) (same : K → K → Bool) (hash : ℕ → K → ℕ) where
  -- The promise, on whichever map its effects are told, if on any: the same blocks are unreclaimed as are pairs and tables of maps, where the map, if it stands then,
  -- was there as a new one.
  abbrev pub MakingsPreserveBlocks : Type 0
  MakingsPreserveBlocks =
      (name : ℕ → List ℕ) (m : Moment K V) (known : Known) (s : Scene K V) (old new : Held K V) → IsAt same hash old s → Refines same name m known s → RefinesUnreclaimed m known
      → (i : ℕ) (told : Advance Setting) → MakingLeads same hash i told s old new → (b : Beginning K) → s.makers i ≡ Some b → (of : Option ℕ) → WasNew b.map told m
      → RefinesUnreclaimed (with_effects None of (effects_of (Making b.map) known new.changed) m) (known_after (Making b.map) new.changed known)

  -- And all is shown after each step of a making, whether its map is there or not; after the last one with the map, if that stands, and was there as a new one.
  abbrev pub MakingsPreserveWhole : Type 0
  MakingsPreserveWhole =
      (name : ℕ → List ℕ) (m : Moment K V) (known : Known) (s : Scene K V) (old new : Held K V) → IsAt same hash old s → RefinesWhole same name m known s
      → (i : ℕ) (told : Advance Setting) (leads : MakingLeads same hash i told s old new) (b : Beginning K) (here : s.makers i ≡ Some b) (of : Option ℕ) → WasNew b.map told m
      → (let to = leads b here in
      RefinesWhole same name (with_effects None of (effects_of (Making b.map) known new.changed) m) (known_after (Making b.map) new.changed known)
      (making_after same hash s old new i b to.0 to.2.step.w2 told to.3))
