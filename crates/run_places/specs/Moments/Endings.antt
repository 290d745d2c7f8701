-- Ends of maps: where one begins, and takes its steps, the moment shows all of the scene then.
use Rattle.std.specs.Prelude.{◌≡◌, ℕ, true, false, Bool, List, Some, None}
use Rattle.run_shows.specs.Given.SeizeDeclared.rows.settle.Settled.{Settled}
use Rattle.run_shows.specs.Given.TablesDeclared.node.Node.{Node}
use Rattle.run_shows.specs.Given.RunsDeclared.effect.Effect.{Effect}
use Rattle.run_shows.specs.Given.RunsDeclared.effect.Effect.TheVariants.{Taken}
use Rattle.run_shows.specs.Given.SchedulesEffects.{with_effects, AtEachEffect}
use Rattle.run_shows.specs.Given.SchedulesLists.{is_among}
use Rattle.run_shows.specs.Given.RunsSame.{is_same}
use Rattle.run_shows.specs.Given.SchedulesMoment.{MapThere, Remains, Moment}
use Rattle.run_shows.specs.Given.SchedulesViews.{map_at, behind}
use Rattle.run_shows.specs.Given.EffectsEffects.{effects_of, known_after}
use Rattle.run_shows.specs.Given.EffectsKnown.{Known}
use Rattle.run_shows.specs.Given.EffectsDeclared.acting.Acting.TheVariants.{Ending}
use Rattle.run_shows.specs.Given.FinishesEndings.{Finishing}
use Rattle.run_shows.specs.Given.FinishesMaps.{Standing}
use Rattle.run_shows.specs.Others.Endings.{ending_after, without_map}
use Rattle.run_places.specs.Spots.Unreclaimed.{is_unreclaimed}
use Rattle.run_places.specs.Moments.Numbers.{AreFound}
use Rattle.run_places.specs.Moments.Whole.{RefinesWhole}
use Rattle.run_shows.specs.Scenes.Ending.{EndingLeads, ending_begun}
use Rattle.run_shows.specs.Scenes.Held.{Held, IsAt}
use Rattle.run_shows.specs.Scenes.Scene.{Scene}

-- a table that ends with this map is one of it
abbrev pub IsOfIts : {K V : Type 0} → ℕ → Moment K V → Effect → Type 0
IsOfIts map m (Taken t) = t.map ≡ map
IsOfIts map m _ = Unit {0}

-- what waits behind a table that ends with its map is not reclaimed
abbrev pub WaitsOn : {K V : Type 0} → Moment K V → Effect → Type 0
WaitsOn m (Taken t) = (n : ℕ) → is_among n (behind t m.deferred) ≡ true → is_unreclaimed (m.place n) ≡ true
WaitsOn m _ = Unit {0}

module _ (K V : Type 0) (same : K → K → Bool) (hash : ℕ → K → ℕ) where
  -- The promises: so it is where the end of a map begins,
  abbrev pub EndingsBeginWhole : Type 0
  EndingsBeginWhole =
      (name : ℕ → List ℕ) (m : Moment K V) (known : Known) (s : Scene K V) (new : Held K V) → RefinesWhole same name m known s
      → (map i : ℕ) (standing : Standing K) → s.maps map ≡ Some standing → IsAt same hash new (ending_begun map i standing s) → RefinesWhole same name m known (ending_begun map i standing s)

  -- and after a step of it: a table that ends with its map is one of it, and what waits behind that is not reclaimed.
  abbrev pub EndingsPreserveWhole : Type 0
  EndingsPreserveWhole =
      (name : ℕ → List ℕ) (m : Moment K V) (known : Known) (s : Scene K V) (old new : Held K V) → IsAt same hash old s → RefinesWhole same name m known s
      → (i : ℕ) (told : Settled (Node K V)) (leads : EndingLeads same hash i told s old new) (f : Finishing K V) (here : s.enders i ≡ Some f) (map : ℕ) → s.maps map ≡ None
      → AtEachEffect (IsOfIts map) None (Some map) (effects_of (Ending map) known new.changed) m
      → AtEachEffect WaitsOn None (Some map) (effects_of (Ending map) known new.changed) m
      → (let to = leads f here in
      RefinesWhole same name (with_effects None (Some map) (effects_of (Ending map) known new.changed) m) (known_after (Ending map) new.changed known)
      (ending_after same hash s new i f to.0 to.2.w2 to.2.deed told to.3))

module _ (K V : Type 0) (same : K → K → Bool) where
  -- And where it is over, the map is there no more, and no map that stands has its name.
  abbrev pub EndingsAreOverWhole : Type 0
  EndingsAreOverWhole =
      (name : ℕ → List ℕ) (m : Moment K V) (known : Known) (s : Scene K V) → RefinesWhole same name m known s → (own : List ℕ) (remains : List Remains) → AreFound m
      → ((map : ℕ) (standing : Standing K) (there : MapThere) → s.maps map ≡ Some standing → map_at map m ≡ Some there → is_same there.name own ≡ false)
      → RefinesWhole same name (without_map own remains m) known s
