-- What the words of tables say of where pairs lie, and what effects find there.
use Rattle.std.specs.Prelude.{◌≡◌, ℕ, ◌+◌, Bool, true, false, List, [], ◌∷◌, Some}
use Rattle.run_shows.specs.Given.TablesDeclared.node.Node.{Node}
use Rattle.run_shows.specs.Given.RawDeclared.machines.progress.Progress.{Progress}
use Rattle.run_shows.specs.Given.RunsDeclared.effect.Effect.{Effect}
use Rattle.run_shows.specs.Given.RunsDeclared.effect.Effect.TheVariants.{Stored, Replaced, Copied}
use Rattle.run_shows.specs.Given.SchedulesLives.{MayCopy}
use Rattle.run_shows.specs.Given.SchedulesTries.{has_pair_at}
use Rattle.run_shows.specs.Given.SchedulesMoment.{Moment}
use Rattle.run_shows.specs.Given.SchedulesThings.{same_spot}
use Rattle.run_shows.specs.Given.SchedulesViews.{map_at, grows_in_chunks}
use Rattle.run_shows.specs.Given.CallersTogether.{UnderWay}
use Rattle.run_shows.specs.Given.EffectsEffects.{effects_of}
use Rattle.run_shows.specs.Given.EffectsKnown.{Known}
use Rattle.run_shows.specs.Given.EffectsDeclared.acting.Acting.TheVariants.{Call}
use Rattle.run_shows.specs.Follows.Shows.{Refines}
use Rattle.run_places.specs.Spots.Spots.{RefinesPlaces}
use Rattle.run_places.specs.Spots.Unreclaimed.{RefinesUnreclaimed}
use Rattle.run_shows.specs.Scenes.Held.{Held, IsAt}
use Rattle.run_shows.specs.Scenes.Scene.{Scene}
use Rattle.run_shows.specs.Scenes.Stepping.{StepLeads}

module _ {K V : Type 0} (map : ℕ) (m : Moment K V) where
  -- A pair is copied to a table that comes after the one in which it lies. One that is stored takes a place where no pair of the map lies, or that of the
  -- pair that it replaces.
  abbrev pub FindPlaces : List Effect → Type 0
  FindPlaces (Copied n s ∷ []) = MayCopy (grows_in_chunks (map_at map m)) map m n s
  FindPlaces (Stored n s ∷ []) = has_pair_at map s m ≡ false
  FindPlaces (Replaced p ∷ Stored n s ∷ []) = same_spot (m.spot p) s ≡ true
  FindPlaces _ = Unit {0}

module _ (K V : Type 0) (same : K → K → Bool) (hash : ℕ → K → ℕ) where
  -- The promise: a step of a call finds where it stores or copies a pair, or replaces one, what it must.
  abbrev pub CallsFindPlaces : Type 0
  CallsFindPlaces =
      (name : ℕ → List ℕ) (m : Moment K V) (known : Known) (s : Scene K V) (old new : Held K V) → IsAt same hash old s → Refines same name m known s → RefinesPlaces m known s.maps → RefinesUnreclaimed m known
      → (map i : ℕ) (u : UnderWay K V K) → s.calls map i ≡ Some u → (told : Progress (Node K V)) → StepLeads same hash i told s old new → FindPlaces map m (effects_of (Call i map) known new.changed)
