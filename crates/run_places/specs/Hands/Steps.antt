-- Where a step of a call leads: the scene after it refines the moment after its effects, and what its calls were told, with no condition on what it stores.
use Rattle.std.specs.Prelude.{◌≡◌, ℕ, Bool, List, Some}
use Rattle.run_shows.specs.Given.TablesDeclared.node.Node.{Node}
use Rattle.run_shows.specs.Given.RawDeclared.machines.progress.Progress.{Progress}
use Rattle.run_shows.specs.Given.SchedulesEffects.{with_effects, AtEachEffect}
use Rattle.run_shows.specs.Given.SchedulesMoment.{Moment}
use Rattle.run_shows.specs.Given.EffectsEffects.{effects_of, known_after}
use Rattle.run_shows.specs.Given.EffectsKnown.{Known}
use Rattle.run_shows.specs.Given.EffectsDeclared.acting.Acting.TheVariants.{Call}
use Rattle.run_shows.specs.Given.CallersTogether.{UnderWay}
use Rattle.run_shows.specs.Follows.Finds.{FindsMap}
use Rattle.run_shows.specs.Follows.Steps.{StoreTheirs, HandTheirs, TakesNone, IsOfNoRow}
use Rattle.run_places.specs.Hands.Shows.{RefinesHeld}
use Rattle.run_shows.specs.Scenes.Held.{Held, IsAt}
use Rattle.run_shows.specs.Scenes.Scene.{Scene}
use Rattle.run_shows.specs.Scenes.Stepping.{StepLeads, scene_after}

module _ (K V : Type 0) (same : K → K → Bool) (hash : ℕ → K → ℕ) where
  -- The promise, of a step of a call that is none of a row: it stores no pair but such as the call has to store, its effects find the map as they must, and
  -- lead to a moment that the scene after it refines, and what its calls were told, with what is known after it.
  abbrev pub CallsStoreTheirs : Type 0
  CallsStoreTheirs =
      (name : ℕ → List ℕ) (m : Moment K V) (known : Known) (s : Scene K V) (old new : Held K V) → IsAt same hash old s → RefinesHeld same name m known s
      → (map i : ℕ) (u : UnderWay K V K) (here : s.calls map i ≡ Some u) (told : Progress (Node K V)) (leads : StepLeads same hash i told s old new)
      → (let to = leads map u here in
      IsOfNoRow same old.batch_size old.roots s.world s.maps s.calls s.makers s.enders map to.0 i new.memory to.4.w2 to.4.maps2 to.4.next u to.1 told to.4.did
      → StoreTheirs s.world.memory new.changed (name i) map (effects_of (Call i map) known new.changed) m
      × AtEachEffect (FindsMap map) (Some (name i)) (Some map) (effects_of (Call i map) known new.changed) m
      × RefinesHeld same name (with_effects (Some (name i)) (Some map) (effects_of (Call i map) known new.changed) m) (known_after (Call i map) new.changed known)
      (scene_after same s old new map i to.0 u to.1 told to.4))

  -- The promise, of a step of a row within a call: it hands over nothing but what has left its map, takes no block away, and leads to such a moment, too.
  abbrev pub RowsHandTheirs : Type 0
  RowsHandTheirs =
      (name : ℕ → List ℕ) (m : Moment K V) (known : Known) (s : Scene K V) (old new : Held K V) → IsAt same hash old s → RefinesHeld same name m known s
      → (map i : ℕ) (u : UnderWay K V K) (here : s.calls map i ≡ Some u) (told : Progress (Node K V)) (leads : StepLeads same hash i told s old new)
      → (let to = leads map u here in
      (IsOfNoRow same old.batch_size old.roots s.world s.maps s.calls s.makers s.enders map to.0 i new.memory to.4.w2 to.4.maps2 to.4.next u to.1 told to.4.did → ⊥)
      → HandTheirs (name i) map (effects_of (Call i map) known new.changed) m
      × TakesNone new.changed
      × RefinesHeld same name (with_effects (Some (name i)) (Some map) (effects_of (Call i map) known new.changed) m) (known_after (Call i map) new.changed known)
      (scene_after same s old new map i to.0 u to.1 told to.4))
