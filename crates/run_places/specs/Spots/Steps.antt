-- How steps lead on from where the pairs of maps lie.
use Rattle.std.specs.Prelude.{◌≡◌, ℕ, Bool, List, Option, Some}
use Rattle.run_shows.specs.Given.TablesDeclared.node.Node.{Node}
use Rattle.run_shows.specs.Given.RawDeclared.machines.progress.Progress.{Progress}
use Rattle.run_shows.specs.Given.SchedulesEffects.{with_effects}
use Rattle.run_shows.specs.Given.SchedulesMoment.{UnderWay as CallThere, Moment, start}
use Rattle.run_shows.specs.Given.CallersTogether.{UnderWay}
use Rattle.run_shows.specs.Given.FinishesMaps.{Standing}
use Rattle.run_shows.specs.Given.EffectsEffects.{effects_of, known_after}
use Rattle.run_shows.specs.Given.EffectsKnown.{Known, nothing_known}
use Rattle.run_shows.specs.Given.EffectsDeclared.acting.Acting.TheVariants.{Call}
use Rattle.run_shows.specs.Follows.Shows.{Refines}
use Rattle.run_shows.specs.Follows.Steps.{TakesNone, IsOfNoRow}
use Rattle.run_places.specs.Spots.Spots.{RefinesPlaces}
use Rattle.run_places.specs.Spots.Unreclaimed.{RefinesUnreclaimed}
use Rattle.run_shows.specs.Scenes.Held.{Held, IsAt}
use Rattle.run_shows.specs.Scenes.Scene.{Scene, at_first}
use Rattle.run_shows.specs.Scenes.Stepping.{StepLeads}

-- no pair lies anywhere as a run begins
abbrev pub PlacesBegin : Type 0 → Type 0 → Type 0
PlacesBegin K V = (roots : ℕ) → RefinesPlaces {K = K} {V = V} start nothing_known (at_first {V = V} roots).maps

-- and no block is a pair's or a table's
abbrev pub BlocksBegin : Type 0 → Type 0 → Type 0
BlocksBegin K V = RefinesUnreclaimed {K = K} {V = V} start nothing_known

-- Where nothing has changed but calls, pairs lie where they lay, and the same blocks are unreclaimed.
abbrev pub CallsLeavePlaces : Type 0 → Type 0 → Type 0
CallsLeavePlaces K V =
    (m : Moment K V) (known : Known) (maps : ℕ → Option (Standing K)) → RefinesPlaces m known maps → RefinesUnreclaimed m known
    → (calls : List (CallThere K V)) → RefinesPlaces (record m { calls = calls }) known maps × RefinesUnreclaimed (record m { calls = calls }) known

-- And so it is where a map stands no more.
abbrev pub FewerMapsStand : Type 0 → Type 0 → Type 0
FewerMapsStand K V =
    (m : Moment K V) (known : Known) (maps maps2 : ℕ → Option (Standing K)) → ((map : ℕ) (standing : Standing K) → maps2 map ≡ Some standing → maps map ≡ Some standing)
    → RefinesPlaces m known maps → RefinesPlaces m known maps2

module _ (K V : Type 0) (same : K → K → Bool) (hash : ℕ → K → ℕ) where
  -- The promise: a step of a call, whether of a row or not, leads to a moment at which pairs lie where the tables have them then.
  abbrev pub CallsPreservePlaces : Type 0
  CallsPreservePlaces =
      (name : ℕ → List ℕ) (m : Moment K V) (known : Known) (s : Scene K V) (old new : Held K V) → IsAt same hash old s → Refines same name m known s → RefinesPlaces m known s.maps
      → (map i : ℕ) (u : UnderWay K V K) (here : s.calls map i ≡ Some u) (told : Progress (Node K V)) (leads : StepLeads same hash i told s old new)
      → (let to = leads map u here in
      RefinesPlaces (with_effects (Some (name i)) (Some map) (effects_of (Call i map) known new.changed) m) (known_after (Call i map) new.changed known) to.4.maps2)

  -- And where a row takes no block away, the same blocks are unreclaimed then as are pairs and tables of maps.
  abbrev pub CallsPreserveBlocks : Type 0
  CallsPreserveBlocks =
      (name : ℕ → List ℕ) (m : Moment K V) (known : Known) (s : Scene K V) (old new : Held K V) → IsAt same hash old s → Refines same name m known s → RefinesUnreclaimed m known
      → (map i : ℕ) (u : UnderWay K V K) (here : s.calls map i ≡ Some u) (told : Progress (Node K V)) (leads : StepLeads same hash i told s old new)
      → (let to = leads map u here in
      ((IsOfNoRow same old.batch_size old.roots s.world s.maps s.calls s.makers s.enders map to.0 i new.memory to.4.w2 to.4.maps2 to.4.next u to.1 told to.4.did → ⊥) → TakesNone new.changed)
      → RefinesUnreclaimed (with_effects (Some (name i)) (Some map) (effects_of (Call i map) known new.changed) m) (known_after (Call i map) new.changed known))
