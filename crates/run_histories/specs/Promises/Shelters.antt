-- What is promised of what left its map while guards were there: each kind of step leaves it sheltered, and reclaims none of it.
use Rattle.std.specs.Prelude.{◌≡◌, ℕ, Bool, false, List, [], ◌++◌, Some, flat_map}
use Rattle.std.specs.List.{AllByRecursion}
use Rattle.run_places.specs.Given.SeizeWorld.{Step}
use Rattle.run_places.specs.Given.TablesDeclared.node.Node.{Node}
use Rattle.run_places.specs.Given.RawDeclared.machines.progress.Progress.{Progress}
use Rattle.run_places.specs.Given.RunsPresent.{Present}
use Rattle.run_places.specs.Given.RunsDeclared.effect.Effect.{Effect}
use Rattle.run_places.specs.Given.SchedulesEffects.{with_effects}
use Rattle.run_places.specs.Given.SchedulesLists.{is_in}
use Rattle.run_places.specs.Given.SchedulesModel.{thing_back}
use Rattle.run_places.specs.Given.SchedulesMoment.{Sheltered, Moment}
use Rattle.run_places.specs.Given.SchedulesThings.{same_thing}
use Rattle.run_places.specs.Given.CallersTogether.{UnderWay}
use Rattle.run_places.specs.Given.EffectsEffects.{effects_of, known_after}
use Rattle.run_places.specs.Given.EffectsKnown.{Known}
use Rattle.run_places.specs.Given.EffectsDeclared.acting.Acting.TheVariants as acts
use Rattle.run_places.specs.Given.ScenesDeclared.row.RowTold.{RowTold}
use Rattle.run_places.specs.Given.ScenesDeclared.row.SlotRow.{SlotRow}
use Rattle.run_places.specs.Given.OthersRows.{scene_then}
use Rattle.run_places.specs.Moments.Whole.{RefinesWhole}
use Rattle.run_histories.specs.Promises.Sheltered.{GuardsAreInside, AreSheltered}
use Rattle.run_places.specs.Given.ScenesHeld.{Held, IsAt}
use Rattle.run_places.specs.Given.ScenesOnSlots.{RowLeads}
use Rattle.run_places.specs.Given.ScenesScene.{IsOnSlot, Scene}
use Rattle.run_places.specs.Given.ScenesStepping.{StepLeads}
use Rattle.run_places.specs.Given.SchedulesTransition.{Transition}
use Rattle.run_places.specs.Given.SchedulesReclaims.{Protects}

-- none of these things is reclaimed by the effects
abbrev pub NoneIsBack : List Effect → List Sheltered → Type 0
NoneIsBack effects sheltered = AllByRecursion (λ x. is_in same_thing x.thing (flat_map thing_back effects) ≡ false) sheltered

-- The promises: what none of two parts reclaims, both do not,
abbrev pub StepsProtect : Type 0
StepsProtect = (effects more : List Effect) (sheltered : List Sheltered) → NoneIsBack effects sheltered → NoneIsBack more sheltered → NoneIsBack (effects ++ more) sheltered

-- and where nothing is reclaimed that is sheltered after what is done, it is as it is to be.
abbrev pub EventsAreProtected : Type 0 → Type 0 → Type 0
EventsAreProtected K V = (t : Transition K V) → NoneIsBack t.effects t.left.sheltered → Protects t

module _ (K V : Type 0) (same : K → K → Bool) (hash : ℕ → K → ℕ) where
  -- A step of a call leaves guards within their sections, and shelters what it takes out of its map; it reclaims nothing.
  abbrev pub CallsShelter : Type 0
  CallsShelter =
      (name : ℕ → List ℕ) (m : Moment K V) (known : Known) (s : Scene K V) (old new : Held K V) → IsAt same hash old s → RefinesWhole same name m known s
      → (map i : ℕ) (u : UnderWay K V K) (here : s.calls map i ≡ Some u) (told : Progress (Node K V)) (leads : StepLeads same hash i told s old new)
      → GuardsAreInside m.there s.world → AreSheltered m.there s.world known m.sheltered
      → (let to = leads map u here in
      let effects = effects_of (acts.Call i map) known new.changed in
      GuardsAreInside m.there to.4.w2
      × AreSheltered m.there to.4.w2 (known_after (acts.Call i map) new.changed known) (with_effects (Some (name i)) (Some map) effects m).sheltered
      × (flat_map thing_back effects ≡ []))

  -- A step of a row on a slot leaves each that is within its section there, and leaves sheltered, and reclaims none of, what is sheltered by whom.
  abbrev pub RowsShelter : Type 0
  RowsShelter =
      (name : ℕ → List ℕ) (m : Moment K V) (known : Known) (s : Scene K V) (old new : Held K V) → IsAt same hash old s → RefinesWhole same name m known s
      → (i : ℕ) (told : RowTold (Node K V)) (leads : RowLeads same hash i told s old new) (row : SlotRow) (here : IsOnSlot s i row)
      → (there : Present) (sheltered : List Sheltered) → AreSheltered there s.world known sheltered
      → (let effects = effects_of acts.Row known new.changed in
      let then = (scene_then same hash (Step i) s old new (leads row here).2).world in
      (GuardsAreInside there s.world → GuardsAreInside there then) × AreSheltered there then (known_after acts.Row new.changed known) sheltered
      × NoneIsBack effects sheltered)
