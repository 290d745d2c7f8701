-- Each map that stands was made for the capacity that the moment says: so it stays, whatever is done, once a map has come so.
use Rattle.std.specs.Prelude.{◌≡◌, ℕ, Bool, List, max, Option, Some, None}
use Rattle.run_executor.specs.Given.SeizeDeclared.advance.Advance.{Advance as Making}
use Rattle.run_blocks.specs.Given.TablesDeclared.node.Node.{Node}
use Rattle.run_blocks.specs.Given.TablesDeclared.setting.Setting.{Setting}
use Rattle.run_executor.specs.Given.RawDeclared.machines.progress.Progress.{Progress}
use Rattle.run_executor.specs.Given.RunsRuns.{map_fault}
use Rattle.run_executor.specs.Given.RunsDeclared.effect.Effect.{Effect}
use Rattle.run_executor.specs.Given.SchedulesEffects.{with_effects}
use Rattle.run_executor.specs.Given.SchedulesMoment.{MapThere, Moment}
use Rattle.run_executor.specs.Given.SchedulesViews.{map_at, capacity_or}
use Rattle.run_executor.specs.Given.CallersTogether.{UnderWay}
use Rattle.run_executor.specs.Named.Places.{first_places}
use Rattle.run_executor.specs.Given.EffectsEffects.{effects_of}
use Rattle.run_executor.specs.Given.EffectsKnown.{Known}
use Rattle.run_executor.specs.Given.EffectsDeclared.acting.Acting.TheVariants as acts
use Rattle.run_executor.specs.Given.FinishesMakings.{Beginning}
use Rattle.run_executor.specs.Given.FinishesMaps.{Standing, IsSameMap}
use Rattle.run_executor.specs.Given.OthersMakings.{making_after}
use Rattle.run_finds.specs.Linking.{IsMadeFor}
use Rattle.run_executor.specs.Given.ScenesHeld.{Held}
use Rattle.run_executor.specs.Given.ScenesMaking.{MakingLeads}
use Rattle.run_executor.specs.Given.ScenesScene.{Scene}
use Rattle.run_executor.specs.Given.ScenesStepping.{StepLeads, scene_after}

abbrev pub RefinesCapacities : {K V : Type 0} → Moment K V → Scene K V → Type 0
RefinesCapacities {K} m s = (map : ℕ) (standing : Standing K) → s.maps map ≡ Some standing → IsMadeFor map m standing.setting

-- each map that stands has the capacity at the other moment that it has at this one
abbrev pub PreservesCapacities : {K V : Type 0} → Scene K V → Moment K V → Moment K V → Type 0
PreservesCapacities {K} s m v = (map : ℕ) (standing : Standing K) → s.maps map ≡ Some standing → capacity_or (map_at map v) ≡ capacity_or (map_at map m)

-- each map that stands then stood before, made for as many entries
abbrev pub StoodSo : {K V : Type 0} → Scene K V → Scene K V → Type 0
StoodSo {K} s t = (map : ℕ) (standing : Standing K) → t.maps map ≡ Some standing → (before : Standing K) × (s.maps map ≡ Some before) × (standing.setting.initial ≡ before.setting.initial)

module _ (K V : Type 0) where
  -- The promises: a setting with the places that a map is to have at first, where its mode and capacity have no fault, is one for its capacity.
  abbrev pub GivenAreFor : Type 0
  GivenAreFor =
      (m : Moment K V) (map : ℕ) (f : MapThere) → map_at map m ≡ Some f → map_fault f.mode f.capacity ≡ None
      → (given : Setting) → given.initial ≡ max (first_places f.capacity) 1 → IsMadeFor map m given

  -- So it stays as long as maps stand that stood before, and have the capacities that they had, as where maps end, or come by other numbers, and where calls begin or are over;
  abbrev pub CapacitiesStay : Type 0
  CapacitiesStay = (m v : Moment K V) (s t : Scene K V) → RefinesCapacities m s → PreservesCapacities s m v → StoodSo s t → RefinesCapacities v t

  -- effects leave capacities as they are, and what leaves maps the same, as a row on a slot, leaves them made as they were;
  abbrev pub EffectsPreserveCapacities : Type 0
  EffectsPreserveCapacities =
      (caller : Option (List ℕ)) (acted : Option ℕ) (effects : List Effect) (m : Moment K V) (map : ℕ) → capacity_or (map_at map (with_effects caller acted effects m)) ≡ capacity_or (map_at map m)

  abbrev pub SameMapsStood : Type 0
  SameMapsStood = (s t : Scene K V) → ((n : ℕ) → IsSameMap (s.maps n) (t.maps n)) → StoodSo s t

module _ (K V : Type 0) (same : K → K → Bool) (hash : ℕ → K → ℕ) where
  -- after each step of a call,
  abbrev pub CallsPreserveCapacities : Type 0
  CallsPreserveCapacities =
      (name : ℕ → List ℕ) (m : Moment K V) (known : Known) (s : Scene K V) (old new : Held K V) → RefinesCapacities m s
      → (map i : ℕ) (u : UnderWay K V K) (here : s.calls map i ≡ Some u) (said : Progress (Node K V)) (leads : StepLeads same hash i said s old new)
      → (let to = leads map u here in
      RefinesCapacities (with_effects (Some (name i)) (Some map) (effects_of (acts.Call i map) known new.changed) m) (scene_after same s old new map i to.0 u to.1 said to.4))

  -- and of the making of a map that began with a setting for its capacity.
  abbrev pub MakingsPreserveCapacities : Type 0
  MakingsPreserveCapacities =
      (m : Moment K V) (known : Known) (s : Scene K V) (old new : Held K V) → RefinesCapacities m s
      → (i : ℕ) (told : Making Setting) (leads : MakingLeads same hash i told s old new) (b : Beginning K) (here : s.makers i ≡ Some b) (of : Option ℕ) → IsMadeFor b.map m b.given
      → (let to = leads b here in
      RefinesCapacities (with_effects None of (effects_of (acts.Making b.map) known new.changed) m) (making_after same hash s old new i b to.0 to.2.step.w2 told to.3))
