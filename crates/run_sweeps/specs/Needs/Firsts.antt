-- The first table of a map that is being made has the length that its capacity needs, and the last try that goes with it.
use Rattle.std.specs.Prelude.{◌≡◌, ℕ, Bool, true, List, [], max, Option, Some, None}
use Rattle.std.specs.List.{list_all}
use Rattle.papaya_raw.specs.Given.SeizeWorld.{with_at}
use Rattle.papaya_raw.specs.Given.SeizeDeclared.advance.Advance.{Advance}
use Rattle.papaya_raw.specs.Given.TablesProbes.{limit_of}
use Rattle.papaya_raw.specs.Given.TablesDeclared.setting.Setting.{Setting}
use Rattle.papaya_raw.specs.Given.TablesDeclared.table.Table.{Table as Planned}
use Rattle.run_kept.specs.Given.ResizeNewMap.{opening}
use Rattle.run_finds.specs.Given.ResizeDeclared.new_map.Opening.{Opening}
use Rattle.run_finds.specs.Given.ResizeDeclared.new_map.Opening.TheVariants as at
use Rattle.run_schedules.specs.Runs.Runs.{map_fault}
use Rattle.run_schedules.specs.declared.effect.Effect.{Effect}
use Rattle.run_schedules.specs.declared.effect.Effect.TheVariants.{Linked}
use Rattle.run_schedules.specs.Schedules.Effects.{AtEachEffect, with_effects}
use Rattle.run_schedules.specs.Schedules.Handing.{is_first_making}
use Rattle.run_schedules.specs.Schedules.Lives.{IsMapsFirst, EventFinds}
use Rattle.run_schedules.specs.Schedules.Moment.{MapThere, Moment}
use Rattle.run_schedules.specs.Schedules.Views.{map_at, tables_of}
use Rattle.run_finds.specs.Given.NamedPlaces.{first_places}
use Rattle.run_finds.specs.Given.EffectsEffects.{effects_of, known_after}
use Rattle.run_finds.specs.Given.EffectsKnown.{Known}
use Rattle.run_finds.specs.Given.EffectsDeclared.acting.Acting.TheVariants as acts
use Rattle.run_kept.specs.Given.FinishesMakings.{Beginning}
use Rattle.run_finds.specs.Given.FollowsShows.{Refines}
use Rattle.run_kept.specs.Given.OthersMakings.{making_after}
use Rattle.run_kept.specs.Given.OwesTables.{RefinesOwnTables}
use Rattle.run_kept.specs.Given.OwesTablesBeside.{MakesFirst}
use Rattle.run_sweeps.specs.Given.FindsShaping.{ShapedAt}
use Rattle.run_finds.specs.Given.ScenesHeld.{Held, IsAt}
use Rattle.run_kept.specs.Given.ScenesMaking.{MakingLeads}
use Rattle.run_finds.specs.Given.ScenesScene.{Scene}

-- a table for so many places, of which there are eight at least
abbrev pub IsForPlaces : ℕ → Planned → Type 0
IsForPlaces places table = (table.len ≡ max places 8) × (table.limit ≡ limit_of table.len)

-- a making of a map makes such a table
abbrev pub OpensFor : ℕ → Opening → Type 0
OpensFor places (at.Tables making) = ShapedAt (λ before reason. ⊥) (IsForPlaces places) making.stands
OpensFor places _ = Unit {0}

abbrev pub AllMakingsOpen : {K V : Type 0} → Scene K V → Type 0
AllMakingsOpen {K} s = (i : ℕ) (b : Beginning K) → s.makers i ≡ Some b → OpensFor b.machine.len b.machine.stands

-- the first table of a map is linked where it has none, and has the shape that the map's capacity asks
abbrev pub FindsFirst : {K V : Type 0} → ℕ → Moment K V → Effect → Type 0
FindsFirst map m (Linked t shape) = (tables_of map m ≡ []) × IsMapsFirst (map_at map m) t shape
FindsFirst map m _ = Unit {0}

module _ (K V : Type 0) where
  -- The promises: so makings are where one begins.
  abbrev pub MakingsOpen : Type 0
  MakingsOpen =
      (s : Scene K V) → AllMakingsOpen s → (i : ℕ) (b : Beginning K) (given : Setting) (roots places : ℕ) → b.machine ≡ opening given roots places → AllMakingsOpen (record s { makers = with_at s.makers i (Some b) })

  -- And effects such as a making of a map has find all that they must, if each table that they make is the first, and each one that they link is.
  abbrev pub FirstsAreAll : Type 0
  FirstsAreAll =
      (map : ℕ) (everything : Bool) (of : Option ℕ) (effects : List Effect) (m : Moment K V) → list_all is_first_making effects ≡ true → MakesFirst map effects
      → AtEachEffect (FindsFirst map) None of effects m → AtEachEffect (EventFinds (Some map) everything) None of effects m

module _ (K V : Type 0) (same : K → K → Bool) (hash : ℕ → K → ℕ) where
  -- So it is after each step of a making, too.
  abbrev pub MakingsPreserveOpening : Type 0
  MakingsPreserveOpening =
      (s : Scene K V) (old new : Held K V) → AllMakingsOpen s → (i : ℕ) (told : Advance Setting) (leads : MakingLeads same hash i told s old new) (b : Beginning K) (here : s.makers i ≡ Some b)
      → (let to = leads b here in AllMakingsOpen (making_after same hash s old new i b to.0 to.2.step.w2 told to.3))

  -- So the table that a step of the making of a map links, which is there without a table and is to have the places of its capacity, is the first that it must have.
  abbrev pub MakingsLinkFirst : Type 0
  MakingsLinkFirst =
      (name : ℕ → List ℕ) (m : Moment K V) (known : Known) (s : Scene K V) (old new : Held K V) → IsAt same hash old s → Refines same name m known s → RefinesOwnTables name m known s → AllMakingsOpen s
      → (i : ℕ) (told : Advance Setting) (leads : MakingLeads same hash i told s old new) (b : Beginning K) (here : s.makers i ≡ Some b) (of : Option ℕ)
      → (f : MapThere) → map_at b.map m ≡ Some f → tables_of b.map m ≡ [] → map_fault f.mode f.capacity ≡ None → b.places ≡ first_places f.capacity
      → (let to = leads b here in
      let effects = effects_of (acts.Making b.map) known new.changed in
      Refines same name (with_effects None of effects m) (known_after (acts.Making b.map) new.changed known) (making_after same hash s old new i b to.0 to.2.step.w2 told to.3)
      → AtEachEffect (FindsFirst b.map) None of effects m)
