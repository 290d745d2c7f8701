-- What the making of a map does: it asks for blocks, makes the map's first table, and links it.
use Rattle.std.specs.Prelude.{◌≡◌, ℕ, ◌+◌, Bool, true, false, List, [], ◌++◌, length, filter, Option, Some, None}
use Rattle.std.specs.List.{list_all}
use Rattle.papaya_raw.specs.Given.SeizeDeclared.advance.Advance.{Advance}
use Rattle.papaya_raw.specs.Given.SeizeDeclared.advance.Advance.TheVariants as progress
use Rattle.papaya_raw.specs.Given.TablesDeclared.setting.Setting.{Setting}
use Rattle.papaya_raw.specs.Given.TablesDeclared.table.Table.{Table as Planned}
use Rattle.run_finds.specs.Given.ResizeDeclared.new_map.NewMap.{NewMap}
use Rattle.run_schedules.specs.Runs.Runs.{map_fault}
use Rattle.run_schedules.specs.declared.effect.Effect.{Effect}
use Rattle.run_schedules.specs.Schedules.Effects.{AtEachEffect, with_effects}
use Rattle.run_schedules.specs.Schedules.Handing.{is_first_making, is_table_made}
use Rattle.run_schedules.specs.Schedules.Lives.{EventFinds}
use Rattle.run_schedules.specs.Schedules.Moment.{MapThere, Moment}
use Rattle.run_schedules.specs.Schedules.Views.{map_at, tables_of}
use Rattle.run_finds.specs.Given.EffectsEffects.{effects_of, known_after}
use Rattle.run_finds.specs.Given.EffectsKnown.{Known}
use Rattle.run_finds.specs.Given.EffectsDeclared.acting.Acting.TheVariants as acts
use Rattle.run_kept.specs.Given.FinishesMakings.{Beginning}
use Rattle.run_finds.specs.Given.FollowsShows.{Refines}
use Rattle.run_kept.specs.Given.OthersMakings.{NotesCounter, making_after}
use Rattle.run_kept.specs.Given.OwesMaking.{making_in_opening}
use Rattle.run_kept.specs.Given.OwesTables.{RefinesOwnTables, table_made}
use Rattle.run_sweeps.specs.Needs.Firsts.{AllMakingsOpen}
use Rattle.run_finds.specs.Given.NamedPlaces.{first_places}
use Rattle.run_finds.specs.Given.ScenesHeld.{Held, IsAt}
use Rattle.run_kept.specs.Given.ScenesMaking.{MakingLeads}
use Rattle.run_finds.specs.Given.ScenesScene.{Scene}

-- the table that a making has made and not linked, by what it has told: one that is over has none
abbrev pub table_left : NewMap → Advance Setting → Option Planned
table_left n progress.Goes = table_made (making_in_opening n.stands)
table_left n _ = None

abbrev pub in_hand : Option Planned → ℕ
in_hand None = 0
in_hand (Some table) = 1

-- By these effects as many tables were made as the map has, and one more if the making has that in hand.
abbrev pub CountsTables : {K V : Type 0} → ℕ → List Effect → Moment K V → Option Planned → Type 0
CountsTables map effects m left = length (filter is_table_made effects) ≡ length (tables_of map m) + in_hand left

module _ (K V : Type 0) (same : K → K → Bool) (hash : ℕ → K → ℕ) where
  -- The promise: a step of the making of a map does nothing else, if its counter is noted.
  abbrev pub MakingsDoTheirs : Type 0
  MakingsDoTheirs =
      (name : ℕ → List ℕ) (m : Moment K V) (known : Known) (s : Scene K V) (old new : Held K V) → IsAt same hash old s → Refines same name m known s
      → (i : ℕ) (told : Advance Setting) → MakingLeads same hash i told s old new → (b : Beginning K) → s.makers i ≡ Some b → NotesCounter known b
      → list_all is_first_making (effects_of (acts.Making b.map) known new.changed) ≡ true

  -- So it finds what it must where the map is there without a table, and is to have the places of its capacity, if the moment after the step shows it.
  abbrev pub MakingsFindTheirs : Type 0
  MakingsFindTheirs =
      (name : ℕ → List ℕ) (m : Moment K V) (known : Known) (s : Scene K V) (old new : Held K V) → IsAt same hash old s → Refines same name m known s → RefinesOwnTables name m known s → AllMakingsOpen s
      → (i : ℕ) (told : Advance Setting) (leads : MakingLeads same hash i told s old new) (b : Beginning K) (here : s.makers i ≡ Some b) → NotesCounter known b → (of : Option ℕ)
      → (f : MapThere) → map_at b.map m ≡ Some f → tables_of b.map m ≡ [] → map_fault f.mode f.capacity ≡ None → b.places ≡ first_places f.capacity
      → (let to = leads b here in
      let effects = effects_of (acts.Making b.map) known new.changed in
      Refines same name (with_effects None of effects m) (known_after (acts.Making b.map) new.changed known) (making_after same hash s old new i b to.0 to.2.step.w2 told to.3)
      → AtEachEffect (EventFinds (Some b.map) false) None of effects m)

  -- And so it is of the tables that it has told, if it was so before it.
  abbrev pub MakingsCountTables : Type 0
  MakingsCountTables =
      (name : ℕ → List ℕ) (m : Moment K V) (known : Known) (s : Scene K V) (old new : Held K V) → IsAt same hash old s → Refines same name m known s → RefinesOwnTables name m known s
      → (i : ℕ) (told : Advance Setting) (leads : MakingLeads same hash i told s old new) (b : Beginning K) (here : s.makers i ≡ Some b) → NotesCounter known b → (of : Option ℕ)
      → (done : List Effect) → CountsTables b.map done m (table_left b.machine progress.Goes)
      → (let to = leads b here in
      let effects = effects_of (acts.Making b.map) known new.changed in
      Refines same name (with_effects None of effects m) (known_after (acts.Making b.map) new.changed known) (making_after same hash s old new i b to.0 to.2.step.w2 told to.3)
      → CountsTables b.map (done ++ effects) (with_effects None of effects m) (table_left to.0 told))
