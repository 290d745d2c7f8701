-- Makings of maps: where one begins and takes its steps, the scene refines the moment then, and the map, once it stands.
use Rattle.std.specs.Prelude.{◌≡◌, ℕ, Bool, List, [], Option, Some, None}
use Rattle.seize.specs.World.{World, with_at}
use Rattle.seize.specs.declared.advance.Advance.{Advance}
use Rattle.seize.specs.declared.advance.Advance.TheVariants as progress
use Rattle.run_effects.specs.Given.TablesDeclared.node.Node.{Node}
use Rattle.run_effects.specs.Given.TablesDeclared.setting.Setting.{Setting}
use Rattle.run_effects.specs.Given.ResizeDeclared.new_map.NewMap.{NewMap}
use Rattle.run_effects.specs.Given.SchedulesBeginning.{with_map}
use Rattle.run_effects.specs.Given.SchedulesEffects.{with_effects}
use Rattle.run_effects.specs.Given.SchedulesMoment.{InMap, MapThere, Moment}
use Rattle.run_effects.specs.Given.SchedulesViews.{map_at, tables_of}
use Rattle.run_effects.specs.Effects.Effects.{effects_of, known_after}
use Rattle.run_effects.specs.Effects.Known.{Known}
use Rattle.run_effects.specs.declared.acting.Acting.TheVariants.{Making}
use Rattle.run_effects.specs.declared.role.Role.TheVariants.{Counter}
use Rattle.many_maps.specs.Makings.{Beginning, HasMade}
use Rattle.run_shows.specs.Follows.Shows.{Refines}
use Rattle.run_shows.specs.Others.After.{RefinesAfter}
use Rattle.run_shows.specs.Scenes.Held.{Held, IsAt}
use Rattle.run_shows.specs.Scenes.Making.{MakingHasOutcome, MakingLeads}
use Rattle.run_shows.specs.Scenes.Scene.{Scene}

-- the map of this number is there with this setting, and has neither a pair nor a table yet
pub record IsNew {K V : Type 0} (map : ℕ) (setting : Setting) (m : Moment K V) : Type 0 where
  pub there : MapThere
  pub is : map_at map m ≡ Some there
  pub root : there.root ≡ setting.root
  pub mode : there.mode ≡ setting.mode
  pub first : there.first ≡ 0
  pub no_pairs : (n : ℕ) → m.place n ≡ InMap map → ⊥
  pub no_tables : tables_of map m ≡ []

-- if the map stands after a step that says this, it was there as a new one
abbrev pub WasNew : {K V : Type 0} → ℕ → Advance Setting → Moment K V → Type 0
WasNew map (progress.Done setting) m = IsNew map setting m
WasNew map _ m = Unit {0}

-- the counter that a making has made is noted as that of its map
abbrev pub NotesCounter : {K : Type 0} → Known → Beginning K → Type 0
NotesCounter known b = HasMade b.machine.stands → known.roles b.machine.setting.counter ≡ Counter b.map

module _ {K V : Type 0} (same : K → K → Bool) (hash : ℕ → K → ℕ) (s : Scene K V) (old new : Held K V) (i : ℕ) (b : Beginning K) (opening : NewMap) (w2 : World (Node K V)) where
  -- the scene to which a step of the making has come
  abbrev pub making_after : (told : Advance Setting) → MakingHasOutcome same hash s old new i b opening w2 told → Scene K V
  making_after progress.Goes comes = record s { world = w2; makers = with_at s.makers i (Some (record b { machine = opening })) }
  making_after progress.Waits comes = s
  making_after (progress.Done setting) comes = record s { world = w2; maps = with_at s.maps b.map (Some comes.0); makers = with_at s.makers i None }
  making_after (progress.Refused fault) comes = record s { world = w2; makers = with_at s.makers i None }

module _ (K V : Type 0) (same : K → K → Bool) where
  -- The promises: where a making begins, all is shown as before,
  abbrev pub MakingsBeginShown : Type 0
  MakingsBeginShown =
      (name : ℕ → List ℕ) (m : Moment K V) (known : Known) (s : Scene K V) → (shown : Refines same name m known s)
      → (i : ℕ) (b : Beginning K) → RefinesAfter same name m known s shown m known (record s { makers = with_at s.makers i (Some b) })

  -- and so it is where the map is there by its number.
  abbrev pub MapsAreThere : Type 0
  MapsAreThere =
      (name : ℕ → List ℕ) (m : Moment K V) (known : Known) (s : Scene K V) → (shown : Refines same name m known s)
      → (there : MapThere) → RefinesAfter same name m known s shown (with_map there m) known s

module _ (K V : Type 0) (same : K → K → Bool) (hash : ℕ → K → ℕ) where
  -- The promise, of a step of a making, on whichever map its effects are told, if on any: by the last one its map is shown, where it was there as a new one,
  -- and its counter was noted.
  abbrev pub MakingsAreShown : Type 0
  MakingsAreShown =
      (name : ℕ → List ℕ) (m : Moment K V) (known : Known) (s : Scene K V) (old new : Held K V) → IsAt same hash old s → (shown : Refines same name m known s)
      → (i : ℕ) (told : Advance Setting) (leads : MakingLeads same hash i told s old new) (b : Beginning K) (here : s.makers i ≡ Some b) (of : Option ℕ)
      → NotesCounter known b → WasNew b.map told m
      → (let to = leads b here in
      RefinesAfter same name m known s shown (with_effects None of (effects_of (Making b.map) known new.changed) m) (known_after (Making b.map) new.changed known)
      (making_after same hash s old new i b to.0 to.2.step.w2 told to.3))

  -- The promise: while a making goes on, its map stays as new.
  abbrev pub NewMapsStay : Type 0
  NewMapsStay =
      (name : ℕ → List ℕ) (m : Moment K V) (known : Known) (s : Scene K V) (old new : Held K V) → IsAt same hash old s → Refines same name m known s
      → (i : ℕ) → MakingLeads same hash i progress.Goes s old new → (b : Beginning K) → s.makers i ≡ Some b → (of : Option ℕ) (setting : Setting)
      → IsNew b.map setting m → IsNew b.map setting (with_effects None of (effects_of (Making b.map) known new.changed) m)
