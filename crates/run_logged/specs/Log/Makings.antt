-- Where the beginning of the making of a map leads, a step of it, and its run to the end; and what they do.
use Rattle.std.specs.Prelude.{◌≡◌, ◌≢◌, ◌<◌, ◌≤◌, ◌+◌, ◌^◌, ◌==◌, ℕ, Bool, true, false, List, ◌++◌, length, take, max, Option, Some, None, if◌then◌else◌}
use Rattle.std.specs.List.{list_all}
use Rattle.std.specs.Int.{IsPowerOfTwo}
use Rattle.seize.specs.World.{with_at}
use Rattle.seize.specs.declared.advance.Advance.{Advance}
use Rattle.seize.specs.declared.advance.Advance.TheVariants as progress
use Rattle.papaya_raw.specs.Given.TablesLengths.{IsTableLen}
use Rattle.papaya_raw.specs.Given.TablesDeclared.setting.Setting.{Setting}
use Rattle.run_effects.specs.Given.ResizeDeclared.new_map.NewMap.{NewMap}
use Rattle.run_effects.specs.Given.ResizeDeclared.new_map.Opening.{Opening}
use Rattle.run_effects.specs.Given.ResizeDeclared.new_map.Opening.TheVariants as opens
use Rattle.run_effects.specs.Given.ResizeDeclared.new_table.Making.{Making}
use Rattle.run_effects.specs.Given.ResizeDeclared.new_table.Making.TheVariants as makes
use Rattle.run_schedules.specs.declared.effect.Effect.{Effect}
use Rattle.run_schedules.specs.Schedules.Beginning.{used_roots, with_map}
use Rattle.run_schedules.specs.Schedules.Effects.{with_effects}
use Rattle.run_schedules.specs.Schedules.InTurn.{is_growth}
use Rattle.run_schedules.specs.Schedules.Lists.{is_among}
use Rattle.run_schedules.specs.Schedules.Moment.{MapThere, Moment}
use Rattle.run_schedules.specs.Schedules.Views.{tables_of}
use Rattle.run_shows.specs.Given.PointsSteps.{AreLawful}
use Rattle.run_shows.specs.Given.FinishesMakings.{Beginning, IsNewChart}
use Rattle.run_shows.specs.Given.FinishesMaps.{Standing}
use Rattle.run_shows.specs.Others.Makings.{IsNew, WasNew, making_after}
use Rattle.run_executor.specs.Given.MomentsNumbers.{NumbersMaps}
use Rattle.run_kept.specs.Given.RemainsNumbered.{NumbersUpTo}
use Rattle.run_logged.specs.Log.Shown.{IsShown}
use Rattle.run_logged.specs.declared.logged.Logged.{Logged}
use Rattle.run_executor.specs.Executing.IsThere.{IsThere, held_by}
use Rattle.run_executor.specs.Executing.MakingBegins.{next_making}
use Rattle.run_shows.specs.Scenes.Scene.{Scene}
use Rattle.run_shows.specs.Scenes.Making.{MakingLeads}

-- a making is over
abbrev pub is_over : {T : Type 0} → Advance T → Bool
is_over (progress.Done answer) = true
is_over (progress.Refused fault) = true
is_over _ = false

-- The number of a making that was refused is given back, if it was the last one: there are so many then, and these settings are kept.
abbrev pub given_back : ℕ → Advance Setting → List (Option Setting) → List (Option Setting)
given_back map (progress.Refused fault) maps = if length maps == map + 1 then take map maps else maps
given_back map _ maps = maps

abbrev pub numbers_then : ℕ → Advance Setting → ℕ → ℕ
numbers_then map (progress.Refused fault) count = if count == map + 1 then map else count
numbers_then map _ count = count

-- where its number is given back, each number that is used is below it
abbrev pub BelowIfRefused : {K V : Type 0} → ℕ → Advance Setting → Moment K V → Type 0
BelowIfRefused map (progress.Refused fault) m = NumbersUpTo map m
BelowIfRefused map _ m = Unit {0}

-- a map that is there as a new one stays so while its making goes on
abbrev pub StaysNew : {K V : Type 0} → ℕ → Advance Setting → Moment K V → Moment K V → Type 0
StaysNew map progress.Goes m v = (setting : Setting) → IsNew map setting m → IsNew map setting v
StaysNew map _ m v = Unit {0}

-- the making of a table, or of a map, that stands here has made one
abbrev pub has_table : Making → Bool
has_table (makes.Promotes table) = true
has_table (makes.Links table) = true
has_table (makes.Drops table found) = true
has_table (makes.Over table) = true
has_table _ = false

abbrev pub has_tabled : Opening → Bool
has_tabled (opens.Tables making) = has_table making.stands
has_tabled opens.Over = true
has_tabled _ = false

-- by what a step told: it has made none yet, or was refused
abbrev pub IsBare : Advance Setting → NewMap → Type 0
IsBare progress.Goes n = has_tabled n.stands ≡ false
IsBare (progress.Refused fault) n = Unit {0}
IsBare _ n = ⊥

-- no table was made before, and these effects are that growths were asked for
abbrev pub JustAsks : {K : Type 0} → Beginning K → List Effect → Type 0
JustAsks b did = (has_tabled b.machine.stands ≡ false) × (list_all is_growth did ≡ true)

-- the map that came has a table where it was to have one
abbrev pub HasTable : {K V : Type 0} → Advance Setting → Beginning K → Moment K V → Type 0
HasTable (progress.Done setting) b w = length (tables_of b.map w) ≡ (if b.places == 0 then 0 else 1)
HasTable _ b w = Unit {0}

module _ {K V S : Type 0} (same : K → K → Bool) (hash : K → ℕ) (name : ℕ → List ℕ) (m : Moment K V) (s : Scene K V) where
  -- A making that may begin is under way, and the moment shows that, as it is.
  abbrev pub MakingIsBegun : Setting → ℕ → ℕ → (old new : Logged K V S) → Type 0
  MakingIsBegun given places i old new =
      AreLawful same hash → IsPowerOfTwo given.initial → given.batch_size ≡ old.executor.batch_size → given.mask + 1 < 2 ^ 64 → 0 < old.executor.roots
      → (max places 8 ≤ 2 ^ 48 → IsTableLen (max places 8))
      → IsShown same hash name m new (record s { makers = with_at s.makers i (Some (next_making hash given places old.executor)) })

  -- A step of a caller's making of this map, which did this. The moment after it shows where the step has led; if the map stands then, it was there as a new one. A step
  -- of one that has made no table yet, or was refused, does nothing but ask for growths.
  abbrev pub MakingContinues : (i map : ℕ) → Advance Setting → List Effect → (old new : Logged K V S) → Type 0
  MakingContinues i map told did old new =
      (b : Beginning K) (here : s.makers i ≡ Some b) → b.map ≡ map
      → (leads : MakingLeads same (λ map. hash) i told s (held_by old.executor) (held_by new.executor))
      × (IsBare told (leads b here).0 → JustAsks b did)
      × ((of : Option ℕ)
      → StaysNew map told m (with_effects None of did m)
      × (WasNew map told m
      → IsShown same hash name (with_effects None of did m) new (making_after same (λ map. hash) s (held_by old.executor) (held_by new.executor) i b (leads b here).0 (leads b here).2.step.w2 told (leads b here).3)))

-- Where a making has come that began so, by what its last step told: it goes on, as another machine; or its map stands, as it was to be made; or it is over without
-- a map. All else that is under way is so as before, and so are the uses of slots.
module _ {K V : Type 0} (s s2 : Scene K V) (i : ℕ) (b : Beginning K) where
  abbrev pub MakerIs : Advance Setting → Type 0
  MakerIs progress.Goes = (opening : NewMap) × (s2.makers i ≡ Some (record b { machine = opening }))
  MakerIs _ = s2.makers i ≡ None

  -- the map that came has the setting that was answered, which is the one given but for its root and its counter, and no table, or a first one of the length asked for
  pub record HasCome (setting : Setting) : Type 0 where
    pub standing : Standing K
    pub there : s2.maps b.map ≡ Some standing
    pub setting_is : standing.setting ≡ setting
    pub answer_is : setting ≡ record b.given { root = setting.root; counter = setting.counter }
    pub hash_is : standing.hash ≡ b.hash
    pub chart_is : IsNewChart b.hash setting b.places standing.chart
    pub others : (n : ℕ) → n ≢ b.map → s2.maps n ≡ s.maps n

  -- it has made no table yet, or was refused
  abbrev pub CameBare : (told : Advance Setting) → MakerIs told → Type 0
  CameBare progress.Goes maker = has_tabled maker.0.stands ≡ false
  CameBare (progress.Refused fault) maker = Unit {0}
  CameBare _ maker = ⊥

  abbrev pub MapsAre : Advance Setting → Type 0
  MapsAre (progress.Done setting) = HasCome setting
  MapsAre _ = s2.maps ≡ s.maps

  pub record MakingCame (told : Advance Setting) : Type 0 where
    pub maker : MakerIs told
    pub makers : (j : ℕ) → j ≢ i → s2.makers j ≡ s.makers j
    pub maps : MapsAre told
    pub calls : s2.calls ≡ s.calls
    pub enders : s2.enders ≡ s.enders
    pub rows : s2.world.row ≡ s.world.row
    pub uses : s2.world.uses ≡ s.world.uses

module _ {K V S : Type 0} where
  -- What a step does follows in the list, whatever shows the executor.
  abbrev pub MakingSteps : (i map : ℕ) → Advance Setting → (before after : List Effect) → (old new : Logged K V S) → Type 0
  MakingSteps i map told before after old new =
      (did : List Effect) × (after ≡ before ++ did)
      × ((same : K → K → Bool) (hash : K → ℕ) (name : ℕ → List ℕ) (m : Moment K V) (s : Scene K V) → IsShown same hash name m old s → MakingContinues same hash name m s i map told did old new)

  module _ (same : K → K → Bool) (hash : K → ℕ) (s : Scene K V) (i map : ℕ) (told : Advance Setting) (did : List Effect) (old new : Logged K V S) where
    -- The executor is there where the making has come,
    abbrev pub MakingIsAt : Type 0
    MakingIsAt = (b : Beginning K) → s.makers i ≡ Some b → b.map ≡ map → (s2 : Scene K V) × MakingCame s s2 i b told × IsThere same hash new.executor s2

    -- and so it is shown, whether the map is there or not; if it stands then, it was there as a new one. If it was refused it did nothing but ask for growths.
    abbrev pub MakingIsShown : (ℕ → List ℕ) → Moment K V → Type 0
    MakingIsShown name m =
        (b : Beginning K) → s.makers i ≡ Some b → b.map ≡ map → (of : Option ℕ)
        → StaysNew map told m (with_effects None of did m)
        × (WasNew map told m → BelowIfRefused map told m
        → (s2 : Scene K V) × (came : MakingCame s s2 i b told) × IsShown same hash name (with_effects None of did m) new s2 × (CameBare s s2 i b told came.maker → JustAsks b did)
        × HasTable told b (with_effects None of did m))

  -- So it is of several steps.
  abbrev pub MakingRan : (i map : ℕ) → Advance Setting → (before after : List Effect) → (old new : Logged K V S) → Type 0
  MakingRan i map told before after old new =
      (did : List Effect) × (after ≡ before ++ did)
      × ((same : K → K → Bool) (hash : K → ℕ) (s : Scene K V) → IsThere same hash old.executor s → MakingIsAt same hash s i map told did old new)
      × ((same : K → K → Bool) (hash : K → ℕ) (name : ℕ → List ℕ) (m : Moment K V) (s : Scene K V) → IsShown same hash name m old s → MakingIsShown same hash s i map told did old new name m)

  -- Where the map comes by the next number, which the executor has given, with a root that is not used, the moment shows the executor as before.
  abbrev pub MapIsThere : Logged K V S → Type 0
  MapIsThere l =
      (same : K → K → Bool) (hash : K → ℕ) (name : ℕ → List ℕ) (m : Moment K V) (s : Scene K V) → IsShown same hash name m l s
      → NumbersMaps m → (there : MapThere) → there.number ≡ m.made → m.made < length l.executor.maps.items
      → is_among there.root (used_roots m) ≡ false → there.root < l.executor.roots → IsShown same hash name (with_map there m) l s
