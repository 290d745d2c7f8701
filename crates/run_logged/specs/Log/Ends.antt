-- Where the beginning of the end of a map leads, a step of it, and its run to the end; and what they do.
use Rattle.std.specs.Prelude.{◌≡◌, ◌≢◌, ◌<◌, ◌≤◌, ℕ, Bool, true, false, List, [], ◌++◌, length, filter, map as each_of, Some, None}
use Rattle.seize.specs.World.{times}
use Rattle.seize.specs.declared.rows.settle.Settled.{Settled}
use Rattle.seize.specs.declared.rows.settle.Settled.TheVariants as settled
use Rattle.run_schedules.specs.Runs.Same.{is_same}
use Rattle.papaya_raw.specs.Given.TablesChunks.{is_incremental}
use Rattle.papaya_raw.specs.Given.TablesDeclared.node.Node.{Node}
use Rattle.papaya_raw.specs.Given.TablesDeclared.setting.Setting.{Setting}
use Rattle.papaya_raw.specs.declared.machines.end_map.EndMap.{EndMap}
use Rattle.run_effects.specs.Given.RuleChart.{Chart}
use Rattle.run_effects.specs.Given.RuleWords.{Blocks}
use Rattle.run_schedules.specs.declared.effect.Effect.{Effect}
use Rattle.run_schedules.specs.Schedules.After.{if_any}
use Rattle.run_schedules.specs.Schedules.Effects.{with_effects}
use Rattle.run_schedules.specs.Schedules.Handing.{EndsMap}
use Rattle.run_schedules.specs.Schedules.Moment.{MapThere, Moment}
use Rattle.run_schedules.specs.Schedules.Views.{map_at, map_of}
use Rattle.run_effects.specs.Effects.Known.{Known, known}
use Rattle.run_effects.specs.declared.role.Role.TheVariants as role
use Rattle.run_shows.specs.Given.FinishesEndings.{Finishing, AllPairsOnce, finishing_of}
use Rattle.run_shows.specs.Given.FinishesFactsEnds.{RootIs, back_of, taken_by as taken_of}
use Rattle.run_shows.specs.Given.FinishesMaps.{Standing}
use Rattle.run_shows.specs.Follows.Maps.{table_of}
use Rattle.run_shows.specs.Others.Endings.{ending_after, without_map}
use Rattle.run_executor.specs.Given.MomentsNumbers.{AreFound}
use Rattle.run_executor.specs.Given.MomentsWholeEnds.{all_ended}
use Rattle.run_logged.specs.Log.Shown.{IsShown}
use Rattle.run_kept.specs.Sheds.Waits.{ReportsLeft, ReportsThen, ReportsWaiting}
use Rattle.run_logged.specs.declared.logged.Logged.{Logged}
use Rattle.run_executor.specs.Executing.Ending.{NoCallOn}
use Rattle.run_executor.specs.Executing.IsThere.{IsThere, held_by}
use Rattle.run_shows.specs.Scenes.Ending.{EndingLeads, ending_begun}
use Rattle.run_shows.specs.Scenes.Scene.{Scene}
use Rattle.run_kept.specs.Ends.{ended_as}

-- an end is over
abbrev pub is_done : {T : Type 0} → Settled T → Bool
is_done settled.Done = true
is_done _ = false

-- These effects are a whole end of the map: all pairs that are in it end, in order, and its tables, from the root's on.
abbrev pub AllEnds : {K V : Type 0} → ℕ → List Effect → Moment K V → Type 0
AllEnds map did m = EndsMap map did m (with_effects None (Some map) did m)

-- The blocks of a map are noted as its pairs, which have these numbers, as its tables, and as its counter.
pub record NotesMap {K : Type 0} (map : ℕ) (number : ℕ → ℕ) (first : Known) (setting : Setting) (c : Chart K) (blocks : Blocks) : Type 0 where
  pub pairs : (n : ℕ) → c.current n ≡ true → first.roles (blocks.pair n) ≡ role.Pair (number n)
  pub tables : (t : ℕ) → c.first ≤ t → t < c.past → first.roles (blocks.table t) ≡ role.Table (table_of map t) (c.len t)
  pub counter : first.roles setting.counter ≡ role.Counter map

-- blocks that were not reclaimed are noted as they were
abbrev pub NotedStill : Known → Known → List ℕ → Type 0
NotedStill first now back = (b : ℕ) → times b back ≡ 0 → now.roles b ≡ first.roles b

module _ {K V S : Type 0} (same : K → K → Bool) (hash : K → ℕ) (name : ℕ → List ℕ) (m : Moment K V) (s : Scene K V) where
  -- The end of a map that stands, and on which nobody has a call, is under way, and the moment shows that, as it is. Its pairs are to be reclaimed, each once; and if all of
  -- it ended at this moment, that would be a whole end of it. It has left nothing over so far.
  abbrev pub EndIsBegun : (map i : ℕ) → (old new : Logged K V S) → Type 0
  EndIsBegun map i old new =
      NoCallOn old.executor map
      → (standing : Standing K) × (s.maps map ≡ Some standing) × AllPairsOnce (is_incremental standing.setting.mode) standing.chart
      × ((number : ℕ → ℕ) × NotesMap map number (known new.notes) standing.setting standing.chart standing.blocks × AllEnds map (all_ended (is_incremental standing.setting.mode) map number standing.chart) m)
      × IsShown same hash name m new (ending_begun map i standing s)
      × ReportsWaiting same map i (finishing_of standing s.world) m m (known new.notes) (ending_begun map i standing s).world

  -- A step of a caller's end of the map of this number, of which this was noted as it began. The pair, or the table, that it reclaims ends with the map, and it does
  -- nothing else. The moment after it shows where the step has led, and what it has left over tells what waited as before.
  abbrev pub EndContinues : (i map : ℕ) → Settled (Node K V) → List Effect → (old new : Logged K V S) → Type 0
  EndContinues i map said did old new =
      (f : Finishing K V) (here : s.enders i ≡ Some f) → s.maps map ≡ None
      → (number : ℕ → ℕ) (first : Known) → NotesMap map number first f.setting f.chart f.blocks → NotedStill first (known old.notes) f.back
      → (leads : EndingLeads same (λ map. hash) i said s (held_by old.executor) (held_by new.executor))
      × (did ≡ ended_as map first (taken_of (leads f here).2.deed))
      × NotedStill first (known new.notes) (f.back ++ taken_of (leads f here).2.deed)
      × IsShown same hash name (with_effects None (Some map) did m) new (ending_after same (λ map. hash) s (held_by new.executor) i f (leads f here).0 (leads f here).2.w2 (leads f here).2.deed said (leads f here).3)
      × ((began : Moment K V) → ReportsWaiting same map i f began m (known old.notes) s.world
      → ReportsThen same map i f (is_done said) (leads f here).0 (leads f here).2.deed began (with_effects None (Some map) did m) (known new.notes) (leads f here).2.w2)

-- Where an end has come that was there so, and has reclaimed these further blocks: it goes on, as another machine; or it is over, has reclaimed all that it was to, and what
-- it left over waits behind its root, which is free without that. All else that is under way is so as before, and so are the maps that stand, and the uses of slots.
module _ {K V : Type 0} (s s2 : Scene K V) (i : ℕ) (f : Finishing K V) (gone : List ℕ) where
  abbrev pub EnderIs : Bool → Type 0
  EnderIs false = (machine : EndMap) × (waits : List ℕ) × (s2.enders i ≡ Some (record f { machine = machine; back = f.back ++ gone; waits = waits }))
  EnderIs true =
      (s2.enders i ≡ None) × (f.back ++ gone ≡ back_of f.setting f.chart f.blocks (λ t. []) false) × ((waits : List ℕ) × RootIs {K = K} f.setting s2.world.memory waits)

  -- what it has left over is what waited as it began
  abbrev pub ReportsCame : (K → K → Bool) → ℕ → Moment K V → Moment K V → Known → (over : Bool) → EnderIs over → Type 0
  ReportsCame same map began m known false ender = ReportsWaiting same map i (record f { machine = ender.0; back = f.back ++ gone; waits = ender.1 }) began m known s2.world
  ReportsCame same map began m known true ender = ReportsLeft map f.chart began known ender.2.0

  pub record EndCame (over : Bool) : Type 0 where
    pub ender : EnderIs over
    pub enders : (j : ℕ) → j ≢ i → s2.enders j ≡ s.enders j
    pub maps : s2.maps ≡ s.maps
    pub calls : s2.calls ≡ s.calls
    pub makers : s2.makers ≡ s.makers
    pub rows : s2.world.row ≡ s.world.row
    pub uses : s2.world.uses ≡ s.world.uses

module _ {K V S : Type 0} where
  -- What a step does follows in the list, whatever shows the executor.
  abbrev pub EndSteps : (i map : ℕ) → Settled (Node K V) → (before after : List Effect) → (old new : Logged K V S) → Type 0
  EndSteps i map said before after old new =
      (did : List Effect) × (after ≡ before ++ did)
      × ((same : K → K → Bool) (hash : K → ℕ) (name : ℕ → List ℕ) (m : Moment K V) (s : Scene K V) → IsShown same hash name m old s → EndContinues same hash name m s i map said did old new)

  module _ (same : K → K → Bool) (hash : K → ℕ) (s : Scene K V) (i : ℕ) (over : Bool) (new : Logged K V S) where
    -- The executor is there where the end has come,
    abbrev pub EndIsAt : Type 0
    EndIsAt = (f : Finishing K V) → s.enders i ≡ Some f → (s2 : Scene K V) × (gone : List ℕ) × EndCame s s2 i f gone over × IsThere same hash new.executor s2

    -- and so it is shown. What it did is that these blocks end with the map; the whole end of a map is that all of
    -- it ends. What it has left over tells what waited as it began.
    abbrev pub EndIsShown : (ℕ → List ℕ) → (map : ℕ) → (old : Logged K V S) → List Effect → Moment K V → Type 0
    EndIsShown name map old did m =
        (f : Finishing K V) → s.enders i ≡ Some f → s.maps map ≡ None
        → (number : ℕ → ℕ) (first : Known) → NotesMap map number first f.setting f.chart f.blocks → NotedStill first (known old.notes) f.back
        → (s2 : Scene K V) × (gone : List ℕ) × (came : EndCame s s2 i f gone over) × (did ≡ ended_as map first gone) × NotedStill first (known new.notes) (f.back ++ gone)
        × IsShown same hash name (with_effects None (Some map) did m) new s2
        × (over ≡ true → f.back ≡ [] → did ≡ all_ended (is_incremental f.setting.mode) map number f.chart)
        × ((began : Moment K V) → ReportsWaiting same map i f began m (known old.notes) s.world
        → ReportsCame s s2 i f gone same map began (with_effects None (Some map) did m) (known new.notes) over came.ender)

  -- So it is of several steps.
  abbrev pub EndRan : (i map : ℕ) → Bool → (before after : List Effect) → (old new : Logged K V S) → Type 0
  EndRan i map over before after old new =
      (did : List Effect) × (after ≡ before ++ did)
      × ((same : K → K → Bool) (hash : K → ℕ) (s : Scene K V) → IsThere same hash old.executor s → EndIsAt same hash s i over new)
      × ((same : K → K → Bool) (hash : K → ℕ) (name : ℕ → List ℕ) (m : Moment K V) (s : Scene K V) → IsShown same hash name m old s → EndIsShown same hash s i over new name map old did m)

  -- And once it is over, and nobody ends a map, a moment shows it without the map, too, with these pairs as what it has left over, if what is behind its root is noted as them: no map
  -- that stands has its name, no other one there has it, and each one is found by its number.
  abbrev pub EndIsOver : Logged K V S → Type 0
  EndIsOver new =
      (same : K → K → Bool) (hash : K → ℕ) (name : ℕ → List ℕ) (m : Moment K V) (s : Scene K V) (shown : IsShown same hash name m new s)
      → (own : List ℕ) (f : MapThere) → map_of own m ≡ Some f → length (filter (λ g. is_same g.name own) m.maps) ≤ 1 → ((j : ℕ) → s.enders j ≡ None)
      → (pairs : List ℕ) → each_of (known new.notes).roles (shown.counted.remains.lists f.root) ≡ each_of role.Pair pairs → AreFound m
      → ((map : ℕ) (standing : Standing K) (there : MapThere) → s.maps map ≡ Some standing → map_at map m ≡ Some there → is_same there.name own ≡ false)
      → IsShown same hash name (without_map own (if_any f.root pairs m.remains) m) new s
