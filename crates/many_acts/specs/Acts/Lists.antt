-- Lists of acts: to which scene each leads, and what is promised of it.
use Rattle.std.specs.Prelude.{◌≡◌, ℕ, Bool, List, [], ◌∷◌, ◌++◌, Some}
use Rattle.std.proofs.Common.{inl}
use Rattle.run_shows.specs.Given.SeizeWordsMem.{Mem, Can, Took, value_at}
use Rattle.run_shows.specs.Given.SeizeWordsPlan.{May, Steps}
use Rattle.run_shows.specs.Given.SeizeWorld.{World, MayStep, Steps'}
use Rattle.run_shows.specs.Given.SeizeDeclared.advance.Advance.{Advance}
use Rattle.run_shows.specs.Given.SeizeDeclared.rows.settle.Settled.{Settled}
use Rattle.seize_acts.specs.Acts.Acts.{row_steps}
use Rattle.seize_acts.specs.Acts.Answers.{Grant}
use Rattle.run_shows.specs.Given.TablesNodes.{deferred_word}
use Rattle.run_shows.specs.Given.TablesDeclared.node.Node.{Node}
use Rattle.run_shows.specs.Given.TablesDeclared.setting.Setting.{Setting}
use Rattle.run_shows.specs.Given.ResizeNewMap.{new_map_plan}
use Rattle.run_shows.specs.Given.ResizeDeclared.new_map.NewMap.{NewMap}
use Rattle.run_shows.specs.Given.RawEndMap.{end_map_plan}
use Rattle.run_shows.specs.Given.RawMachine.{machine_plan}
use Rattle.run_shows.specs.Given.RawDeclared.machines.end_map.EndMap.{EndMap}
use Rattle.run_shows.specs.Given.RawDeclared.machines.machine.Machine.{Machine}
use Rattle.run_shows.specs.Given.RawDeclared.machines.progress.Progress.{Progress as CallProgress}
use Rattle.owner_facts.specs.Given.PointsSteps.{AreLawful}
use Rattle.owner_facts.specs.Given.CallersTogether.{UnderWay}
use Rattle.owner_facts.specs.Given.FinishesEndings.{Finishing}
use Rattle.owner_facts.specs.Given.FinishesMachines.{machine_of}
use Rattle.owner_facts.specs.Given.FinishesMakings.{Beginning}
use Rattle.owner_facts.specs.Given.FinishesMaps.{Standing}
use Rattle.many_acts.specs.Acts.Acts.{Answer}
use Rattle.many_acts.specs.Acts.Doings.{Doing, IsLeft, Stage, MayDo, HasDone}
use Rattle.many_acts.specs.Acts.Leads.{AllStand, call_steps, making_steps, ending_steps}
use Rattle.run_shows.specs.Scenes.Scene.{Scene, HasNoCall, at_first}

module _ {K S : Type 0} (V : Type 0) (same : K → K → Bool) (hash : S → K → ℕ) (batch_size roots : ℕ) (slot : ℕ → ℕ) where
  -- whichever caller takes the next step of what it has under way, it may take it: all that the step looks at is there
  pub record AllMayStep (s : Scene K V) : Type 0 where
    pub calls : (m i : ℕ) (standing : Standing K) (u : UnderWay K V K) → s.maps m ≡ Some standing → s.calls m i ≡ Some u
        → May Can Took value_at s.world.memory (machine_plan same same standing.hash (machine_of u))
    pub makings : (i : ℕ) (b : Beginning K) → s.makers i ≡ Some b → May Can Took value_at s.world.memory (new_map_plan {K = K} {V = V} b.machine)
    pub endings : (i : ℕ) (f : Finishing K V) → s.enders i ≡ Some f → May Can Took value_at s.world.memory (end_map_plan {K = K} {V = V} f.machine)
    pub rows : (i : ℕ) → HasNoCall s i → MayStep deferred_word (s.world.row i) s.world.memory
    pub standing : (m i : ℕ) (u : UnderWay K V K) → s.calls m i ≡ Some u → (standing : Standing K) × (s.maps m ≡ Some standing)

  -- No step is left out: what a memory has taken as a step is what is computed of an act, with some choice of the memory.
  pub record AllAreActs (s : Scene K V) : Type 0 where
    pub calls : (m i : ℕ) (standing : Standing K) (u : UnderWay K V K) → s.maps m ≡ Some standing → s.calls m i ≡ Some u
        → (m2 : Mem (Node K V)) (end : Machine K V K × CallProgress (Node K V)) → Steps Took value_at s.world.memory (machine_plan same same standing.hash (machine_of u)) m2 end
        → (g : Grant) × (call_steps same hash batch_size roots slot s g (standing, u) ≡ Some (m2, end))
    pub makings : (i : ℕ) (b : Beginning K) → s.makers i ≡ Some b
        → (m2 : Mem (Node K V)) (end : NewMap × Advance Setting) → Steps Took value_at s.world.memory (new_map_plan b.machine) m2 end
        → (g : Grant) × (making_steps same hash batch_size roots slot s g b ≡ Some (m2, end))
    pub endings : (i : ℕ) (f : Finishing K V) → s.enders i ≡ Some f
        → (m2 : Mem (Node K V)) (end : EndMap × Settled (Node K V)) → Steps Took value_at s.world.memory (end_map_plan f.machine) m2 end
        → (g : Grant) × (ending_steps same hash batch_size roots slot s g f ≡ Some (m2, end))
    pub rows : (i : ℕ) → HasNoCall s i → (w2 : World (Node K V)) → Steps' deferred_word i (s.world.row i) s.world w2
        → (g : Grant) × (row_steps deferred_word i (s.world.row i) g s.world ≡ Some w2)

  -- The promise of steps: where the invariant of all holds, each next step may be taken, and is that of an act.
  abbrev pub StepsAreActs : Type 0
  StepsAreActs = (s : Scene K V) → AllStand same hash batch_size roots slot s → AllMayStep s × AllAreActs s

  -- A course says where each of what may be done leads, and what it tells: the invariant of all holds again. At first nobody has anything under way, no map
  -- stands, and nothing is left behind roots.
  pub record Course : Type 0 where
    pub first : AllStand {V = V} same hash batch_size roots slot (at_first roots)
    pub left : IsLeft {K = K} {V = V} roots (at_first roots) (λ r. [])
    pub next : (p : Stage V same hash batch_size roots slot) (doing : Doing K V S) → MayDo V same hash batch_size roots slot doing p → Stage V same hash batch_size roots slot
    pub told : (p : Stage V same hash batch_size roots slot) (doing : Doing K V S) → MayDo V same hash batch_size roots slot doing p → Answer K V
    pub leads : (p : Stage V same hash batch_size roots slot) (doing : Doing K V S) (may : MayDo V same hash batch_size roots slot doing p)
        → HasDone V same hash batch_size roots slot doing p (told p doing may) (next p doing may)

  -- where a list has led, and what it has told, the newest last
  abbrev pub Reached : Type 0
  Reached = Stage V same hash batch_size roots slot × List (Answer K V)

  module _ (course : Course) where
    -- where nothing was done yet
    abbrev pub nothing_done : Reached
    nothing_done = ((at_first roots, course.first, inl ((λ r. []), course.left)), [])

    abbrev pub on_by : (x : Reached) (doing : Doing K V S) → MayDo V same hash batch_size roots slot doing x.0 → Reached
    on_by x doing may = (course.next x.0 doing may, x.1 ++ course.told x.0 doing may ∷ [])

    -- From there these acts, the newest last, have led here. A caller may have reclaimed all in between.
    abbrev pub LedOn : List (Doing K V S) → Reached → Reached → Type 0
    LedOn [] x y = y ≡ x
    LedOn (doing ∷ doings) x y = (may : MayDo V same hash batch_size roots slot doing x.0) × LedOn doings (on_by x doing may) y

    -- A list of acts has led there.
    abbrev pub LedTo : List (Doing K V S) → Reached → Type 0
    LedTo doings x = LedOn doings nothing_done x

    -- A list leads to one stage, and tells one list of answers.
    abbrev pub IsDetermined : Type 0
    IsDetermined = (doings : List (Doing K V S)) (x y : Reached) → LedTo doings x → LedTo doings y → x ≡ y

  -- The promise of lists: there is a course, and by each one a list of plain data determines world, maps, calls, makings, ends, who reclaims all, and all
  -- that was told.
  abbrev pub ListsDetermine : Type 0
  ListsDetermine = ((hasher : S) → AreLawful same (hash hasher)) → Course × ((course : Course) → IsDetermined course)
