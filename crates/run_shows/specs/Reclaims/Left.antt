-- What ended maps have left behind roots, while others have calls on maps that stand, and while maps are made and end: it stays there.
use Rattle.std.specs.Prelude.{◌≡◌, ◌≢◌, ℕ, ◌<◌, ◌≤◌, ◌⊎◌, Bool, List, [], ◌++◌, Option, Some, None}
use Rattle.seize_words.specs.OneMemory.Mem.{Mem}
use Rattle.seize.specs.declared.advance.Advance.{Advance as Counted}
use Rattle.seize.specs.declared.advance.Advance.TheVariants as counted
use Rattle.seize.specs.declared.rows.settle.Settled.{Settled}
use Rattle.seize.specs.World.{World, LeftTo, Request, Begin, Step, Ends, Happens, times, with_at}
use Rattle.seize_acts.specs.Reclaims.Roots.{all_lists}
use Rattle.run_effects.specs.Given.TablesNodes.{deferred_word}
use Rattle.run_effects.specs.Given.TablesDeclared.node.Node.{Node}
use Rattle.run_effects.specs.Given.TablesDeclared.setting.Setting.{Setting}
use Rattle.run_effects.specs.Given.ResizeDeclared.new_map.NewMap.{NewMap}
use Rattle.run_effects.specs.Given.RawDeclared.machines.end_map.EndMap.{EndMap}
use Rattle.run_effects.specs.Given.RawDeclared.machines.machine.Machine.{Machine}
use Rattle.run_effects.specs.Given.RawDeclared.machines.progress.Progress.{Progress}
use Rattle.many_maps.specs.Given.CallersTogether.{UnderWay, IsOfSlots}
use Rattle.many_maps.specs.Endings.{Finishing, finishing_of, waiting_by, HasFinished, EndingsTogether, StepsOfEnding, MakingOutcomeWithEndings, MakingStepsWithEndings}
use Rattle.many_maps.specs.FactsEnds.{Deed, taken_by}
use Rattle.many_maps.specs.Machines.{MachineStepsWithEndings}
use Rattle.many_maps.specs.Makings.{Beginning, HasTaken, IsFreeRoot}
use Rattle.many_maps.specs.Maps.{Standing, IsSameMap}
use Rattle.run_shows.specs.Reclaims.Reclaims.{IsRootOf, RootLeads, LeftBehind}

-- the root is that of a map that stands, of a making that has taken it, or of a map that ends
abbrev pub IsSomebodys : {K V : Type 0} → (ℕ → Option (Standing K)) → (ℕ → Option (Beginning K)) → (ℕ → Option (Finishing K V)) → ℕ → Type 0
IsSomebodys {K} {V} maps makers enders r =
    IsRootOf maps r ⊎ ((j : ℕ) × (b : Beginning K) × (makers j ≡ Some b) × HasTaken b.machine.stands × (b.machine.setting.root ≡ r))
    ⊎ ((j : ℕ) × (f : Finishing K V) × (enders j ≡ Some f) × (f.setting.root ≡ r))

module _ {K V : Type 0} (roots : ℕ) (w : World (Node K V)) (maps : ℕ → Option (Standing K)) (makers : ℕ → Option (Beginning K)) (enders : ℕ → Option (Finishing K V)) (lists : ℕ → List ℕ) where
  -- These lists are behind the roots that are nobody's: what maps have left that have ended. Each other root that is nobody's is free. Their blocks are left
  -- over, and none stands there twice.
  pub record LeftWithEndings : Type 0 where
    pub root : (r : ℕ) → r < roots → IsSomebodys maps makers enders r ⊎ RootLeads w r (lists r)
    pub none : (r : ℕ) → r < roots → IsSomebodys maps makers enders r → lists r ≡ []
    pub left : (b : ℕ) → 0 < times b (all_lists lists roots) → (j : ℕ) × (w.hand b ≡ LeftTo j)
    pub once : (b : ℕ) → times b (all_lists lists roots) ≤ 1
    -- they are none of those that an end which is under way has left over so far
    pub apart : (j : ℕ) (f : Finishing K V) → enders j ≡ Some f → (b : ℕ) → 0 < times b (all_lists lists roots)
        → (times b f.waits ≡ 0) × ((t : ℕ) → f.chart.first ≤ t → t < f.chart.past → times (f.blocks.table t) f.back ≡ 0 → b ≢ f.blocks.table t)

-- Where each root is somebody's, or free, nothing is left behind any.
abbrev pub NothingIsLeft : Type 0 → Type 0 → Type 0
NothingIsLeft K V =
    (roots : ℕ) (w : World (Node K V)) (maps : ℕ → Option (Standing K)) (makers : ℕ → Option (Beginning K)) (enders : ℕ → Option (Finishing K V))
    → ((r : ℕ) → r < roots → IsSomebodys maps makers enders r ⊎ IsFreeRoot w r) → LeftWithEndings roots w maps makers enders (λ r. [])

-- Where no map is made, and none ends, it is what a caller that reclaims all finds there, and leaves there.
abbrev pub LeftIsLeftBehind : Type 0 → Type 0 → Type 0
LeftIsLeftBehind K V =
    (roots : ℕ) (w : World (Node K V)) (maps : ℕ → Option (Standing K)) (makers : ℕ → Option (Beginning K)) (enders : ℕ → Option (Finishing K V)) (lists : ℕ → List ℕ)
    → ((j : ℕ) → makers j ≡ None) → ((j : ℕ) → enders j ≡ None)
    → (LeftWithEndings roots w maps makers enders lists → LeftBehind roots w maps lists) × (LeftBehind roots w maps lists → LeftWithEndings roots w maps makers enders lists)

module _ {K Q : Type 0} (V : Type 0) (same : K → K → Bool) (asks : Q → K → Bool) (batch_size roots : ℕ) (slot : ℕ → ℕ)
    (w : World (Node K V)) (maps : ℕ → Option (Standing K)) (calls : ℕ → ℕ → Option (UnderWay K V Q)) (makers : ℕ → Option (Beginning K)) (enders : ℕ → Option (Finishing K V)) where
  -- The promise of steps of the machine that a caller has under way on a map, whichever it is.
  abbrev pub MachinesLeaveIt : Type 0
  MachinesLeaveIt =
      (lists : ℕ → List ℕ) → EndingsTogether V same asks batch_size roots slot w maps calls makers enders → LeftWithEndings roots w maps makers enders lists
      → (m : ℕ) (s : Standing K) → maps m ≡ Some s → (i : ℕ) (u : UnderWay K V Q) → calls m i ≡ Some u
      → (m2 : Mem (Node K V)) (machine : Machine K V Q) (told : Progress (Node K V))
      → (st : MachineStepsWithEndings V same asks batch_size roots slot w maps calls makers enders m s i m2 u machine told) → LeftWithEndings roots st.w2 st.maps2 makers enders lists

  -- The promise of rows between calls.
  abbrev pub GuardsLeaveIt : Type 0
  GuardsLeaveIt =
      (lists : ℕ → List ℕ) → EndingsTogether V same asks batch_size roots slot w maps calls makers enders → LeftWithEndings roots w maps makers enders lists
      → (i : ℕ) (w2 : World (Node K V)) (maps2 : ℕ → Option (Standing K)) → ((m : ℕ) → IsSameMap (maps m) (maps2 m))
      → ((request : Request) → IsOfSlots request → Happens deferred_word batch_size (Begin i request) w w2 → LeftWithEndings roots w2 maps2 makers enders lists)
      × (Happens deferred_word batch_size (Step i) w w2 → LeftWithEndings roots w2 maps2 makers enders lists)

  -- A making begins, or takes a step.
  abbrev pub MakingsBeginAndLeaveIt : Type 0
  MakingsBeginAndLeaveIt =
      (lists : ℕ → List ℕ) → LeftWithEndings roots w maps makers enders lists → (i : ℕ) → makers i ≡ None → (b : Beginning K) → (HasTaken b.machine.stands → ⊥)
      → LeftWithEndings roots w maps (with_at makers i (Some b)) enders lists

  -- what is left then, whether the making goes on, is over with its map, or without it
  abbrev pub MakingLeft : (ℕ → List ℕ) → (i : ℕ) → (b : Beginning K) → (w2 : World (Node K V)) → (end : NewMap × Counted Setting)
      → MakingOutcomeWithEndings V same asks batch_size roots slot w maps calls makers enders i b w2 end → Type 0
  MakingLeft lists i b w2 (n, counted.Goes) told = LeftWithEndings roots w2 maps (with_at makers i (Some (record b { machine = n }))) enders lists
  MakingLeft lists i b w2 (n, counted.Waits) told = ⊥
  MakingLeft lists i b w2 (n, counted.Done answer) told = LeftWithEndings roots w2 (with_at maps b.map (Some told.0)) (with_at makers i None) enders lists
  MakingLeft lists i b w2 (n, counted.Refused fault) told = LeftWithEndings roots w2 maps (with_at makers i None) enders lists

  abbrev pub MakingsLeaveIt : Type 0
  MakingsLeaveIt =
      (lists : ℕ → List ℕ) → EndingsTogether V same asks batch_size roots slot w maps calls makers enders → LeftWithEndings roots w maps makers enders lists
      → (i : ℕ) (b : Beginning K) → makers i ≡ Some b → (m2 : Mem (Node K V)) (end : NewMap × Counted Setting)
      → (st : MakingStepsWithEndings V same asks batch_size roots slot w maps calls makers enders i b m2 end) → MakingLeft lists i b st.step.w2 end st.told

  -- The end of a map begins.
  abbrev pub EndingsBeginAndLeaveIt : Type 0
  EndingsBeginAndLeaveIt =
      (lists : ℕ → List ℕ) → EndingsTogether V same asks batch_size roots slot w maps calls makers enders → LeftWithEndings roots w maps makers enders lists
      → (i : ℕ) → enders i ≡ None → (m : ℕ) (s : Standing K) → maps m ≡ Some s → (w2 : World (Node K V)) → Happens deferred_word batch_size (Ends i s.setting.counter) w w2
      → LeftWithEndings roots w2 (with_at maps m None) makers (with_at enders i (Some (finishing_of s w))) lists

  -- It goes on as this one, of the same map: with what it has reclaimed, and what waits.
  pub record ContinuesBy (f : Finishing K V) (deed : Deed) (f2 : Finishing K V) : Type 0 where
    pub setting_is : f2.setting ≡ f.setting
    pub chart_is : f2.chart ≡ f.chart
    pub blocks_are : f2.blocks ≡ f.blocks
    pub back_is : f2.back ≡ f.back ++ taken_by deed
    pub waits_are : f2.waits ≡ f.waits ++ waiting_by deed

  -- It takes a step. At its end what waits is behind its root.
  abbrev pub EndingsLeaveIt : Type 0
  EndingsLeaveIt =
      (lists : ℕ → List ℕ) → EndingsTogether V same asks batch_size roots slot w maps calls makers enders → LeftWithEndings roots w maps makers enders lists
      → (i : ℕ) (f : Finishing K V) → enders i ≡ Some f → (m2 : Mem (Node K V)) (end : EndMap × Settled (Node K V))
      → (st : StepsOfEnding V same asks batch_size roots slot w maps calls makers enders i f m2 end)
      → ((f2 : Finishing K V) → ContinuesBy f st.deed f2 → LeftWithEndings roots st.w2 maps makers (with_at enders i (Some f2)) lists)
      × (HasFinished st.w2.memory f → LeftWithEndings roots st.w2 maps makers (with_at enders i None) (with_at lists f.setting.root f.waits))
