-- What a step of the making of a map leads to.
use Rattle.std.specs.Prelude.{ℕ, Bool, List, Option, Some, None, slice_set}
use Rattle.seize.specs.declared.advance.Advance.{Advance}
use Rattle.seize.specs.declared.advance.Advance.TheVariants as progress
use Rattle.papaya_raw.specs.Given.TablesDeclared.setting.Setting.{Setting}
use Rattle.run_places.specs.Given.ResizeDeclared.new_map.NewMap.{NewMap}
use Rattle.run_places.specs.Given.ScenesMaking.{MakingLeadsTo}
use Rattle.run_places.specs.Given.ScenesScene.{Scene}
use Rattle.run_executor.specs.declared.executor.Executor.{Executor}
use Rattle.run_executor.specs.declared.worker.Work.{Work}
use Rattle.run_executor.specs.declared.worker.Work.TheVariants as work
use Rattle.run_executor.specs.Executing.IsThere.{IsThere, held_by}

-- a making goes on, unless it has ended
abbrev pub making_on : {K V : Type 0} → ℕ → NewMap → Advance Setting → Option (Work K V)
making_on map opening progress.Goes = Some (work.Making map opening)
making_on map opening progress.Waits = Some (work.Making map opening)
making_on map opening (progress.Done setting) = None
making_on map opening (progress.Refused fault) = None

-- the settings of the maps: that of one that was made stands at its number
abbrev pub maps_on : ℕ → Advance Setting → List (Option Setting) → List (Option Setting)
maps_on map (progress.Done setting) maps = slice_set maps map (Some setting)
maps_on map _ maps = maps

module _ {K V S : Type 0} (same : K → K → Bool) (hash : K → ℕ) where
  -- The step of a caller's making of a map leads where one does on what is held: the executor is there.
  abbrev pub MakesThere : ℕ → Advance Setting → Scene K V → Executor K V S → Executor K V S → Type 0
  MakesThere i told s old new = MakingLeadsTo same (IsThere same hash new) i told s (held_by old) (held_by new)
