-- What a step of a call that a caller has under way leads to.
use Rattle.std.specs.Prelude.{ℕ, Bool}
use Rattle.papaya_raw.specs.Given.TablesDeclared.node.Node.{Node}
use Rattle.papaya_raw.specs.declared.machines.machine.Machine.{Machine}
use Rattle.papaya_raw.specs.declared.machines.progress.Progress.{Progress}
use Rattle.run_places.specs.Given.ScenesScene.{Scene}
use Rattle.run_places.specs.Given.ScenesStepping.{StepLeadsTo, StepsFrom, going_on}
use Rattle.run_executor.specs.declared.executor.Executor.{Executor}
use Rattle.run_executor.specs.Executing.IsThere.{IsThere, ChangesAt, held_by, worker_with}

module _ {K V S : Type 0} (same : K → K → Bool) (hash : K → ℕ) where
  -- it was a step of this machine, and at its place the call goes on, unless it has ended
  abbrev pub SteppedAs : (place slot map : ℕ) → Machine K V K → Progress (Node K V) → Executor K V S → Executor K V S → Type 0
  SteppedAs place slot map before told old new =
      (machine : Machine K V K) × StepsFrom same hash before (held_by old) (held_by new) machine told × ChangesAt place (worker_with slot map (going_on machine told)) old new

  -- The step of a caller's call leads where one does on what is held: the executor is there.
  abbrev pub StepsThere : ℕ → Progress (Node K V) → Scene K V → Executor K V S → Executor K V S → Type 0
  StepsThere i told s old new = StepLeadsTo same (IsThere same hash new) i told s (held_by old) (held_by new)
