-- What it leads to that a caller begins to end a map, and that it takes a step of that.
use Rattle.std.specs.Prelude.{◌≡◌, ℕ, Bool, Option, Some, None}
use Rattle.seize.specs.declared.rows.settle.Settled.{Settled}
use Rattle.seize.specs.declared.rows.settle.Settled.TheVariants as settled
use Rattle.papaya_raw.specs.Given.TablesDeclared.node.Node.{Node}
use Rattle.papaya_raw.specs.declared.machines.end_map.EndMap.{EndMap}
use Rattle.run_places.specs.Given.ScenesEnding.{EndingBeginsTo, EndingLeadsTo}
use Rattle.run_places.specs.Given.ScenesScene.{Scene}
use Rattle.run_executor.specs.declared.executor.Executor.{Executor}
use Rattle.run_executor.specs.declared.worker.Work.{Work}
use Rattle.run_executor.specs.declared.worker.Work.TheVariants as work
use Rattle.run_executor.specs.Executing.IsThere.{IsThere, call_in, held_by, work_of}

-- an end goes on, unless it is over
abbrev pub ending_on : {K V : Type 0} → EndMap → Settled (Node K V) → Option (Work K V)
ending_on ending settled.Done = None
ending_on ending _ = Some (work.Ending ending)

module _ {K V S : Type 0} where
  -- nobody has a call on the map of this number
  abbrev pub NoCallOn : Executor K V S → ℕ → Type 0
  NoCallOn e m = (j : ℕ) → call_in (work_of e j) m ≡ None

module _ {K V S : Type 0} (same : K → K → Bool) (hash : K → ℕ) where
  -- The end of a map that begins while nobody has a call on it leads where one does that begins on what is held: the executor is there.
  abbrev pub EndingBegins : ℕ → ℕ → Scene K V → Executor K V S → Executor K V S → Type 0
  EndingBegins m i s old new = NoCallOn old m → (new.memory ≡ old.memory) × EndingBeginsTo same (IsThere same hash new) m i s (held_by old) (held_by new)

  -- So does its step.
  abbrev pub EndsThere : ℕ → Settled (Node K V) → Scene K V → Executor K V S → Executor K V S → Type 0
  EndsThere i told s old new = EndingLeadsTo same (IsThere same hash new) i told s (held_by old) (held_by new)
