-- What the use of a slot says of the world.
use Rattle.std.specs.Prelude.{◌≡◌, ℕ, Bool}
use Rattle.seize.specs.World.{IsInside}
use Rattle.run_places.specs.Given.ScenesScene.{Scene}
use Rattle.run_places.specs.Given.ScenesDeclared.row.SlotUse.TheVariants as used
use Rattle.run_executor.specs.declared.executor.Executor.{Executor}
use Rattle.run_executor.specs.Executing.IsThere.{IsThere, use_at}

-- A slot is within a section that the executor has so.
abbrev pub UsedSlotsAreInside : (K V S : Type 0) → (K → K → Bool) → (K → ℕ) → Type 0
UsedSlotsAreInside K V S same hash =
    (s : Scene K V) (e : Executor K V S) → IsThere same hash e s → (slot : ℕ) → use_at e slot ≡ used.Inside → IsInside (s.world.uses slot)
