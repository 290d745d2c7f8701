-- A slot that an executor has as one within a section is within one.
use Rattle.std.specs.Prelude.{ℕ, Bool}
use Rattle.std.proofs.Common.{sym, subst}
use Rattle.seize.specs.World.{IsInside}
use Rattle.run_places.specs.Given.ScenesDeclared.row.SlotUse.{SlotUse}
use Rattle.run_executor.specs.Executing.IsThere.{IsUsedAs}
use Rattle.run_executor.specs.Executing.Used.{UsedSlotsAreInside}

pub used_slots_are_inside : (K V S : Type 0) (same : K → K → Bool) (hash : K → ℕ) → UsedSlotsAreInside K V S same hash
used_slots_are_inside K V S same hash s e at slot is = (let it = subst (λ (u : SlotUse). IsUsedAs u (s.world.uses slot)) is (at.uses slot) in subst IsInside (sym it.1) tt)
