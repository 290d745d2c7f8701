-- Slots that are noted as vacant, one after another.
use Rattle.std.specs.Prelude.{◌≡◌, ◌<◌, ℕ, List, length, slice_index_or}
use Rattle.run_places.specs.Given.ScenesDeclared.row.SlotUse.{SlotUse}
use Rattle.run_places.specs.Given.ScenesDeclared.row.SlotUse.TheVariants.{Vacant}

-- so many of the first ones are vacant, of as many as there were
abbrev pub AreVacant : ℕ → List SlotUse → List SlotUse → Type 0
AreVacant k before slots = ((t : ℕ) → t < k → slice_index_or slots t Vacant ≡ Vacant) × (length slots ≡ length before)
