-- A section that is open, over a memory that has one owner.
use Rattle.std.specs.Prelude.{◌≡◌, ℕ, None}
use Rattle.seize_words.specs.OneMemory.Mem.{Mem}
use Rattle.seize.specs.World.{Use, Inside}
use Rattle.seize_model.specs.Alone.Alone.{SlotsAre}

-- something happened from the start, with this batch size, and this slot's section is open
abbrev pub IsInside : {T : Type 0} → ℕ → Mem T → ℕ → Type 0
IsInside size m slot = (uses : ℕ → Use) × SlotsAre (λ _. None) size 0 m uses × (uses slot ≡ Inside 0)
