-- When a registration needs words that are not there.
use Rattle.std.specs.Prelude.{◌≡◌, ℕ, ◌+◌, Some, None}
use Rattle.seize_words.specs.declared.at.At.TheVariants.{Slot}
use Rattle.seize_words.specs.OneMemory.Mem.{Mem, word_at}
use Rattle.seize.specs.declared.states.TheConstants.{HEAD, NEVER}
use Rattle.seize.specs.Register.{MayNeedRoom}
use Rattle.seize.specs.World.{Use}
use Rattle.seize.specs.Sequence.{new_slot}

-- The least vacant slot is one that may need words, it was never taken, and the slot behind it has no words yet.
abbrev pub NeedsRoom : {T : Type 0} → Mem T → (ℕ → Use) → Type 0
NeedsRoom m uses =
    (s : ℕ) × (new_slot uses ≡ Some s) × MayNeedRoom s × ((head : ℕ) → word_at m (Slot s HEAD) ≡ Some head → head ≡ NEVER) × (word_at m (Slot (s + 1) HEAD) ≡ None)
