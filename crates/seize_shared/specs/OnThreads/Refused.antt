-- Why no slot is taken.
use Rattle.std.specs.Prelude.{◌≡◌, ◌⊎◌}
use Rattle.seize_words.specs.declared.fault.Fault.{Fault}
use Rattle.seize_words.specs.declared.fault.Fault.TheVariants.{SlotsUsedUp, Memory}

-- each of them was in use, or memory was refused
abbrev pub HasNoSlot : Fault → Type 0
HasNoSlot fault = (fault ≡ SlotsUsedUp) ⊎ (fault ≡ Memory)
