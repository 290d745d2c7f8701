-- What is said of a memory in which threads count: its first root is there.
use Rattle.std.specs.Prelude.{◌≡◌, ℕ, Some}
use Rattle.seize_words.specs.OneMemory.Mem.{word_at}
use Rattle.seize_words.specs.declared.at.At.TheVariants.{Root}
use Rattle.seize_seats.specs.Seats.State.{State}

-- the first root has a word
abbrev pub HasRoot : {T V W : Type 0} → State T V W → Type 0
HasRoot s = (w : ℕ) × (word_at s.memory (Root 0) ≡ Some w)
