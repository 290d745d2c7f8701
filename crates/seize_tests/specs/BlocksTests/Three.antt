-- What is said of a memory with blocks that have three words of their own: each seat that knows of one finds them.
use Rattle.std.specs.Prelude.{◌≡◌, ◌<◌, ℕ, Some, Ok, IsSome}
use Rattle.seize_words.specs.OneMemory.Mem.{Mem, word_at}
use Rattle.seize_words.specs.OneMemory.Op.{Op, Out, Make, Made}
use Rattle.seize_words.specs.declared.at.At.TheVariants.{Word}
use Rattle.seize_seats.specs.Seats.State.{State, view_of}

abbrev pub HasThree : Mem ℕ → ℕ → Type 0
HasThree m n = (i : ℕ) → i < 3 → IsSome (word_at m (Word n i))

-- a seat knows of the block of a number, or of none
abbrev pub AreThrees : State ℕ ℕ (Unit {0}) → Type 0
AreThrees s = (j n : ℕ) → view_of s j ≡ Some n → 0 < n → HasThree s.memory n

-- who makes one knows of it
abbrev pub knows : ℕ → Op ℕ → Out ℕ → ℕ → Type 0
knows v (Make x words) (Made (Ok n)) w = (w ≡ n) × (0 < n)
knows v op out w = w ≡ v

-- the other seat comes to know of the block of the one
abbrev pub hears : ℕ → ℕ → ℕ → ℕ → Type 0
hears v u v' u' = (v' ≡ v) × (u' ≡ v)
