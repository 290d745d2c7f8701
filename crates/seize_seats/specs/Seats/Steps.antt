-- Which step on a word an operation is.
use Rattle.std.specs.Prelude.{◌≡◌, ℕ, ◌==◌, Some, Result, Ok, Err, if◌then◌else◌}
use Rattle.seize_words.specs.OneMemory.Mem.{Mem, Can, Gives, word_at, with_word, after}
use Rattle.seize_words.specs.OneMemory.Op.{Op, Out}
use Rattle.seize_words.specs.declared.at.At.{At}
use Rattle.seize_words.specs.declared.fault.Fault.{Fault}
use Rattle.seize_words.specs.declared.fault.Fault.TheVariants.{Memory}
use denote.RawPtr.{Ptr}
use Rattle.seize_seats.specs.Seats.Lines.{IsWord}
use Rattle.seize_seats.specs.Seats.Owned.{BaseId, place_in, IsIn}

-- The operation, on the word of this name, takes it to f of what it was, and `out` of that is the answer.
pub record IsWordStep (T : Type 0) (at : At) (op : Op T) (f : ℕ → ℕ) (out : ℕ → Out T) : Type 0 where
  pub needs : (m : Mem T) → Can m op → (w : ℕ) × (word_at m at ≡ Some w)
  pub makes : (m : Mem T) (w : ℕ) → word_at m at ≡ Some w → Gives m op (out w) × (after m op (out w) ≡ with_word m at (f w))

-- The operation, on the word of this name, is one step on the word at a place: it becomes f of what it was, and `out` of that is the answer.
pub record IsStepOf (T : Type 0) (p : Ptr) (z : BaseId) (at : At) (place : ℕ) (op : Op T) (f : ℕ → ℕ) (out : ℕ → Out T) : Type 0 where
  pub needs : (m : Mem T) → Can m op → (w : ℕ) × (word_at m at ≡ Some w)
  pub makes : (m : Mem T) (w : ℕ) → word_at m at ≡ Some w → Gives m op (out w) × (after m op (out w) ≡ with_word m at (f w))
  pub lies : IsWord z.roots z.count at → IsIn p z at × (place ≡ place_in z at)

-- how an exchange is answered that found this word
abbrev pub exchanged : ℕ → ℕ → Result ℕ ℕ
exchanged old found = if found == old then Ok found else Err found

-- how the asking for the words of a bucket is answered that has no door: the first one's are there then, and there are none of one behind the last door
abbrev pub roomed : ℕ → Result Unit Fault
roomed bucket = if bucket == 0 then Ok tt else Err Memory
