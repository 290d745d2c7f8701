-- What one operation changes, as whoever makes it sees it.
use Rattle.std.specs.Prelude.{ℕ, ◌+◌, ◌^◌, ◌%◌, bit_or, Ok, Err, Option, Some, None}
use Rattle.run_schedules.specs.Given.SeizeWordsDeclared.at.At.{At}
use Rattle.run_schedules.specs.Given.SeizeWordsMem.{Mem, word_at}
use Rattle.run_schedules.specs.Given.SeizeWordsOp.{Op, Out, Store, Swap, Add, Or, Exchange, Make, Take, Rewrite, Found, Exchanged, Made}

pub data Seen (T : Type 0) : Type 0 where
  Unseen : Seen T  -- nothing: a load, an exchange that found another word, room for slots, or no operation
  Wrote : At → ℕ → ℕ → Seen T  -- the word of this name, from this one to that one
  MadeOne : T → ℕ → Seen T  -- a block of this value, with that number
  HadNoRoom : T → Seen T  -- a block of this value was asked for, and refused
  TookAway : ℕ → Seen T  -- a block
  NewValue : ℕ → T → Seen T  -- of a block

-- the word of a name, or 0 where there is none
abbrev pub word_or : Option ℕ → ℕ
word_or None = 0
word_or (Some word) = word

module _ {T : Type 0} where
  -- what an operation on a memory changes, by its answer
  abbrev pub seen_of : Mem T → Op T → Out T → Seen T
  seen_of m (Store at new) out = Wrote at (word_or (word_at m at)) new
  seen_of m (Swap at new) (Found word) = Wrote at word new
  seen_of m (Add at by) (Found word) = Wrote at word ((word + by) % 2 ^ 64)
  seen_of m (Or at bits) (Found word) = Wrote at word (bit_or word bits)
  seen_of m (Exchange at old new) (Exchanged (Ok word)) = Wrote at word new
  seen_of m (Make value words) (Made (Ok b)) = MadeOne value b
  seen_of m (Make value words) (Made (Err back)) = HadNoRoom back
  seen_of m (Take b) out = TookAway b
  seen_of m (Rewrite b value) out = NewValue b value
  seen_of m _ _ = Unseen
