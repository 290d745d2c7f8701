-- The answer of an operation, and the outcome of a step, computed from a memory and from what it was free to choose.
use Rattle.std.specs.Prelude.{ℕ, ◌==◌, ◌^◌, ◌+◌, ◌&&◌, Bool, true, false, Option, Some, None, Ok, Err, nat_lt, length}
use Rattle.std.specs.Option.{is_none}
use Rattle.seize_words.specs.declared.fault.Fault.TheVariants.{Memory}
use Rattle.seize_words.specs.OneMemory.Op.{Op, Out, Load, Store, Swap, Add, Or, Exchange, Make, Take, Rewrite, Room, Found, Stored, Exchanged, Made, Taken, Roomed}
use Rattle.seize_words.specs.OneMemory.Mem.{Mem, after, value_at, word_at, block_of}
use Rattle.seize_words.specs.OneMemory.Place.{capacity}
use Rattle.seize_words.specs.OneMemory.Plan.{Plan, Then, Turn, Do, Now, Seeing, Sure}

-- f of what is there, if anything is
abbrev pub then_on : {X Y : Type 0} → Option X → (X → Option Y) → Option Y
then_on None f = None
then_on (Some x) f = f x

-- x where this is so
abbrev pub given : {X : Type 0} → Bool → X → Option X
given true x = Some x
given false x = None

-- What the memory was free to choose: the number of the block that is made, and any number where slots are; None where it was refused.
abbrev pub Grant : Type 0
Grant = Option ℕ

module _ {T : Type 0} where
  abbrev pub found : Option ℕ → Option (Out T)
  found None = None
  found (Some w) = Some (Found w)

  abbrev pub stored : Option ℕ → Option (Out T)
  stored None = None
  stored (Some w) = Some Stored

  abbrev pub compared : ℕ → Bool → Out T
  compared w true = Exchanged (Ok w)
  compared w false = Exchanged (Err w)

  abbrev pub exchanged : ℕ → Option ℕ → Option (Out T)
  exchanged old None = None
  exchanged old (Some w) = Some (compared w (w == old))

  abbrev pub taken : Option T → Option (Out T)
  taken None = None
  taken (Some value) = Some (Taken value)

  -- the number of a new block is a free one
  abbrev pub is_free : Mem T → ℕ → Bool
  is_free m b = is_none (block_of m b) && nat_lt 0 b && nat_lt b (2 ^ 53)

  abbrev pub made : Mem T → T → Grant → Option (Out T)
  made m value None = Some (Made (Err value))
  made m value (Some b) = given (is_free m b) (Made (Ok b))

  -- slots are refused only where they are to be made
  abbrev pub roomed : Bool → Grant → Option (Out T)
  roomed to_make None = given to_make (Roomed (Err Memory))
  roomed to_make (Some n) = Some (Roomed (Ok tt))

  -- the answer of an operation: None where there is no such word or block, or where the memory may not choose so
  abbrev pub answer : Mem T → Grant → Op T → Option (Out T)
  answer m g (Load at) = found (word_at m at)
  answer m g (Store at word) = stored (word_at m at)
  answer m g (Swap at word) = found (word_at m at)
  answer m g (Add at by) = found (word_at m at)
  answer m g (Or at bits) = found (word_at m at)
  answer m g (Exchange at old new) = exchanged old (word_at m at)
  answer m g (Make value words) = made m value g
  answer m g (Take b) = taken (value_at m b)
  answer m g (Rewrite b value) = taken (value_at m b)
  answer m g (Room bucket) = roomed (length m.slots + 32 == capacity bucket) g

module _ {T R : Type 0} where
  abbrev pub ends : (ℕ → Option T) → Then T R → Option R
  ends shown (Now end) = Some end
  ends shown (Seeing block rest) = then_on (shown block) (λ value. ends shown (rest value))
  ends shown (Sure fact rest) = ends shown rest

  -- what a step comes to: the memory after it, and its outcome
  abbrev pub stepped : Mem T → Grant → Plan T R → Option (Mem T × R)
  stepped m g (Turn rest) = then_on (ends (value_at m) rest) (λ end. Some (m, end))
  stepped m g (Do op rest) = then_on (answer m g op) (λ out. then_on (ends (value_at (after m op out)) (rest out)) (λ end. Some (after m op out, end)))

  abbrev pub is_turn : Plan T R → Bool
  is_turn (Turn rest) = true
  is_turn (Do op rest) = false

  -- its operation is answered so
  abbrev pub answered : Mem T → Grant → Plan T R → Option (Out T)
  answered m g (Turn rest) = None
  answered m g (Do op rest) = answer m g op
