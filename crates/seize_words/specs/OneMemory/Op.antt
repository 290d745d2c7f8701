-- The eight operations on a memory, the replacing of a value, the asking for slots, and their answers.
use Rattle.std.specs.Prelude.{ℕ, Result}
use Rattle.seize_words.specs.declared.at.At.{At}
use Rattle.seize_words.specs.declared.fault.Fault.{Fault}

-- Two are none of the eight. `Rewrite` replaces the value of a block that nobody else can see, and changes no word. `Room` changes no
-- word that is there, and only makes those of a further bucket of slots.
pub data Op (T : Type 0) : Type 0 where
  Load : At → Op T
  Store : At → ℕ → Op T
  Swap : At → ℕ → Op T
  Add : At → ℕ → Op T
  Or : At → ℕ → Op T
  Exchange : At → ℕ → ℕ → Op T
  Make : T → ℕ → Op T
  Take : ℕ → Op T
  Rewrite : ℕ → T → Op T
  Room : ℕ → Op T

-- `Found` is the word that the operation found, also where it then wrote another
pub data Out (T : Type 0) : Type 0 where
  Found : ℕ → Out T
  Stored : Out T
  Exchanged : Result ℕ ℕ → Out T
  Made : Result ℕ T → Out T
  Taken : T → Out T
  Roomed : Result Unit Fault → Out T
