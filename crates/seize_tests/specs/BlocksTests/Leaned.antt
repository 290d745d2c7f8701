-- What is said of a memory whose first root is set by one seat at a time, and looked at by seats that lean on that one.
use Rattle.std.specs.Prelude.{◌≡◌, ℕ, Some, Ok, Err}
use Rattle.seize_words.specs.OneMemory.Mem.{word_at}
use Rattle.seize_words.specs.OneMemory.Op.{Op, Out, Found, Stored, Exchanged}
use Rattle.seize_words.specs.declared.at.At.TheVariants.{Root}
use Rattle.seize_seats.specs.Seats.State.{State, view_of}
use Rattle.seize_tests.specs.declared.part.Part.{Part}
use Rattle.seize_tests.specs.declared.part.Part.TheVariants.{Nothing, Keeps, Clears, Looks}

-- it has set the word
abbrev pub HasSet : Part → Type 0
HasSet Keeps = Unit {0}
HasSet Clears = Unit {0}
HasSet _ = ⊥

-- it leans on the seat of a number
abbrev pub Leans : Part → ℕ → Type 0
Leans (Looks m) n = m ≡ n
Leans _ n = ⊥

-- it leans on nobody
abbrev pub IsUpright : Part → Type 0
IsUpright (Looks m) = ⊥
IsUpright _ = Unit {0}

pub record IsLeaned (s : State ℕ Part (Unit {0})) : Type 0 where
  pub word : ℕ
  pub there : word_at s.memory (Root 0) ≡ Some word
  -- the word is 1 as long as a seat has set it, and no two seats have
  pub set : (j : ℕ) (v : Part) → view_of s j ≡ Some v → HasSet v → word ≡ 1
  pub sole : (j k : ℕ) (v u : Part) → view_of s j ≡ Some v → view_of s k ≡ Some u → HasSet v → HasSet u → j ≡ k
  -- who looks leans on a seat that keeps it so
  pub looked : (j n : ℕ) → view_of s j ≡ Some (Looks n) → view_of s n ≡ Some Keeps

-- Who knows nothing sets the word, or finds that another one has; who is about to clear it does; who looks finds 1.
abbrev pub leaned : Part → Op ℕ → Out ℕ → Part → Type 0
leaned Nothing op (Exchanged (Ok was)) w = w ≡ Keeps
leaned Nothing op (Exchanged (Err now)) w = w ≡ Nothing
leaned Clears op Stored w = w ≡ Nothing
leaned (Looks n) op (Found word) w = (word ≡ 1) × (w ≡ Looks n)
leaned v op out w = ⊥
