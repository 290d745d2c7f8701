-- What is said of a memory in which each seat may have one block: it is there, with its value, and no other seat has it.
use Rattle.std.specs.Prelude.{◌≡◌, ℕ, Option, Some, None, Ok, Err, IfSome}
use Rattle.seize_words.specs.OneMemory.Mem.{value_at}
use Rattle.seize_words.specs.OneMemory.Op.{Op, Out, Make, Take, Rewrite, Made, Taken}
use Rattle.seize_seats.specs.Seats.State.{State, view_of}

-- the number and the value of the block that a seat has
abbrev pub Own : Type 0
Own = Option (ℕ × ℕ)

abbrev pub has : Own → ℕ → Type 0
has None b = ⊥
has (Some x) b = x.0 ≡ b

-- what a seat has is kept, for whomever
abbrev pub keeps_own : Own → Own → Unit {0} → ℕ → Type 0
keeps_own u o w b = has o b

pub record AreTheirs (s : State ℕ Own (Unit {0})) : Type 0 where
  pub there : (j n x : ℕ) → view_of s j ≡ Some (Some (n, x)) → value_at s.memory n ≡ Some x
  pub apart : (j k n x y : ℕ) → view_of s j ≡ Some (Some (n, x)) → view_of s k ≡ Some (Some (n, y)) → j ≡ k

-- a seat that makes a block has it, one that takes its block away is given its value, and so is one that replaces the value
abbrev pub tells : Own → Op ℕ → Out ℕ → Own → Type 0
tells v (Make x words) (Made (Ok n)) w = w ≡ Some (n, x)
tells v (Make x words) (Made (Err y)) w = w ≡ None
tells v (Take n) (Taken y) w = (w ≡ None) × IfSome v (λ b. y ≡ b.1)
tells v (Rewrite n y) (Taken x) w = (w ≡ Some (n, y)) × IfSome v (λ b. x ≡ b.1)
tells v op out w = w ≡ v
