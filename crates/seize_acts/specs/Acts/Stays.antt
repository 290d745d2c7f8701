-- What a critical section holds stays.
use Rattle.std.specs.Prelude.{◌≡◌, ℕ, ◌+◌, ◌==◌, Bool, true, false, List, [], ◌∷◌, Option, IsSome, if◌then◌else◌}
use Rattle.seize_words.specs.OneMemory.Mem.{value_at}
use Rattle.seize.specs.Law.{Effect, Left, Made, Ended, holds, is_over, owner_of}
use Rattle.seize.specs.World.{World, at_start}
use Rattle.seize_acts.specs.Acts.Acts.{Act, AllDid}

-- how many of these effects are such
abbrev pub how_many : (Effect → Bool) → List Effect → ℕ
how_many such [] = 0
how_many such (e ∷ log) = if such e then 1 + how_many such log else how_many such log

-- a section of this slot ends
abbrev pub is_end_of : ℕ → Effect → Bool
is_end_of s (Left t) = t == s
is_end_of s _ = false

-- this owner ends
abbrev pub is_end_of_owner : ℕ → Effect → Bool
is_end_of_owner o (Ended p) = p == o
is_end_of_owner o _ = false

-- a block is made under this number
abbrev pub is_making_of : ℕ → Effect → Bool
is_making_of b (Made c) = c == b
is_making_of b _ = false

module _ {T : Type 0} (defers : T → Option ℕ) where
  -- what an open section holds is there
  abbrev pub HeldAreThere : Type 0
  HeldAreThere =
      (batch_size roots : ℕ) (acts : List (Act T)) (w : World T) → AllDid defers batch_size acts (at_start defers roots) w
      → (s b : ℕ) → holds s b w.log ≡ true → IsSome (value_at w.memory b)

  -- Between the first world and the second one no section of the slot ends, nor the owner of the block.
  abbrev pub SectionContinues : ℕ → ℕ → World T → World T → Type 0
  SectionContinues s b w n =
      (how_many (is_end_of s) n.log ≡ how_many (is_end_of s) w.log)
      × (how_many (is_end_of_owner (owner_of b w.log)) n.log ≡ how_many (is_end_of_owner (owner_of b w.log)) w.log)

  -- What an open section holds it goes on holding until it ends, or the owner does: with its value, and no other block gets its number.
  abbrev pub HeldStay : Type 0
  HeldStay =
      (batch_size roots : ℕ) (before acts : List (Act T)) (w n : World T) → AllDid defers batch_size before (at_start defers roots) w → AllDid defers batch_size acts w n
      → (s b : ℕ) → holds s b w.log ≡ true → is_over b w.log ≡ false → SectionContinues s b w n
      → (holds s b n.log ≡ true) × (value_at n.memory b ≡ value_at w.memory b) × (how_many (is_making_of b) n.log ≡ how_many (is_making_of b) w.log)
