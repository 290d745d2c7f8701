-- Where the word of a name is looked for, and behind which door the strip of a number is.
use Rattle.std.specs.Prelude.{◌≡◌, ℕ, ◌+◌, ◌-◌, ◌*◌, ◌<◌, ◌≤◌, ◌^◌, Some, IsSome}
use denote.RawPtr.{Ptr, InBlock}
use Rattle.seize_words.specs.OneMemory.Mem.{word_at}
use Rattle.seize_words.specs.declared.at.At.{At}
use Rattle.seize_seats.specs.Seats.State.{State, view_of}
use Rattle.seize_seats.specs.Seats.Owned.{BaseId, IsIts}
use Rattle.seize_seats.specs.Seats.Reached.{IsAt}
use Rattle.seize_seats.specs.Plots.Pieces.{lies_at}
use Rattle.seize_seats.specs.declared.kept.Kept.{Kept}

-- the word of the name lies so many words on from this address, if there is such a word; in any case the address is one in a block, and the number small
abbrev pub IsItsPlace : {T V W : Type 0} → (State (Kept T) V W → Type 0) → ℕ → V → Ptr → BaseId → At → Ptr → ℕ → Type 0
IsItsPlace holds id v p z at address place = InBlock address × (place < 2 ^ 60) × IsAt lies_at holds id v p z at address place

-- there is such a number, and its sign lies at the place
abbrev pub IsItsSign : BaseId → ℕ → ℕ → Type 0
IsItsSign z index place = (place ≡ (index - z.first) * 5 + z.skip + 4) × (place < 2 ^ 60) × IsIts z index

-- the number of a block is one of these, if there is such a number, and this is its index among them
abbrev pub IsItsIndex : BaseId → ℕ → ℕ → Type 0
IsItsIndex z block index =
    (0 < block → block ≤ z.count → IsIts z (block - 1)) × (0 < block → IsIts z (block - 1) → index ≡ block - 1 - z.first)

-- whatever the state is, if the seat has this view there is such a word
abbrev pub HasWord : {T V W : Type 0} → (State T V W → Type 0) → ℕ → V → At → Type 0
HasWord {T} {V} {W} holds id v at = (s : State T V W) → holds s → view_of s id ≡ Some v → IsSome (word_at s.memory at)

-- the number of this index is one of the strip behind this door, and so many come before those of the strip
abbrev pub IsBehind : ℕ → ℕ → ℕ → ℕ → Type 0
IsBehind least index door first = (first ≡ least * 2 ^ door) × (first ≤ index) × (index < first * 2) × (door < 32)
