-- From which address an operation on the word of a name is made.
use Rattle.std.specs.Prelude.{◌≡◌, ℕ, ◌-◌, ◌*◌, ◌^◌, ◌<◌, ◌≤◌, ◌⊎◌, ◌+◌}
use denote.RawPtr.{Ptr, InBlock}
use Rattle.seize_words.specs.declared.at.At.{At}
use Rattle.seize_words.specs.declared.at.At.TheVariants.{Slot, Word}
use Rattle.seize_seats.specs.Seats.State.{State}
use Rattle.seize_seats.specs.Seats.Lines.{IsWord}
use Rattle.seize_seats.specs.Seats.Strips.{IsOf}
use Rattle.seize_seats.specs.Seats.Owned.{BaseId, IsIts, IsIn, place_in}
use Rattle.seize_seats.specs.Seats.Visits.{AreSeenAt}

-- The word is so many words on from the address, if there is such a word: of a block's own from where the seat knows that they lie, if the block is one of the
-- strip's; of a slot behind the first bucket from where the words of the bucket lie that is known; any other one from where the strip's words lie.
abbrev pub IsAt : {D V W : Type 0} → (D → Ptr) → (State D V W → Type 0) → ℕ → V → Ptr → BaseId → At → Ptr → ℕ → Type 0
IsAt own holds id v p z (Word b i) at place =
    (0 < b → b ≤ z.count → IsIts z (b - 1)) × ((r : Ptr) × AreSeenAt own holds id v b r × (InBlock r → i * 8 < 2 ^ 63 → (r ≡ at) × (place ≡ i)))
IsAt own holds id v p z (Slot s field) at place =
    ((at ≡ p) × (IsWord z.roots z.count (Slot s field) → IsIn p z (Slot s field) × (place ≡ place_in z (Slot s field))))
    ⊎ ((at ≡ z.slots.words) × (0 < z.bucket) × IsOf z.slots s × (place ≡ (s - z.slots.first) * 16 + field))
IsAt own holds id v p z name at place = (at ≡ p) × (IsWord z.roots z.count name → IsIn p z name × (place ≡ place_in z name))
