-- What is promised of lists: of numbers that stand in them, of slots, and of what is kept behind others.
use Rattle.std.specs.Prelude.{◌≡◌, ℕ, ◌+◌, false, cond, eqb, List, ◌++◌, map}
use Rattle.seize.specs.WaitingSets.{Further, with_slot, without, further_of, is_one_of}
use Rattle.seize_moves.specs.Waiting.Held.{same, count, Every}
use Rattle.seize_moves.specs.Waiting.Changes.{kept}

-- in two lists, one behind the other, a number stands as often as in both
abbrev pub ListsAddUp : Type 0
ListsAddUp = (n : ℕ) (xs ys : List ℕ) → count n (xs ++ ys) ≡ count n xs + count n ys

-- a number that stands nowhere in a list isn't one of it
abbrev pub UncountedIsNotThere : Type 0
UncountedIsNotThere = (n : ℕ) (numbers : List ℕ) → count n numbers ≡ 0 → is_one_of n numbers ≡ false

-- functions that agree on each number that stands in a list make the same list of it
abbrev pub AgreeOnLists : Type 0
AgreeOnLists = (f g : ℕ → ℕ) (numbers : List ℕ) → ((n : ℕ) → (count n numbers ≡ 0 → ⊥) → f n ≡ g n) → map f numbers ≡ map g numbers

-- a slot that comes stands among the slots once more, and each other one as often as before
abbrev pub SlotsCome : Type 0
SlotsCome = (s t : ℕ) (slots : List ℕ) → count t (with_slot s slots) ≡ same t s + count t slots

-- a slot that goes stands there no more, and each other one as often as before
abbrev pub SlotsGo : Type 0
SlotsGo = (s t : ℕ) (slots : List ℕ) → count t (without s slots) ≡ cond (eqb t s) 0 (count t slots)

-- what isn't kept is behind these numbers, and what is kept isn't
abbrev pub KeptAreDeferredOnOthers : Type 0
KeptAreDeferredOnOthers = (numbers : List ℕ) (after before : List Further) → after ≡ kept numbers before → Every (λ f. count f.behind numbers ≡ 0) after

-- each that waits behind others is listed behind its own
abbrev pub EachIsListed : Type 0
EachIsListed = (further : List Further) → Every (λ f. count f.number (further_of f.behind further) ≡ 0 → ⊥) further
