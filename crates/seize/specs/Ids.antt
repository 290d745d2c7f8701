-- The numbers that one source gives, call after call.
use Rattle.std.specs.Prelude.{◌≡◌, ℕ, zero, suc, ◌+◌, ◌-◌, ◌^◌, Bool, true, false, nat_lt, List, [], ◌∷◌, Some, slice_get, Result, Ok, Err}
use Rattle.seize_words.specs.declared.fault.Fault.{Fault}
use Rattle.seize_words.specs.declared.fault.Fault.TheVariants.{CollectorsUsedUp}

-- the next number is one that may still be given
abbrev pub is_left : ℕ → Bool
is_left next = nat_lt next (2 ^ 64 - 1)

abbrev pub given_if : Bool → ℕ → Result ℕ Fault
given_if true next = Ok next
given_if false next = Err CollectorsUsedUp

abbrev pub following_if : Bool → ℕ → ℕ
following_if true next = next + 1
following_if false next = next

-- the answer of a source whose next number is this one, and its next number after that
abbrev pub given : ℕ → Result ℕ Fault
given next = given_if (is_left next) next

abbrev pub following : ℕ → ℕ
following next = following_if (is_left next) next

-- the answers of so many calls of the source, one after another
abbrev pub answers : ℕ → ℕ → List (Result ℕ Fault)
answers next zero = []
answers next (suc calls) = given next ∷ answers (following next) calls

-- two calls that are given the same number are the same call
abbrev pub NeverTwice : Type 0
NeverTwice =
    (first calls i j number : ℕ) → slice_get (answers first calls) i ≡ Some (Ok number) → slice_get (answers first calls) j ≡ Some (Ok number)
    → i ≡ j
