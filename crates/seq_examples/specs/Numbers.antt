-- The numbers of words.
use Rattle.std.specs.Prelude.{◌≡◌, ℕ, List, [], ◌∷◌, ◌++◌, Option, length}
use Rattle.std.specs.List.Sorted.{IsPermutation}
use Rattle.std.specs.Option.{option_map}
use Rattle.std.specs.Str.{bytes_eq}
use Rattle.papaya_seq.specs.Pairs.{found_by, left_by}

-- the number of this word among the pairs, if it has one
abbrev pub number_of : List ℕ → List (List ℕ × ℕ) → Option ℕ
number_of word pairs = option_map (λ x. x.1) (found_by (bytes_eq word) pairs)

-- this number is as many as there were words before, and this word has it after: beside it the pairs are those before, in any order
abbrev pub HasNext : List ℕ → ℕ → List (List ℕ × ℕ) → List (List ℕ × ℕ) → Type 0
HasNext word number before after = (number ≡ length before) × IsPermutation after (left_by (bytes_eq word) before ++ ((word, number) ∷ []))
