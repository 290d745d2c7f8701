-- How often words came.
use Rattle.std.specs.Prelude.{◌+◌, ℕ, List, [], ◌∷◌, ◌++◌}
use Rattle.std.specs.List.Sorted.{IsPermutation}
use Rattle.std.specs.Option.{option_map, unwrap_or}
use Rattle.std.specs.Str.{bytes_eq}
use Rattle.papaya_seq.specs.Pairs.{found_by, left_by}

-- the count of this word among the pairs, and 0 if it has none
abbrev pub count_of : List ℕ → List (List ℕ × ℕ) → ℕ
count_of word pairs = unwrap_or (option_map (λ x. x.1) (found_by (bytes_eq word) pairs)) 0

-- the pairs after, in any order, are those before, with one more for the count of this word
abbrev pub IsCounted : List ℕ → List (List ℕ × ℕ) → List (List ℕ × ℕ) → Type 0
IsCounted word before after = IsPermutation after (left_by (bytes_eq word) before ++ ((word, count_of word before + 1) ∷ []))
