-- Numbers that show that machines terminate: each step that goes on leads to lower ones.
use Rattle.std.specs.Prelude.{◌≡◌, ℕ, ◌<◌, false, List, [], ◌∷◌, length, ◌⊎◌}
use Rattle.map_rule.specs.Chart.{Chart}
use Rattle.map_rule.specs.Moves.{is_of_caller}

-- numbers that are compared one after another: the first that differs counts
abbrev pub IsBelow : List ℕ → List ℕ → Type 0
IsBelow [] ys = ⊥
IsBelow (x ∷ xs) [] = ⊥
IsBelow (x ∷ xs) (y ∷ ys) = (x < y) ⊎ ((x ≡ y) × IsBelow xs ys)

-- from these numbers on, going on to lower ones, as many, terminates
pub data EndsFrom : List ℕ → Type 0 where
  ends : (xs : List ℕ) → ((ys : List ℕ) → length ys ≡ length xs → IsBelow ys xs → EndsFrom ys) → EndsFrom xs

-- each descent terminates
abbrev pub DescentsEnd : Type 0
DescentsEnd = (numbers : List ℕ) → EndsFrom numbers

-- the other callers have no part in any copying
abbrev pub OthersIdle : {K : Type 0} → ℕ → Chart K → Type 0
OthersIdle caller c = (i t j : ℕ) → (i ≡ caller → ⊥) → is_of_caller i (c.share t j) ≡ false
