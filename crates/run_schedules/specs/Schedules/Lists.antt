-- Words of lists.
use Rattle.std.specs.Prelude.{ℕ, zero, suc, ◌==◌, ◌||◌, Bool, true, false, List, [], ◌∷◌, length, if◌then◌else◌, ◌⊎◌}

-- the number stands in the list
abbrev pub is_among : ℕ → List ℕ → Bool
is_among n [] = false
is_among n (m ∷ numbers) = (n == m) || is_among n numbers

-- so many numbers, from this one on
abbrev pub numbers_from : ℕ → ℕ → List ℕ
numbers_from first zero = []
numbers_from first (suc n) = first ∷ numbers_from (suc first) n

-- the first of so many numbers, from this one on, that is not in the list
abbrev pub free_from : ℕ → ℕ → List ℕ → ℕ
free_from first zero used = first
free_from first (suc n) used = if is_among first used then free_from (suc first) n used else first

-- the least number that is not in the list
abbrev pub least_free : List ℕ → ℕ
least_free used = free_from 0 (length used) used

module _ {X : Type 0} where
  -- P holds of one element at least
  abbrev pub OneOf : (X → Type 0) → List X → Type 0
  OneOf P [] = ⊥
  OneOf P (x ∷ xs) = P x ⊎ OneOf P xs

  -- the element stands in the list, by a test of being the same
  abbrev pub is_in : (X → X → Bool) → X → List X → Bool
  is_in same x [] = false
  is_in same x (y ∷ ys) = same x y || is_in same x ys

  -- the list without the first element that is the same
  abbrev pub without_one : (X → X → Bool) → X → List X → List X
  without_one same x [] = []
  without_one same x (y ∷ ys) = if same x y then ys else y ∷ without_one same x ys

  abbrev pub is_empty : List X → Bool
  is_empty [] = true
  is_empty (x ∷ xs) = false

-- f with another value at one number
abbrev pub put : {X : Type 0} → ℕ → X → (ℕ → X) → ℕ → X
put m x f n = if n == m then x else f n
