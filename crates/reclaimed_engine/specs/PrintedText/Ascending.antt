-- A list put in ascending order of keys.
use Rattle.std.specs.Prelude.{ℕ, List, [], ◌∷◌, cond, nat_lt, fold}

module _ {X : Type 0} (key : X → ℕ) where
  -- one more item among items in ascending order: it stands before the first of a greater key
  abbrev pub placed : List X → X → List X
  placed [] item = item ∷ []
  placed (first ∷ rest) item = cond (nat_lt (key item) (key first)) (item ∷ first ∷ rest) (first ∷ placed rest item)

  -- the items in ascending order, those of one key in the order that they had
  abbrev pub ascending : List X → List X
  ascending items = fold placed [] items
