-- Whether two words are the same.
use Rattle.std.specs.Prelude.{ℕ, ◌==◌, Bool, true, false, ◌&&◌, List, [], ◌∷◌}

abbrev pub is_same : List ℕ → List ℕ → Bool
is_same [] [] = true
is_same (a ∷ first) (b ∷ second) = (a == b) && is_same first second
is_same _ _ = false
