-- The pairs of a map, as they are lent one after another.
use Rattle.std.specs.Prelude.{List, [], ◌∷◌, Option, Some, None}
use Rattle.std.specs.Borrow.{Bor}

-- the pair that is lent, if one is
abbrev pub shown : {K V : Type 0} → Option (Bor K × Bor V) → List (K × V)
shown None = []
shown (Some p) = (p.0.now, p.1.now) ∷ []

-- the pair that is lent
abbrev pub pair_shown : {K V : Type 0} → Bor K × Bor V → K × V
pair_shown p = (p.0.now, p.1.now)
