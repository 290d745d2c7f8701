-- The numbers of the pairs of each map, as they are listed.
use Rattle.std.specs.Prelude.{ℕ, zero, suc, List, [], ◌∷◌}
use Rattle.std.specs.Global.{Vec}
use Rattle.run_effects.specs.declared.by_map.ByMap.{ByMap}

-- the list at a place
abbrev pub list_at : List (Vec ℕ) → ℕ → List ℕ
list_at [] place = []
list_at (v ∷ lists) zero = v.items
list_at (v ∷ lists) (suc place) = list_at lists place

-- the numbers of the pairs of a map
abbrev pub numbers_in : ℕ → ByMap → List ℕ
numbers_in map by_map = list_at by_map.lists.items map
