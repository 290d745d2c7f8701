-- The map that a seat knows, by its setting and its hasher.
use Rattle.std.specs.Prelude.{Option, Some, None, IsSome}
use Rattle.std.proofs.Common.{◌≡◌, refl}
use Rattle.map_tables.specs.declared.setting.Setting.{Setting}
use Rattle.threads_errands.specs.Given.ViewsDeclared.view.Map.{Map}
use Rattle.threads_callers.specs.Standing.{known_as}
use Rattle.seize_words.proofs.General.{same_some}

-- the map that it knows, with its setting and its hasher
pub known : {S : Type 0} (o : Option (Map S)) (x : Setting × S) → known_as o ≡ Some x → (map : Map S) × (o ≡ Some map) × ((map.setting, map.hasher) ≡ x)
known None x e = absurd (cc e)
known (Some map) x e = (map, refl, same_some (map.setting, map.hasher) x e)

pub known_some : {S : Type 0} (o : Option (Map S)) → IsSome (known_as o) → (map : Map S) × (o ≡ Some map)
known_some None e = absurd (cc e)
known_some (Some map) e = (map, refl)
