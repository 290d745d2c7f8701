-- The keys of a map, or its values, that are still to come.
use Rattle.std.specs.Prelude.{List}
use Rattle.std.specs.Map.{keys_of, values_of}
use Rattle.map_straight.specs.Shown.Coming.{pairs_to_come}
use Rattle.map_straight.specs.declared.columns.Keys.{Keys}
use Rattle.map_straight.specs.declared.columns.Values.{Values}

-- the keys that are still to come
abbrev pub keys_to_come : {K V : Type 0} → Keys K V → List K
keys_to_come it = keys_of (pairs_to_come it.pairs)

-- the values that are still to come
abbrev pub values_to_come : {K V : Type 0} → Values K V → List V
values_to_come it = values_of (pairs_to_come it.pairs)
