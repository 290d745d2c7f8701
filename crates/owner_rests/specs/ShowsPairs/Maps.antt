-- A map for one owner, as its callers see it.
use Rattle.std.specs.Prelude.{◌≡◌, ℕ, List, Option}
use Rattle.std.specs.List.Sorted.{IsPermutation}
use Rattle.seize_words.specs.OneMemory.Mem.{Mem}
use Rattle.map_tables.specs.declared.node.Node.{Node}
use Rattle.map_tables.specs.declared.setting.Setting.{Setting}
use Rattle.owner_rests.specs.Given.{HoldsOn}
use Rattle.map_straight.specs.Shown.Chain.{CountsTables, pairs_from_root, root_link, shapes_on}

-- The value of a map: its pairs, its hasher, and two pairs that can be looked at until the next change. Which order the pairs are in, a walk tells alone.
pub record Map (K V S : Type 0) : Type 0 where
  pub pairs : List (K × V)
  pub hasher : S
  -- the pair that the last change took out, where it removed or replaced one
  pub taken : Option (K × V)
  -- the pair that the last change found at its key and left, or else put there
  pub met : Option (K × V)
  -- all pairs that its memory has: those of the map, and those that left it and were not given back
  pub held : List (K × V)
  -- how many places its tables have, from the first one on, each with its turn
  pub tables : List (ℕ × ℕ)

module _ {K V S : Type 0} (map : Map K V S) where
  -- the last change took this pair out of the map, or none, and met this one at its key or put it there, or none
  abbrev pub LastTook : Option (K × V) → Option (K × V) → Type 0
  LastTook taken met = (map.taken ≡ taken) × (map.met ≡ met)

  -- the map has these pairs, in whatever order, and the last change was so
  abbrev pub HasNow : List (K × V) → Option (K × V) → Option (K × V) → Type 0
  HasNow pairs taken met = IsPermutation map.pairs pairs × LastTook taken met

-- A change has stored these pairs. What the map had before it is held still, also what left the map by it; of what was held beside that some waits still, and
-- the rest was given back. Nothing else is held but what was stored.
abbrev pub Keeps : {K V S : Type 0} → List (K × V) → Map K V S → Map K V S → Type 0
Keeps stored before after = HoldsOn stored before.pairs before.held after.held

-- the pairs that the words of its memory show, table by table from its root on, where they are so many tables
unfoldable pub pairs_shown : {K V : Type 0} (m : Mem (Node K V)) (setting : Setting) → CountsTables m (root_link m setting) → List (K × V)
pairs_shown m setting tables = pairs_from_root m setting tables.0

-- what the words of its memory show of its tables, from its root on, where they are so many
unfoldable pub tables_shown : {K V : Type 0} (m : Mem (Node K V)) (setting : Setting) → CountsTables m (root_link m setting) → List (ℕ × ℕ)
tables_shown m setting tables = shapes_on m tables.0 (root_link m setting)
