-- Where pairs stand in the memory of one owner: those of the map, and one that a change took out of it.
use Rattle.std.specs.Prelude.{◌≡◌, ℕ, List, [], ◌∷◌, Some}
use Rattle.seize_words.specs.OneMemory.Mem.{Mem, value_at}
use Rattle.seize.specs.World.{times}
use Rattle.map_tables.specs.declared.node.Node.{Node}
use Rattle.map_tables.specs.declared.node.Node.TheVariants as node

module _ {K V : Type 0} (m : Mem (Node K V)) where
  -- each of these pairs stands in a block of its own, in the same order
  abbrev pub Standing : List ℕ → List (K × V) → Type 0
  Standing [] [] = Unit {0}
  Standing (b ∷ blocks) (x ∷ xs) = (value_at m b ≡ Some (node.Pair x.0 x.1)) × (times b blocks ≡ 0) × Standing blocks xs
  Standing _ _ = ⊥

  -- This pair waits in this block, out of the map, and no pair of the map stands there: each of those has a block of its own, too.
  abbrev pub Waits : ℕ → K × V → List (K × V) → Type 0
  Waits b x xs = (blocks : List ℕ) × Standing (b ∷ blocks) (x ∷ xs)
