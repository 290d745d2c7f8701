-- The pairs that a memory has, as a list, and which of them a change of a map keeps.
use Rattle.std.specs.Prelude.{ℕ, List, [], ◌∷◌, ◌++◌, Option, Some, None, IsPermutation}
use Rattle.seize_words.specs.OneMemory.Mem.{Mem, value_at, value_in}
use Rattle.seize_words.specs.OneMemory.Word.{block_in}
use Rattle.seize_words.specs.declared.block.Block.{Block}
use Rattle.map_tables.specs.declared.node.Node.{Node}
use Rattle.map_tables.specs.declared.node.Node.TheVariants as node

module _ {K V : Type 0} where
  -- the pair that a block has, if it has one, before others
  abbrev pub with_pair : Option (Node K V) → List (K × V) → List (K × V)
  with_pair (Some (node.Pair key value)) pairs = (key, value) ∷ pairs
  with_pair _ pairs = pairs

  abbrev pub pairs_among : List (Option (Block (Node K V))) → List (K × V)
  pairs_among [] = []
  pairs_among (b ∷ blocks) = with_pair (value_in b) (pairs_among blocks)

  -- the pairs that a memory has, block by block
  unfoldable pub held_in : Mem (Node K V) → List (K × V)
  held_in m = pairs_among m.blocks

  -- the pair in the block of a word, if there is one
  abbrev pub pair_at_word : Mem (Node K V) → Option ℕ → List (K × V)
  pair_at_word m None = []
  pair_at_word m (Some word) = with_pair (value_at m (block_in word)) []

-- A change has stored these pairs. The map had those before it, and its memory held others, too: some of these wait still, and some were given back. It holds now
-- what was stored, what the map had, and what waits still.
abbrev pub HoldsOn : {X : Type 0} → List X → List X → List X → List X → Type 0
HoldsOn {X} stored had before after = (waiting : List X) × (given : List X) × IsPermutation before (had ++ (waiting ++ given)) × IsPermutation after (stored ++ (had ++ waiting))

-- What was held, and what was stored, is held now, or was given back, each as often.
abbrev pub Balanced : {X : Type 0} → List X → List X → List X → Type 0
Balanced {X} stored before after = (given : List X) × IsPermutation (stored ++ before) (after ++ given)

-- Since a map held what it held at first, it was changed, by one call after another: all that it held then, and that they have stored, the last one first, and
-- what it holds now.
pub data IsLife {X : Type 0} : List X → List X → Type 0 where
  begun : (held : List X) → IsLife held held
  changed : (all held : List X) → IsLife all held → (stored after : List X) → Balanced stored held after → IsLife (stored ++ all) after

module _ (X : Type 0) where
  -- A change that keeps what the map had balances,
  abbrev pub KeptBalances : Type 0
  KeptBalances = (stored had before after : List X) → HoldsOn stored had before after → Balanced stored before after

  -- and so do all changes together.
  abbrev pub LivesHold : Type 0
  LivesHold = (all held : List X) → IsLife all held → (given : List X) × IsPermutation all (held ++ given)
