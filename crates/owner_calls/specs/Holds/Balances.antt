-- What the memory of a map has: its pairs, and others that a change took out of it and that wait there. Whatever runs, none is lost, and none comes twice.
use Rattle.std.specs.Prelude.{◌≡◌, ℕ, ◌<◌, List, [], ◌∷◌, ◌++◌, IsPermutation}
use Rattle.seize_words.specs.OneMemory.Mem.{Mem}
use Rattle.seize_words.specs.OneMemory.Word.{block_in}
use Rattle.seize.specs.World.{times}
use Rattle.map_tables.specs.declared.node.Node.{Node}
use Rattle.papaya_raw.specs.declared.machines.answer.KeyAnswer.{KeyAnswer}
use Rattle.papaya_raw.specs.declared.machines.answer.KeyAnswer.TheVariants as answers
use Rattle.owner_whole.specs.Strides.Standing.{Standing}
use Rattle.owner_calls.specs.Holds.Came.{StandsAt}

module _ {K V : Type 0} (m : Mem (Node K V)) where
  -- The memory has these pairs, each in a block of its own, and no other.
  abbrev pub HasJust : List (K × V) → Type 0
  HasJust xs = (blocks : List ℕ) × Standing m blocks xs × ((b : ℕ) (x : K × V) → StandsAt m b x → 0 < times b blocks)

  -- Once it had the pairs `before`, and `stored` was stored since. Now the map has the pairs `xs`. The memory has these and some that wait, and no other; and
  -- with some that were given back these are all that it had, and what was stored, each as often.
  abbrev pub Balances : List (K × V) → List (K × V) → List (K × V) → Type 0
  Balances before stored xs = (waiting : List (K × V)) × (given : List (K × V)) × HasJust (xs ++ waiting) × IsPermutation (stored ++ before) ((xs ++ waiting) ++ given)

  -- what a call on one key has stored, by its answer
  abbrev pub HasStored : KeyAnswer → List (K × V) → Type 0
  HasStored (answers.Stored word) stored = (x : K × V) × StandsAt m (block_in word) x × (stored ≡ x ∷ [])
  HasStored (answers.Replaced old new) stored = (x : K × V) × StandsAt m (block_in new) x × (stored ≡ x ∷ [])
  HasStored _ stored = stored ≡ []
