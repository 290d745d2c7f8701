-- A number that each step of the end of a map lowers, by its memory and its machine.
use Rattle.std.specs.Prelude.{ℕ, zero, suc, ◌+◌, ◌-◌, ◌*◌, ◌/◌, ◌^◌, ◌==◌, if◌then◌else◌, List, [], ◌∷◌, length}
use Rattle.many_maps.specs.Given.SeizeWordsDeclared.at.At.TheVariants.{Entry}
use Rattle.many_maps.specs.Given.SeizeWordsMem.{Mem, word_at}
use Rattle.many_maps.specs.Given.SeizeAloneAlone.{blocks_in}
use Rattle.many_maps.specs.Given.SeizeDeclared.states.TheConstants.{NEXT}
use Rattle.many_maps.specs.Given.RawDeclared.machines.end_map.EndMap.{EndMap}
use Rattle.many_maps.specs.Given.RawDeclared.machines.end_map.Ending.{Ending}
use Rattle.many_maps.specs.Given.RawDeclared.machines.end_map.Ending.TheVariants as at
use Rattle.owner_facts.specs.Alone.Counting.{number_in}

-- how far it is from its end, while it reclaims nothing: the root, the pairs of the tables, what a table carries, the table, and the root again
abbrev pub stage : Ending → ℕ
stage at.Reads = 8
stage at.Words = 7
stage (at.Takes pair) = 6
stage at.Nexts = 7
stage at.Carries = 5
stage (at.Joins pair) = 4
stage (at.Follows pair) = 3
stage (at.Gives pair next) = 2
stage at.Afters = 2
stage (at.Drops next) = 1
stage at.Shards = 1
stage at.Sets = 1
stage at.Frees = 0
stage at.Over = 0

module _ {T : Type 0} (m : Mem T) where
  -- how many blocks the list has that begins with this word, as far as so many
  abbrev pub list_len : ℕ → ℕ → ℕ
  list_len word zero = 0
  list_len word (suc more) = if word == 0 then 0 else suc (list_len (number_in (word_at m (Entry (word / 2048) NEXT))) more)

  -- more blocks can't be in the memory
  abbrev pub most_blocks : ℕ
  most_blocks = length m.blocks

  -- the tables from the one on that it has come to: of each there is a block
  abbrev pub tables_left : EndMap → Ending → ℕ
  tables_left e at.Words = e.root.turn + most_blocks - e.table.turn
  tables_left e at.Nexts = e.root.turn + most_blocks - e.table.turn
  tables_left e _ = 0

  -- the places of a table, or the blocks of a list, from the one on that it has come to
  abbrev pub steps_left : EndMap → Ending → ℕ
  steps_left e at.Words = suc (e.table.len - e.place)
  steps_left e (at.Follows pair) = list_len pair most_blocks
  steps_left e _ = 0

  -- Standing there: the blocks that are still in the memory, and what is ahead until the next one is reclaimed.
  abbrev pub numbers_at : EndMap → Ending → List ℕ
  numbers_at e spot = blocks_in m ∷ stage spot ∷ tables_left e spot ∷ steps_left e spot ∷ []

-- all of that as one number
abbrev pub in_one : ℕ → ℕ → ℕ → ℕ → ℕ → ℕ
in_one most blocks stage tables steps = ((blocks * 9 + stage) * suc most + tables) * (most + 2 ^ 49) + steps

abbrev pub end_map_left : {T : Type 0} → Mem T → EndMap → ℕ
end_map_left m e = in_one (most_blocks m) (blocks_in m) (stage e.stands) (tables_left m e e.stands) (steps_left m e e.stands)
