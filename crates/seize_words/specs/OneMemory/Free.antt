-- A table of blocks with its free numbers.
use Rattle.std.specs.Prelude.{◌≡◌, ◌<◌, ◌≤◌, ◌^◌, List, Option, length}
use Rattle.seize_words.specs.declared.block.Block.{Block}
use Rattle.seize_words.specs.OneMemory.FreeNumbers.{FreeNumbers}
use Rattle.seize_words.specs.OneMemory.Mem.{free_from}

-- The free numbers are those of the table, and there is room for as many as it has places.
pub record IsKept {T : Type 0} (blocks : List (Option (Block T))) (free : FreeNumbers) : Type 0 where
  pub few : length blocks < 2 ^ 53
  pub are_free : free.numbers ≡ free_from 1 blocks
  pub fit : length blocks ≤ free.room
