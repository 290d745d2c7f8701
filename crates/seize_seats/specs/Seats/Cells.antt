-- What lies under the number of each block: whose the number is, and the block that is there.
use Rattle.std.specs.Prelude.{ℕ, zero, suc, List, [], ◌∷◌, Option, Some, None, slice_index_or, slice_set}
use base.Fml.{Share}
use Rattle.seize_words.specs.declared.block.Block.{Block}

-- the body of a block: its value, and its own words; beside it is its entry
abbrev pub Body : Type 0 → Type 0
Body T = T × List ℕ

-- `Claimed` is of a number that somebody has, and `Out` of one whose place a call has in its hand: it has left that share of the memory's lifetime for it.
-- `Has` is of a block, with the words of its entry. `Held` is of one whose value a call has in its hand: the name under which it is noted whose call it is,
-- the share of the lifetime that it has left, the body that is there as long as the call has not ended, and the words of the entry.
pub data Cell (T : Type 0) : Type 0 where
  Free : Cell T
  Claimed : Cell T
  Out : Share → Cell T
  Has : Body T → List ℕ → Cell T
  Held : ℕ → Share → Body T → List ℕ → Cell T

module _ {T : Type 0} where
  -- the block that is there
  abbrev pub block_in : Cell T → Option (Block T)
  block_in Free = None
  block_in Claimed = None
  block_in (Out e) = None
  block_in (Has x ws) = Some record { value = x.0; entry = ws; words = x.1 }
  block_in (Held ρ e x ws) = Some record { value = x.0; entry = ws; words = x.1 }

  -- the same with another word of the entry
  abbrev pub noted_in : Cell T → ℕ → ℕ → Cell T
  noted_in Free i w = Free
  noted_in Claimed i w = Claimed
  noted_in (Out e) i w = Out e
  noted_in (Has x ws) i w = Has x (slice_set ws i w)
  noted_in (Held ρ e x ws) i w = Held ρ e x (slice_set ws i w)

  -- the same with another one of its own words
  abbrev pub own_noted_in : Cell T → ℕ → ℕ → Cell T
  own_noted_in Free i w = Free
  own_noted_in Claimed i w = Claimed
  own_noted_in (Out e) i w = Out e
  own_noted_in (Has x ws) i w = Has (x.0, slice_set x.1 i w) ws
  own_noted_in (Held ρ e x ws) i w = Held ρ e (x.0, slice_set x.1 i w) ws

  -- the blocks of so many numbers, from the first one on
  abbrev pub blocks_in : ℕ → List (Cell T) → List (Option (Block T))
  blocks_in zero cells = []
  blocks_in (suc k) [] = []
  blocks_in (suc k) (c ∷ cells) = block_in c ∷ blocks_in k cells

  abbrev pub cell_at : List (Cell T) → ℕ → Cell T
  cell_at cells i = slice_index_or cells i Free

  -- the word that says whether the number is free: 0 if so
  abbrev pub sign_of : Cell T → ℕ
  sign_of Free = 0
  sign_of Claimed = 1
  sign_of (Out e) = 1
  sign_of (Has x ws) = 1
  sign_of (Held ρ e x ws) = 1
