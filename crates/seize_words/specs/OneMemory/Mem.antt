-- A memory as plain data, and what an operation does to it.
use Rattle.std.specs.Prelude.{◌≡◌, ◌≢◌, ℕ, ◌+◌, ◌-◌, ◌<◌, ◌≤◌, ◌^◌, ◌%◌, ◌==◌, ◌&&◌, Bool, false, List, [], ◌++◌, ◌∷◌, length, drop, Option, Some, None, Ok, Err, IsSome, slice_get, slice_index_or, slice_set, if◌then◌else◌, nat_lt, replicate, bit_or}
use Rattle.seize_words.specs.declared.at.At.{At}
use Rattle.seize_words.specs.declared.at.At.TheVariants.{Root, Used, Slot, Entry, Word}
use Rattle.seize_words.specs.declared.block.Block.{Block}
use Rattle.seize_words.specs.declared.block.TheConstants.{ENTRY_WORDS}
use Rattle.seize_words.specs.OneMemory.Op.{Op, Out, Load, Store, Swap, Add, Or, Exchange, Make, Take, Rewrite, Room, Found, Stored, Exchanged, Made, Taken, Roomed}
use Rattle.seize_words.specs.OneMemory.SlotWords.{slot_word, with_slot_word, with_bucket}
use Rattle.seize_words.specs.OneMemory.Place.{capacity}
use Rattle.seize_words.specs.declared.fault.Fault.TheVariants.{Memory}

-- two names are the same
abbrev pub same_at : At → At → Bool
same_at (Root r) (Root r') = r == r'
same_at (Used r) (Used r') = r == r'
same_at (Slot s i) (Slot s' i') = (s == s') && (i == i')
same_at (Entry b i) (Entry b' i') = (b == b') && (i == i')
same_at (Word b i) (Word b' i') = (b == b') && (i == i')
same_at _ _ = false

-- The blocks are numbered from 1 on, in their order in the table; `None` is a free number. The choices are those that are left.
pub record Mem (T : Type 0) : Type 0 where
  pub roots : List ℕ
  pub used : List ℕ
  pub slots : List (List ℕ)
  pub blocks : List (Option (Block T))
  pub choices : List ℕ

module _ {T : Type 0} where
  -- the block of a number, if there is one
  abbrev pub block_of : Mem T → ℕ → Option (Block T)
  block_of m b = if b == 0 then None else slice_index_or m.blocks (b - 1) None

  abbrev pub value_in : Option (Block T) → Option T
  value_in None = None
  value_in (Some x) = Some x.value

  -- the values of all these, in order
  abbrev pub values_in : List (Option (Block T)) → List T
  values_in [] = []
  values_in (None ∷ blocks) = values_in blocks
  values_in (Some x ∷ blocks) = x.value ∷ values_in blocks

  abbrev pub entry_in : Option (Block T) → ℕ → Option ℕ
  entry_in None i = None
  entry_in (Some x) i = slice_get x.entry i

  abbrev pub word_in : Option (Block T) → ℕ → Option ℕ
  word_in None i = None
  word_in (Some x) i = slice_get x.words i

  abbrev pub with_entry : Option (Block T) → ℕ → ℕ → Option (Block T)
  with_entry None i w = None
  with_entry (Some x) i w = Some record { value = x.value; entry = slice_set x.entry i w; words = x.words }

  abbrev pub with_word_in : Option (Block T) → ℕ → ℕ → Option (Block T)
  with_word_in None i w = None
  with_word_in (Some x) i w = Some record { value = x.value; entry = x.entry; words = slice_set x.words i w }

  abbrev pub with_value_in : Option (Block T) → T → Option (Block T)
  with_value_in None v = None
  with_value_in (Some x) v = Some record { value = v; entry = x.entry; words = x.words }

  abbrev pub value_at : Mem T → ℕ → Option T
  value_at m b = value_in (block_of m b)

  -- the word of a name, if there is one
  abbrev pub word_at : Mem T → At → Option ℕ
  word_at m (Root r) = slice_get m.roots r
  word_at m (Used r) = slice_get m.used r
  word_at m (Slot s field) = slot_word m.slots s field
  word_at m (Entry b i) = entry_in (block_of m b) i
  word_at m (Word b i) = word_in (block_of m b) i

  -- the memory with this at the place of a block's number
  abbrev pub with_block : Mem T → ℕ → Option (Block T) → Mem T
  with_block m b x = record { roots = m.roots; used = m.used; slots = m.slots; blocks = slice_set m.blocks (b - 1) x; choices = m.choices }

  -- the memory with another word of a name
  abbrev pub with_word : Mem T → At → ℕ → Mem T
  with_word m (Root r) w = record { roots = slice_set m.roots r w; used = m.used; slots = m.slots; blocks = m.blocks; choices = m.choices }
  with_word m (Used r) w = record { roots = m.roots; used = slice_set m.used r w; slots = m.slots; blocks = m.blocks; choices = m.choices }
  with_word m (Slot s field) w = record { roots = m.roots; used = m.used; slots = with_slot_word m.slots s field w; blocks = m.blocks; choices = m.choices }
  with_word m (Entry b i) w = with_block m b (with_entry (block_of m b) i w)
  with_word m (Word b i) w = with_block m b (with_word_in (block_of m b) i w)

  -- the memory with another value of a block
  abbrev pub with_value : Mem T → ℕ → T → Mem T
  with_value m b v = with_block m b (with_value_in (block_of m b) v)

  -- the numbers from `n` on whose places in the table are free, in ascending order
  abbrev pub free_from : ℕ → List (Option (Block T)) → List ℕ
  free_from n [] = []
  free_from n (None ∷ rest) = n ∷ free_from (n + 1) rest
  free_from n (Some x ∷ rest) = free_from (n + 1) rest

  -- the number that a choice picks among the free numbers of a table and then one never used, counted from 0 and round again
  abbrev pub picked : List (Option (Block T)) → ℕ → ℕ
  picked blocks choice = slice_index_or (free_from 1 blocks) (choice % (length (free_from 1 blocks) + 1)) (length blocks + 1)

  -- the number of the next block: by the next choice, or 0 where none is left
  abbrev pub next_number : Mem T → ℕ
  next_number m = picked m.blocks (slice_index_or m.choices 0 0)

  -- a new block: each word is 0
  abbrev pub fresh : T → ℕ → Block T
  fresh value words = record { value = value; entry = replicate ENTRY_WORDS 0; words = replicate words 0 }

  -- a number that a new block may have: no block has it
  abbrev pub IsFreeNumber : Mem T → ℕ → Type 0
  IsFreeNumber m b = (block_of m b ≡ None) × (0 < b)

  -- the table with a block of a free number; numbers between the table and it stay free
  abbrev pub with_made : List (Option (Block T)) → ℕ → Block T → List (Option (Block T))
  with_made blocks b x =
      if nat_lt (length blocks) b then blocks ++ (replicate (b - 1 - length blocks) None ++ Some x ∷ []) else slice_set blocks (b - 1) (Some x)

  -- the memory with a further bucket of slots, where it is the next one
  abbrev pub with_room : Mem T → ℕ → Mem T
  with_room m bucket = record { roots = m.roots; used = m.used; slots = with_bucket m.slots bucket; blocks = m.blocks; choices = m.choices }

  -- The operation may be made. Room is made for a bucket that is there, or for the next one.
  abbrev pub Can : Mem T → Op T → Type 0
  Can m (Load at) = IsSome (word_at m at)
  Can m (Store at w) = IsSome (word_at m at)
  Can m (Swap at w) = IsSome (word_at m at)
  Can m (Add at w) = IsSome (word_at m at)
  Can m (Or at w) = IsSome (word_at m at)
  Can m (Exchange at old new) = IsSome (word_at m at)
  Can m (Make value words) = Unit {0}
  Can m (Take b) = IsSome (value_at m b)
  Can m (Rewrite b new) = IsSome (value_at m b)
  Can m (Room bucket) = (bucket ≤ 58) × (capacity bucket ≤ length m.slots + 32)

  -- The answer is one that the operation may give. A make takes any free number; one that is refused gives its value back. Room is
  -- refused for want of memory alone, and only where the bucket is not there.
  abbrev pub Gives : Mem T → Op T → Out T → Type 0
  Gives m (Load at) (Found w) = word_at m at ≡ Some w
  Gives m (Store at new) Stored = Unit {0}
  Gives m (Swap at new) (Found w) = word_at m at ≡ Some w
  Gives m (Add at by) (Found w) = word_at m at ≡ Some w
  Gives m (Or at bits) (Found w) = word_at m at ≡ Some w
  Gives m (Exchange at old new) (Exchanged (Ok w)) = (word_at m at ≡ Some w) × (w ≡ old)
  Gives m (Exchange at old new) (Exchanged (Err w)) = (word_at m at ≡ Some w) × (w ≢ old)
  Gives m (Make value words) (Made (Ok b)) = IsFreeNumber m b × (b < 2 ^ 53)
  Gives m (Make value words) (Made (Err back)) = back ≡ value
  Gives m (Take b) (Taken value) = value_at m b ≡ Some value
  Gives m (Rewrite b new) (Taken value) = value_at m b ≡ Some value
  Gives m (Room bucket) (Roomed (Ok made)) = Unit {0}
  Gives m (Room bucket) (Roomed (Err fault)) = (fault ≡ Memory) × (length m.slots + 32 ≡ capacity bucket)
  Gives m _ _ = ⊥

  -- the memory after it
  abbrev pub after : Mem T → Op T → Out T → Mem T
  after m (Store at new) out = with_word m at new
  after m (Swap at new) out = with_word m at new
  after m (Add at by) (Found w) = with_word m at ((w + by) % 2 ^ 64)
  after m (Or at bits) (Found w) = with_word m at (bit_or w bits)
  after m (Exchange at old new) (Exchanged (Ok w)) = with_word m at new
  after m (Make value words) (Made (Ok b)) =
      record { roots = m.roots; used = m.used; slots = m.slots; blocks = with_made m.blocks b (fresh value words); choices = drop 1 m.choices }
  after m (Take b) out = with_block m b None
  after m (Rewrite b new) out = with_value m b new
  after m (Room bucket) (Roomed (Ok made)) = with_room m bucket
  after m _ _ = m

  -- the operation was made with this answer, and did just its change
  abbrev pub Took : Mem T → Op T → Out T → Mem T → Type 0
  Took m op out n = Gives m op out × (n ≡ after m op out)
