-- The words of a map's tables.
use Rattle.std.specs.Prelude.{◌≡◌, ℕ, suc, ◌+◌, ◌*◌, ◌/◌, ◌^◌, ◌<◌, ◌≤◌, Bool, true, cond, eqb, ltb, Option, Some, None}
use Rattle.map_machines.specs.Given.SeizeWordsWord.{link_word}
use Rattle.map_machines.specs.Given.SeizeWordsDeclared.at.At.TheVariants.{Root, Word}
use Rattle.map_machines.specs.Given.SeizeWordsMem.{Mem, value_at, word_at}
use Rattle.map_machines.specs.Given.TablesLengths.{IsTableLen}
use Rattle.map_machines.specs.Given.TablesDeclared.node.Node.{Node}
use Rattle.map_machines.specs.Given.TablesDeclared.node.Node.TheVariants as node
use Rattle.map_machines.specs.Given.TablesDeclared.table_words.TheConstants.{NEXT, CLAIM, COPIED, STATUS, PLACES}
use Rattle.map_rule.specs.Chart.{Phase, Still, Copying, Copied, Place, Empty, Tombstone, Holds, Chart}

-- the blocks of tables, by turn, and of pairs, by number; and which of them can still be looked at
pub record Blocks : Type 0 where
  pub table : ℕ → ℕ
  pub pair : ℕ → ℕ
  pub table_known : ℕ → Bool
  pub pair_known : ℕ → Bool

-- the marks in the word of a pair
abbrev pub mark_bits : Phase → Bool → ℕ
mark_bits Still borrowed = cond borrowed 4 0
mark_bits Copying borrowed = cond borrowed 5 1
mark_bits Copied borrowed = cond borrowed 7 3

-- the word of a place, by the block and the byte of each pair
abbrev pub word_of : (ℕ → ℕ) → (ℕ → ℕ) → Place → ℕ
word_of block byte (Empty marked) = cond marked 1 0
word_of block byte (Tombstone marked) = cond marked 3 2
word_of block byte (Holds n phase borrowed) = link_word (block n) (byte n) (mark_bits phase borrowed)

module _ {K : Type 0} (hash : K → ℕ) where
  -- the byte of a key's hash
  abbrev pub byte_of : Option K → ℕ
  byte_of None = 0
  byte_of (Some k) = hash k / 2 ^ 57

  -- the link to the table behind, if there is one
  abbrev pub next_word : Chart K → Blocks → ℕ → ℕ
  next_word c blocks t = cond (ltb (suc t) c.past) (blocks.table (suc t) * 2048) 0

  -- the link to the first table, if there is one
  abbrev pub root_word : Chart K → Blocks → ℕ
  root_word c blocks = cond (eqb c.past 0) 0 (blocks.table c.first * 2048)

  -- the word of a place of a map
  abbrev pub place_word : Chart K → Blocks → Place → ℕ
  place_word c blocks place = word_of blocks.pair (λ n. byte_of (c.key n)) place

  module _ {V : Type 0} (m : Mem (Node K V)) (c : Chart K) (blocks : Blocks) where
    -- the block of a table says what the table is, and its words say what stands in it
    pub record RepresentsTable (t : ℕ) : Type 0 where
      pub value : value_at m (blocks.table t) ≡ Some (node.Table (c.len t) (c.limit t) t)
      pub next : word_at m (Word (blocks.table t) NEXT) ≡ Some (next_word c blocks t)
      pub claim : word_at m (Word (blocks.table t) CLAIM) ≡ Some (c.claim t)
      pub copied : word_at m (Word (blocks.table t) COPIED) ≡ Some (c.copied t)
      pub status : word_at m (Word (blocks.table t) STATUS) ≡ Some (c.status t)
      pub places : (i : ℕ) → i < c.len t → word_at m (Word (blocks.table t) (i + PLACES)) ≡ Some (place_word c blocks (c.place t i))

    -- the memory shows a map with this root
    pub record Represents (root : ℕ) : Type 0 where
      pub root_there : word_at m (Root root) ≡ Some (root_word c blocks)
      pub tables : (t : ℕ) → t < c.past → blocks.table_known t ≡ true → RepresentsTable t
      pub pairs : (n : ℕ) → n < c.stored → blocks.pair_known n ≡ true → (k : K) × (v : V) × (value_at m (blocks.pair n) ≡ Some (node.Pair k v)) × (c.key n ≡ Some k)
      pub sized : (t : ℕ) → t < c.past → IsTableLen (c.len t)
      -- what is linked can be looked at, and so can what stands in such a table
      pub linked : (t : ℕ) → c.first ≤ t → t < c.past → blocks.table_known t ≡ true
      pub named : (t i n : ℕ) (phase : Phase) (borrowed : Bool) → t < c.past → blocks.table_known t ≡ true → c.place t i ≡ Holds n phase borrowed → blocks.pair_known n ≡ true
      pub table_numbers : (t : ℕ) → t < c.past → blocks.table_known t ≡ true → (0 < blocks.table t) × (blocks.table t < 2 ^ 53)
      pub pair_numbers : (n : ℕ) → n < c.stored → blocks.pair_known n ≡ true → (0 < blocks.pair n) × (blocks.pair n < 2 ^ 53)
      -- each has its own block
      pub tables_apart : (t u : ℕ) → t < c.past → u < c.past → blocks.table_known t ≡ true → blocks.table_known u ≡ true → blocks.table t ≡ blocks.table u → t ≡ u
      pub pairs_apart : (n o : ℕ) → n < c.stored → o < c.stored → blocks.pair_known n ≡ true → blocks.pair_known o ≡ true → blocks.pair n ≡ blocks.pair o → n ≡ o
