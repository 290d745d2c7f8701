-- The parts of a place's word: its block, its byte, its marks and its link.
use Rattle.std.specs.Prelude.{◌≡◌, ℕ, ◌*◌, ◌<◌, Bool, true, false}
use Rattle.std.proofs.Common.{refl, arith}
use Rattle.map_machines.specs.Given.SeizeWordsWord.{block_in, byte_in, marks_in, link_word}
use Rattle.map_machines.specs.Given.TablesMarks.{link_in}
use Rattle.map_rule.specs.Chart.{Phase, Still, Copying, Copied, Place, Empty, Tombstone, Holds}
use Rattle.map_rule.specs.Words.{mark_bits, word_of}

pub mark_bits_few : (phase : Phase) (borrowed : Bool) → mark_bits phase borrowed < 8
mark_bits_few Still true = omega arith
mark_bits_few Still false = omega arith
mark_bits_few Copying true = omega arith
mark_bits_few Copying false = omega arith
mark_bits_few Copied true = omega arith
mark_bits_few Copied false = omega arith

-- the parts of a link's word
pub link_word-block : (block byte marks : ℕ) → byte < 128 → marks < 8 → block_in (link_word block byte marks) ≡ block
link_word-block block byte marks low few = omega arith

pub link_word-byte : (block byte marks : ℕ) → byte < 128 → marks < 8 → byte_in (link_word block byte marks) ≡ byte
link_word-byte block byte marks low few = omega arith

pub link_word-marks : (block byte marks : ℕ) → marks < 8 → marks_in (link_word block byte marks) ≡ marks
link_word-marks block byte marks few = omega arith

-- the pair of the place, if it holds one, has a block
abbrev pub HasBlock : (ℕ → ℕ) → Place → Type 0
HasBlock block place = (n : ℕ) (phase : Phase) (borrowed : Bool) → place ≡ Holds n phase borrowed → 0 < block n

-- the pair's byte is that of a hash
abbrev pub HasByte : (ℕ → ℕ) → Place → Type 0
HasByte byte place = (n : ℕ) (phase : Phase) (borrowed : Bool) → place ≡ Holds n phase borrowed → byte n < 128

-- a pair has the block of the place's pair only if it is that one
abbrev pub IsApart : (ℕ → ℕ) → ℕ → Place → Type 0
IsApart block n place = (o : ℕ) (phase : Phase) (borrowed : Bool) → place ≡ Holds o phase borrowed → block n ≡ block o → n ≡ o

-- a place's word is by the block and the byte of its own pair
pub word-agree : (block byte block2 byte2 : ℕ → ℕ) (place : Place)
    → ((n : ℕ) (phase : Phase) (borrowed : Bool) → place ≡ Holds n phase borrowed → (block n ≡ block2 n) × (byte n ≡ byte2 n))
    → word_of block byte place ≡ word_of block2 byte2 place
word-agree block byte block2 byte2 (Empty mark) same = refl
word-agree block byte block2 byte2 (Tombstone mark) same = refl
word-agree block byte block2 byte2 (Holds n phase borrowed) same = let k = same n phase borrowed refl in omega arith

module _ (block byte : ℕ → ℕ) where
  pub empty_block : (marked : Bool) → block_in (word_of block byte (Empty marked)) ≡ 0
  empty_block true = refl
  empty_block false = refl

  pub tombstone_block : (marked : Bool) → block_in (word_of block byte (Tombstone marked)) ≡ 0
  tombstone_block true = refl
  tombstone_block false = refl

  pub pair_block : (n : ℕ) (phase : Phase) (borrowed : Bool) → byte n < 128 → block_in (word_of block byte (Holds n phase borrowed)) ≡ block n
  pair_block n phase borrowed low = link_word-block (block n) (byte n) (mark_bits phase borrowed) low (mark_bits_few phase borrowed)

  pub pair_byte : (n : ℕ) (phase : Phase) (borrowed : Bool) → byte n < 128 → byte_in (word_of block byte (Holds n phase borrowed)) ≡ byte n
  pair_byte n phase borrowed low = link_word-byte (block n) (byte n) (mark_bits phase borrowed) low (mark_bits_few phase borrowed)

  pub pair_marks : (n : ℕ) (phase : Phase) (borrowed : Bool) → marks_in (word_of block byte (Holds n phase borrowed)) ≡ mark_bits phase borrowed
  pair_marks n phase borrowed = link_word-marks (block n) (byte n) (mark_bits phase borrowed) (mark_bits_few phase borrowed)

  pub pair_link : (n : ℕ) (phase : Phase) (borrowed : Bool) → byte n < 128 → link_in (word_of block byte (Holds n phase borrowed)) ≡ block n * 2048
  pair_link n phase borrowed low = rw (link_word-block (block n) (byte n) (mark_bits phase borrowed) low (mark_bits_few phase borrowed)) refl
