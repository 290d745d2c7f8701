-- The words that are written at places, from those that were read there.
use Rattle.std.specs.Prelude.{◌≡◌, ℕ, ◌+◌, ◌-◌, ◌*◌, ◌/◌, ◌%◌, ◌<◌, Bool, true, false, bit_or}
use Rattle.std.proofs.Common.{refl, arith, ap, ◌∙◌}
use Rattle.std.specs.Int.Bits.{or_add_and}
use Rattle.map_machines.specs.Given.SeizeWordsWord.{link_word}
use Rattle.map_machines.specs.Given.TablesMarks.{unmarked_in}
use Rattle.map_machines.specs.CopierMarks.{without_copying}
use Rattle.map_machines.specs.Given.TablesDeclared.marks.TheConstants.{COPYING, COPIED, BORROWED}
use Rattle.map_rule.specs.Chart.{Phase, Still, Copying, Copied, Place, Empty, Tombstone, Holds}
use Rattle.map_rule.specs.Moves.{marked}
use Rattle.map_rule.specs.Words.{mark_bits, word_of}
use Rattle.map_rule.proofs.Words.PlaceWords.{mark_bits_few}
use Rattle.map_rule.proofs.Words.PlaceWordsMarks.{and_copying, and_copied}

-- to set a mark adds it where it is not set
pub or_copying : (word : ℕ) → bit_or word COPYING ≡ word + 1 - word % 2
or_copying word = omega (arith, or_add_and word COPYING, and_copying word)

pub or_copied : (word : ℕ) → bit_or word COPIED ≡ word + 2 - word / 2 % 2 * 2
or_copied word = omega (arith, or_add_and word COPIED, and_copied word)

-- the mark of copying is set
pub link_word-marked : (block byte marks : ℕ) → bit_or (link_word block byte marks) COPYING ≡ link_word block byte (marks + 1 - marks % 2)
link_word-marked block byte marks = omega (arith, or_copying (link_word block byte marks))

-- the mark of a copied pair is set
pub link_word-covered : (block byte marks : ℕ) → marks < 8 → bit_or (link_word block byte marks) COPIED ≡ link_word block byte (marks + 2 - marks / 2 % 2 * 2)
link_word-covered block byte marks few = omega (arith, or_copied (link_word block byte marks))

pub link_word-without_copying : (block byte marks : ℕ) → without_copying (link_word block byte marks) ≡ link_word block byte (marks - marks % 2)
link_word-without_copying block byte marks = omega arith

pub link_word-unmarked : (block byte marks : ℕ) → marks < 8 → unmarked_in (link_word block byte marks) ≡ link_word block byte 0
link_word-unmarked block byte marks few = omega arith

module _ (block byte : ℕ → ℕ) where
  -- a place is marked
  pub word-marked : (place : Place) → bit_or (word_of block byte place) COPYING ≡ word_of block byte (marked place)
  word-marked (Empty true) = refl
  word-marked (Empty false) = refl
  word-marked (Tombstone true) = refl
  word-marked (Tombstone false) = refl
  word-marked (Holds n Still true) = link_word-marked (block n) (byte n) 4
  word-marked (Holds n Still false) = link_word-marked (block n) (byte n) 0
  word-marked (Holds n Copying true) = link_word-marked (block n) (byte n) 5
  word-marked (Holds n Copying false) = link_word-marked (block n) (byte n) 1
  word-marked (Holds n Copied true) = link_word-marked (block n) (byte n) 7
  word-marked (Holds n Copied false) = link_word-marked (block n) (byte n) 3

  -- the mark of copying is taken from the pair of a place
  pub without_copying-still : (n : ℕ) (borrowed : Bool) → without_copying (word_of block byte (Holds n Still borrowed)) ≡ word_of block byte (Holds n Still borrowed)
  without_copying-still n true = link_word-without_copying (block n) (byte n) 4
  without_copying-still n false = link_word-without_copying (block n) (byte n) 0

  pub without_copying-copying : (n : ℕ) (borrowed : Bool) → without_copying (word_of block byte (Holds n Copying borrowed)) ≡ word_of block byte (Holds n Still borrowed)
  without_copying-copying n true = link_word-without_copying (block n) (byte n) 5
  without_copying-copying n false = link_word-without_copying (block n) (byte n) 1

  -- a pair is marked as copied
  pub word-covered : (n : ℕ) (borrowed : Bool)
      → bit_or (bit_or (word_of block byte (Holds n Still borrowed)) COPYING) COPIED ≡ word_of block byte (Holds n Copied borrowed)
  word-covered n true = ap (λ w. bit_or w COPIED) (link_word-marked (block n) (byte n) 4) ∙ link_word-covered (block n) (byte n) 5 (omega arith)
  word-covered n false = ap (λ w. bit_or w COPIED) (link_word-marked (block n) (byte n) 0) ∙ link_word-covered (block n) (byte n) 1 (omega arith)

  -- a pair is put into a later table
  pub word-unmarked : (n : ℕ) (phase : Phase) (borrowed : Bool) → unmarked_in (word_of block byte (Holds n phase borrowed)) ≡ word_of block byte (Holds n Still false)
  word-unmarked n phase borrowed = link_word-unmarked (block n) (byte n) (mark_bits phase borrowed) (mark_bits_few phase borrowed)

  pub word-lent : (n : ℕ) (phase : Phase) (borrowed : Bool) → unmarked_in (word_of block byte (Holds n phase borrowed)) + BORROWED ≡ word_of block byte (Holds n Still true)
  word-lent n phase borrowed = omega (arith, word-unmarked n phase borrowed)
