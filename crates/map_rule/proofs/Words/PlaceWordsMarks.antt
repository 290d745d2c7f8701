-- Which marks are set in a place's word.
use Rattle.std.specs.Prelude.{◌≡◌, ℕ, ◌*◌, ◌/◌, ◌%◌, ◌<◌, ◌==◌, Bool, true, false, not, bit_and}
use Rattle.std.proofs.Common.{refl, arith, ap, ◌∙◌}
use Rattle.std.proofs.lemmas.Nat.Bits.{and_pow}
use Rattle.map_machines.specs.Given.SeizeWordsWord.{link_word}
use Rattle.map_machines.specs.Given.TablesMarks.{has_mark}
use Rattle.map_machines.specs.Given.TablesDeclared.marks.TheConstants.{COPYING, COPIED, BORROWED}
use Rattle.map_rule.specs.Chart.{Phase, Still, Copying, Copied, Place, Empty, Tombstone, Holds, is_marked, is_settled}
use Rattle.map_rule.specs.Words.{word_of}

-- the bit of each mark
pub and_copying : (word : ℕ) → bit_and word COPYING ≡ word % 2
and_copying word = omega (arith, and_pow word 0)

pub and_copied : (word : ℕ) → bit_and word COPIED ≡ word / 2 % 2 * 2
and_copied word = and_pow word 1

pub and_borrowed : (word : ℕ) → bit_and word BORROWED ≡ word / 4 % 2 * 4
and_borrowed word = and_pow word 2

-- the mark of a link's word is one of its marks
pub link_word-copying : (block byte marks : ℕ) → has_mark (link_word block byte marks) COPYING ≡ not (marks % 2 == 0)
link_word-copying block byte marks =
    let same : link_word block byte marks % 2 ≡ marks % 2 = omega arith in
    ap (λ b. not (b == 0)) (and_copying (link_word block byte marks) ∙ same)

pub link_word-copied : (block byte marks : ℕ) → marks < 8 → has_mark (link_word block byte marks) COPIED ≡ not (marks / 2 % 2 * 2 == 0)
link_word-copied block byte marks few =
    let same : link_word block byte marks / 2 % 2 * 2 ≡ marks / 2 % 2 * 2 = omega arith in
    ap (λ b. not (b == 0)) (and_copied (link_word block byte marks) ∙ same)

pub link_word-borrowed : (block byte marks : ℕ) → marks < 8 → has_mark (link_word block byte marks) BORROWED ≡ not (marks / 4 % 2 * 4 == 0)
link_word-borrowed block byte marks few =
    let same : link_word block byte marks / 4 % 2 * 4 ≡ marks / 4 % 2 * 4 = omega arith in
    ap (λ b. not (b == 0)) (and_borrowed (link_word block byte marks) ∙ same)

module _ (block byte : ℕ → ℕ) where
  -- the mark of copying says what the place says
  pub has_copying : (place : Place) → has_mark (word_of block byte place) COPYING ≡ is_marked place
  has_copying (Empty true) = refl
  has_copying (Empty false) = refl
  has_copying (Tombstone true) = refl
  has_copying (Tombstone false) = refl
  has_copying (Holds n Still true) = link_word-copying (block n) (byte n) 4
  has_copying (Holds n Still false) = link_word-copying (block n) (byte n) 0
  has_copying (Holds n Copying true) = link_word-copying (block n) (byte n) 5
  has_copying (Holds n Copying false) = link_word-copying (block n) (byte n) 1
  has_copying (Holds n Copied true) = link_word-copying (block n) (byte n) 7
  has_copying (Holds n Copied false) = link_word-copying (block n) (byte n) 3

  -- the pair of a place was copied
  pub pair_copied : (n : ℕ) (phase : Phase) (borrowed : Bool) → has_mark (word_of block byte (Holds n phase borrowed)) COPIED ≡ is_settled (Holds n phase borrowed)
  pair_copied n Still true = link_word-copied (block n) (byte n) 4 (omega arith)
  pair_copied n Still false = link_word-copied (block n) (byte n) 0 (omega arith)
  pair_copied n Copying true = link_word-copied (block n) (byte n) 5 (omega arith)
  pair_copied n Copying false = link_word-copied (block n) (byte n) 1 (omega arith)
  pair_copied n Copied true = link_word-copied (block n) (byte n) 7 (omega arith)
  pair_copied n Copied false = link_word-copied (block n) (byte n) 3 (omega arith)

  pub pair_borrowed : (n : ℕ) (phase : Phase) (borrowed : Bool) → has_mark (word_of block byte (Holds n phase borrowed)) BORROWED ≡ borrowed
  pair_borrowed n Still true = link_word-borrowed (block n) (byte n) 4 (omega arith)
  pair_borrowed n Still false = link_word-borrowed (block n) (byte n) 0 (omega arith)
  pair_borrowed n Copying true = link_word-borrowed (block n) (byte n) 5 (omega arith)
  pair_borrowed n Copying false = link_word-borrowed (block n) (byte n) 1 (omega arith)
  pair_borrowed n Copied true = link_word-borrowed (block n) (byte n) 7 (omega arith)
  pair_borrowed n Copied false = link_word-borrowed (block n) (byte n) 3 (omega arith)
