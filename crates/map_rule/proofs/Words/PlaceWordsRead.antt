-- What stands in a place, from its word.
use Rattle.std.specs.Prelude.{◌≡◌, ℕ, ◌/◌, ◌%◌, ◌<◌, ◌≤◌, ◌==◌, if◌then◌else◌, Bool, true, false}
use Rattle.std.proofs.Common.{refl, arith, ap, ◌∙◌, sym}
use Rattle.map_machines.specs.Given.TablesDeclared.marks.TheConstants.{COPYING, TOMBSTONE}
use Rattle.map_rule.specs.Chart.{Phase, Still, Copying, Copied, Place, Empty, Tombstone, Holds}
use Rattle.map_rule.specs.Words.{mark_bits, word_of}
use Rattle.map_rule.proofs.Words.PlaceWords.{HasBlock, HasByte, IsApart, pair_block, pair_marks}

-- the place without a pair that a word is of
abbrev pub vacant_of : ℕ → Place
vacant_of word = if word == 0 then Empty false else (if word == COPYING then Empty true else (if word == TOMBSTONE then Tombstone false else Tombstone true))

-- the place of a pair, by its marks
abbrev pub holding : ℕ → ℕ → Place
holding n marks = Holds n (if marks / 2 % 2 == 1 then Copied else (if marks % 2 == 1 then Copying else Still)) (marks / 4 == 1)

pub holding-marks : (n : ℕ) (phase : Phase) (borrowed : Bool) → holding n (mark_bits phase borrowed) ≡ Holds n phase borrowed
holding-marks n Still true = refl
holding-marks n Still false = refl
holding-marks n Copying true = refl
holding-marks n Copying false = refl
holding-marks n Copied true = refl
holding-marks n Copied false = refl

module _ (block byte : ℕ → ℕ) where
  pub pair_word-large : (n : ℕ) (phase : Phase) (borrowed : Bool) → 0 < block n → 2048 ≤ word_of block byte (Holds n phase borrowed)
  pair_word-large n phase borrowed some = omega arith

  -- a word without a block says of which place it is
  pub word-vacant_of : (place : Place) → HasBlock block place → word_of block byte place / 2048 ≡ 0 → place ≡ vacant_of (word_of block byte place)
  word-vacant_of (Empty true) some none = refl
  word-vacant_of (Empty false) some none = refl
  word-vacant_of (Tombstone true) some none = refl
  word-vacant_of (Tombstone false) some none = refl
  word-vacant_of (Holds n phase borrowed) some none = let k = some n phase borrowed refl in absurd (omega arith)

  word-one : (place : Place) (word : ℕ) → HasBlock block place → word < 2048 → word_of block byte place ≡ word → place ≡ vacant_of word
  word-one place word some small is = word-vacant_of place some (omega arith) ∙ ap vacant_of is

  pub word-empty : (place : Place) → HasBlock block place → word_of block byte place ≡ 0 → place ≡ Empty false
  word-empty place some is = word-one place 0 some (omega arith) is

  -- a word of a block is of a place with a pair
  pub word-pair : (place : Place) → 0 < word_of block byte place / 2048 → (n : ℕ) × (phase : Phase) × (borrowed : Bool) × (place ≡ Holds n phase borrowed)
  word-pair (Empty true) some = absurd (omega arith)
  word-pair (Empty false) some = absurd (omega arith)
  word-pair (Tombstone true) some = absurd (omega arith)
  word-pair (Tombstone false) some = absurd (omega arith)
  word-pair (Holds n phase borrowed) some = (n, phase, borrowed, refl)

  -- a place with the word of a pair holds this pair, and the same marks
  pub word-same_pair : (n : ℕ) (phase : Phase) (borrowed : Bool) (place : Place) → 0 < block n → byte n < 128 → HasByte byte place → IsApart block n place
      → word_of block byte place ≡ word_of block byte (Holds n phase borrowed) → place ≡ Holds n phase borrowed
  word-same_pair n phase borrowed (Empty true) some low lows apart is = let k = pair_word-large n phase borrowed some in absurd (omega arith)
  word-same_pair n phase borrowed (Empty false) some low lows apart is = let k = pair_word-large n phase borrowed some in absurd (omega arith)
  word-same_pair n phase borrowed (Tombstone true) some low lows apart is = let k = pair_word-large n phase borrowed some in absurd (omega arith)
  word-same_pair n phase borrowed (Tombstone false) some low lows apart is = let k = pair_word-large n phase borrowed some in absurd (omega arith)
  word-same_pair n phase borrowed (Holds o phase2 borrowed2) some low lows apart is =
      let low2 = lows o phase2 borrowed2 refl in
      let blocks : block n ≡ block o = sym (pair_block block byte n phase borrowed low) ∙ ap (λ w. w / 2048) (sym is) ∙ pair_block block byte o phase2 borrowed2 low2 in
      let pair : n ≡ o = apart o phase2 borrowed2 refl blocks in
      let marks : mark_bits phase2 borrowed2 ≡ mark_bits phase borrowed = sym (pair_marks block byte o phase2 borrowed2) ∙ ap (λ w. w % 8) is ∙ pair_marks block byte n phase borrowed in
      sym (holding-marks o phase2 borrowed2) ∙ ap (holding o) marks ∙ ap (λ k. holding k (mark_bits phase borrowed)) (sym pair) ∙ holding-marks n phase borrowed
