-- What the word of a place says to a call: a plain answer for each kind of place.
use Rattle.std.specs.Prelude.{◌≡◌, ℕ, ◌/◌, ◌^◌, ◌<◌, ◌==◌, ◌&&◌, Bool, true, false, not, if◌then◌else◌}
use Rattle.std.proofs.Common.{refl, arith, ap, ◌∙◌}
use Rattle.std.proofs.lemmas.Bool.{ne_eqb}
use Rattle.map_machines.specs.Given.SeizeWordsWord.{block_in, byte_in}
use Rattle.map_machines.specs.Given.TablesChunks.{is_incremental}
use Rattle.map_machines.specs.Given.TablesMarks.{has_mark}
use Rattle.map_machines.specs.Given.TablesFinding.{finding, vacant, named, marked, may_name}
use Rattle.map_machines.specs.Given.TablesDeclared.marks.TheConstants.{COPYING}
use Rattle.map_machines.specs.Given.TablesDeclared.resize_mode.ResizeMode.{ResizeMode}
use Rattle.map_machines.specs.Given.TablesDeclared.finding.Aim.{Aim}
use Rattle.map_machines.specs.Given.TablesDeclared.finding.Finding.{Finding}
use Rattle.map_machines.specs.Given.TablesDeclared.finding.Finding.TheVariants as is
use Rattle.map_rule.specs.Chart.{Phase, Still, Copying, Copied, Empty, Tombstone, Holds, is_marked, is_settled}
use Rattle.map_rule.specs.Words.{word_of}
use Rattle.map_rule.proofs.Words.PlaceWords.{pair_block, pair_byte}
use Rattle.map_rule.proofs.Words.PlaceWordsMarks.{has_copying, pair_copied}

module _ (block byte : ℕ → ℕ) where
  -- a place whose pair was removed
  pub finding-tombstone : (mode : ResizeMode) (aim : Aim) (mark same : Bool) → finding mode aim (word_of block byte (Tombstone mark)) same ≡ is.Passed
  finding-tombstone mode aim true same = refl
  finding-tombstone mode aim false same = refl

  names_block : (n : ℕ) (phase : Phase) (borrowed : Bool) → byte n < 128 → 0 < block n → (block_in (word_of block byte (Holds n phase borrowed)) == 0) ≡ false
  names_block n phase borrowed low some =
      let there = pair_block block byte n phase borrowed low in
      ap (λ b. b == 0) there ∙ ne_eqb (block n) 0 (λ e. omega arith)

  module _ (mode : ResizeMode) (aim : Aim) (n : ℕ) (borrowed : Bool) (low : byte n < 128) (some : 0 < block n) where
    -- a pair of another key
    pub finding-other : (phase : Phase) → finding mode aim (word_of block byte (Holds n phase borrowed)) false ≡ is.Passed
    finding-other phase =
        ap (λ t. if t then vacant (is_incremental mode) aim (word_of block byte (Holds n phase borrowed)) else is.Passed)
        (names_block n phase borrowed low some)

    is_named : (phase : Phase)
        → finding mode aim (word_of block byte (Holds n phase borrowed)) true ≡ named (is_incremental mode) aim (word_of block byte (Holds n phase borrowed))
    is_named phase =
        let word : ℕ = word_of block byte (Holds n phase borrowed) in
        ap (λ t. if t then vacant (is_incremental mode) aim word else named (is_incremental mode) aim word) (names_block n phase borrowed low some)

    -- the answer by the two marks
    abbrev by_marks : (incremental covered begun : Bool) → Finding
    by_marks incremental covered begun = if incremental && covered then is.Moved else (if begun then marked incremental aim else is.There)

    by_phase : (phase : Phase)
        → finding mode aim (word_of block byte (Holds n phase borrowed)) true
        ≡ by_marks (is_incremental mode) (is_settled (Holds n phase borrowed)) (is_marked (Holds n phase borrowed))
    by_phase phase =
        is_named phase ∙ ap (λ t. by_marks (is_incremental mode) t (has_mark (word_of block byte (Holds n phase borrowed)) COPYING)) (pair_copied block byte n phase borrowed)
        ∙ ap (by_marks (is_incremental mode) (is_settled (Holds n phase borrowed))) (has_copying block byte (Holds n phase borrowed))

    -- the pair of the key, by how far its copying is
    pub finding-still : finding mode aim (word_of block byte (Holds n Still borrowed)) true ≡ is.There
    finding-still = by_phase Still ∙ unmarked (is_incremental mode)
      where
        unmarked : (incremental : Bool) → by_marks incremental false false ≡ is.There
        unmarked true = refl
        unmarked false = refl

    pub finding-copying : finding mode aim (word_of block byte (Holds n Copying borrowed)) true ≡ marked (is_incremental mode) aim
    finding-copying = by_phase Copying ∙ begun (is_incremental mode)
      where
        begun : (incremental : Bool) → by_marks incremental false true ≡ marked incremental aim
        begun true = refl
        begun false = refl

    pub finding-copied : finding mode aim (word_of block byte (Holds n Copied borrowed)) true ≡ (if is_incremental mode then is.Moved else marked (is_incremental mode) aim)
    finding-copied = by_phase Copied ∙ covered (is_incremental mode)
      where
        covered : (incremental : Bool) → by_marks incremental true true ≡ (if incremental then is.Moved else marked incremental aim)
        covered true = refl
        covered false = refl

  -- a word may name the pairs whose byte is that of the hash
  pub may_name-empty : (hash : ℕ) (mark : Bool) → may_name hash (word_of block byte (Empty mark)) ≡ false
  may_name-empty hash true = refl
  may_name-empty hash false = refl

  pub may_name-tombstone : (hash : ℕ) (mark : Bool) → may_name hash (word_of block byte (Tombstone mark)) ≡ false
  may_name-tombstone hash true = refl
  may_name-tombstone hash false = refl

  pub may_name-pair : (hash n : ℕ) (phase : Phase) (borrowed : Bool) → byte n < 128 → 0 < block n
      → may_name hash (word_of block byte (Holds n phase borrowed)) ≡ (byte n == hash / 2 ^ 57)
  may_name-pair hash n phase borrowed low some =
      let word : ℕ = word_of block byte (Holds n phase borrowed) in
      ap (λ t. not t && (byte_in word == hash / 2 ^ 57)) (names_block n phase borrowed low some)
      ∙ ap (λ b. b == hash / 2 ^ 57) (pair_byte block byte n phase borrowed low)
