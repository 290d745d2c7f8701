-- What the word of a place says of the pair that stands there.
use Rattle.std.specs.Prelude.{None}
use Rattle.std.proofs.Common.{◌≡◌, ◌≢◌, ℕ, ◌/◌, ◌<◌, ◌≤◌, Bool, true, false, Some, ◌⊎◌, inl, inr, refl, ap, sym, ◌∙◌, arith}
use Rattle.seize_words.specs.OneMemory.Mem.{Mem, value_at}
use Rattle.map_tables.specs.Chunks.{is_incremental}
use Rattle.map_tables.specs.Marks.{has_mark}
use Rattle.map_tables.specs.declared.marks.TheConstants.{COPYING}
use Rattle.map_tables.specs.declared.node.Node.{Node}
use Rattle.map_tables.specs.declared.node.Node.TheVariants as node
use Rattle.map_tables.specs.declared.setting.Setting.{Setting}
use Rattle.map_rule.specs.Chart.{Phase, Still, Copying, Copied, Place, Empty, Tombstone, Holds, Chart, is_marked}
use Rattle.map_rule.specs.Words.{Blocks, byte_of, place_word, word_of}
use Rattle.map_rule.proofs.Laws.{bytes_are_few, places_have_pairs, words_name_pairs, words_tell_marks, words_with_blocks}
use Rattle.map_straight.specs.Shown.Shown.{HasMap, pair_there}

-- a pair that is marked is passed in incremental mode
there_marked : (place : Place) → is_marked place ≡ true → pair_there true place ≡ None
there_marked (Empty marked) e = refl
there_marked (Tombstone marked) e = refl
there_marked (Holds n Still borrowed) e = absurd (cc)
there_marked (Holds n Copying borrowed) e = refl
there_marked (Holds n Copied borrowed) e = refl

there_still : (incremental : Bool) (n : ℕ) (phase : Phase) (borrowed : Bool) → (incremental ≡ true → is_marked (Holds n phase borrowed) ≡ false)
    → pair_there incremental (Holds n phase borrowed) ≡ Some n
there_still incremental n Still borrowed e = refl
there_still false n Copying borrowed e = refl
there_still true n Copying borrowed e = let k = e refl in absurd (cc)
there_still false n Copied borrowed e = refl
there_still true n Copied borrowed e = let k = e refl in absurd (cc)

module _ {K V : Type 0} (eq : K → K → Bool) (hash : K → ℕ) (m : Mem (Node K V)) (setting : Setting) (c : Chart K) (blocks : Blocks) (stands : HasMap eq hash m setting c blocks)
    (t i : ℕ) (linked : c.first ≤ t) (made : t < c.past) (word : ℕ) (is : word ≡ place_word hash c blocks (c.place t i)) where
  abbrev byte : ℕ → ℕ
  byte n = byte_of hash (c.key n)

  known : blocks.table_known t ≡ true
  known = stands.map.shows.linked t linked made

  -- the block in the word of a pair
  holds_block : (n : ℕ) (phase : Phase) (borrowed : Bool) → c.place t i ≡ Holds n phase borrowed → word / 2048 ≡ blocks.pair n
  holds_block n phase borrowed e =
      ap (λ (w : ℕ). w / 2048) is ∙ ap (λ (p : Place). word_of blocks.pair byte p / 2048) e ∙ words_name_pairs blocks.pair byte n phase borrowed (bytes_are_few hash stands.fits (c.key n))

  -- and what is in it
  holds_pair : (n : ℕ) (phase : Phase) (borrowed : Bool) → c.place t i ≡ Holds n phase borrowed
      → (0 < blocks.pair n) × (k : K) × (v : V) × (value_at m (blocks.pair n) ≡ Some (node.Pair k v)) × (c.key n ≡ Some k)
  holds_pair n phase borrowed e = places_have_pairs eq hash setting.mode setting.root m c blocks stands.map t i n phase borrowed made known e

  -- a word without a block names no pair
  without_block : (place : Place) → c.place t i ≡ place → word / 2048 ≡ 0 → (incremental : Bool) → pair_there incremental place ≡ None
  without_block (Empty marked) e none incremental = refl
  without_block (Tombstone marked) e none incremental = refl
  without_block (Holds n phase borrowed) e none incremental = let s = (holds_pair n phase borrowed e).0 in let b = holds_block n phase borrowed e in absurd (omega arith)

  marked_word : has_mark word COPYING ≡ is_marked (c.place t i)
  marked_word = ap (λ (w : ℕ). has_mark w COPYING) is ∙ words_tell_marks blocks.pair byte (c.place t i)

  -- a place that is passed has no pair that counts
  pub none_there : (word / 2048 ≡ 0) ⊎ ((is_incremental setting.mode ≡ true) × (has_mark word COPYING ≡ true)) → pair_there (is_incremental setting.mode) (c.place t i) ≡ None
  none_there (inl none) = without_block (c.place t i) refl none (is_incremental setting.mode)
  none_there (inr passed) = ap (λ (b : Bool). pair_there b (c.place t i)) passed.0 ∙ there_marked (c.place t i) (sym marked_word ∙ passed.1)

  module _ (some : word / 2048 ≢ 0) where
    holds : (n : ℕ) × (phase : Phase) × (borrowed : Bool) × (c.place t i ≡ Holds n phase borrowed)
    holds = words_with_blocks blocks.pair byte (c.place t i) (let w = ap (λ (x : ℕ). x / 2048) is in omega (arith, some))

    -- the pair of a word with a block
    pub has_pair : (k : K) × (v : V) × (value_at m (word / 2048) ≡ Some (node.Pair k v))
    has_pair =
        let v = holds_pair holds.0 holds.1 holds.2 holds.3 in
        (v.1, v.2, ap (value_at m) (holds_block holds.0 holds.1 holds.2 holds.3) ∙ v.3)

    -- it counts, where it is not marked in incremental mode
    pub one_there : (is_incremental setting.mode ≡ true → has_mark word COPYING ≡ false) → (n : ℕ) × (pair_there (is_incremental setting.mode) (c.place t i) ≡ Some n) × (word / 2048 ≡ blocks.pair n)
    one_there unmarked = (
      holds.0,
      ap (pair_there (is_incremental setting.mode)) holds.3 ∙ there_still (is_incremental setting.mode) holds.0 holds.1 holds.2 (λ e. sym (ap is_marked holds.3) ∙ sym marked_word ∙ unmarked e),
      holds_block holds.0 holds.1 holds.2 holds.3,
    )
