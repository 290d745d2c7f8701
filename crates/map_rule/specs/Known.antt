-- What is promised of pairs and the words that name them: which can be looked at, and what a place's word says.
use Rattle.std.specs.Prelude.{◌≡◌, ◌<◌, ◌^◌, ◌/◌, ℕ, Bool, true, Option, Some}
use Rattle.map_machines.specs.Given.SeizeWordsMem.{Mem, value_at}
use Rattle.map_machines.specs.Given.SeizeWordsWord.{block_in}
use Rattle.map_machines.specs.Given.TablesDeclared.node.Node.{Node}
use Rattle.map_machines.specs.Given.TablesDeclared.node.Node.TheVariants as node
use Rattle.map_machines.specs.Given.TablesMarks.{has_mark}
use Rattle.map_machines.specs.Given.TablesDeclared.marks.TheConstants.{COPYING}
use Rattle.map_machines.specs.Given.TablesDeclared.resize_mode.ResizeMode.{ResizeMode}
use Rattle.map_machines.specs.Given.TablesChunks.{is_incremental}
use Rattle.map_machines.specs.Given.TablesDeclared.setting.Setting.{Setting}
use Rattle.map_rule.specs.Maps.{spot_of, IsMap}
use Rattle.map_rule.specs.Chart.{Chart, Phase, Place, Holds, is_marked}
use Rattle.map_rule.specs.Rule.{Rule}
use Rattle.map_rule.specs.Words.{Blocks, Represents, byte_of, word_of}

-- a pair of the map was stored, and can be looked at
abbrev pub CurrentIsKnown : (K V : Type 0) → (K → K → Bool) → (K → ℕ) → Type 0
CurrentIsKnown K V same hash =
    (setting : Setting) (m : Mem (Node K V)) (c : Chart K) (blocks : Blocks) → Rule same (spot_of hash) (is_incremental setting.mode) c
    → Represents hash m c blocks setting.root → (n : ℕ) → c.current n ≡ true → (n < c.stored) × (blocks.pair_known n ≡ true)

-- the word of a place with a pair names the pair's block
abbrev pub WordsNamePairs : Type 0
WordsNamePairs =
    (block byte : ℕ → ℕ) (n : ℕ) (phase : Phase) (borrowed : Bool) → byte n < 128
    → block_in (word_of block byte (Holds n phase borrowed)) ≡ block n

-- the byte of a key has seven bits, where hashes have 64
abbrev pub BytesAreFew : (K : Type 0) → (K → ℕ) → Type 0
BytesAreFew K hash = ((k : K) → hash k < 2 ^ 64) → (key : Option K) → byte_of hash key < 128

-- a word with a block is that of a pair
abbrev pub WordsWithBlocks : Type 0
WordsWithBlocks =
    (block byte : ℕ → ℕ) (place : Place) → 0 < word_of block byte place / 2048
    → (n : ℕ) × (phase : Phase) × (borrowed : Bool) × (place ≡ Holds n phase borrowed)

-- and tells whether the place is marked
abbrev pub WordsTellMarks : Type 0
WordsTellMarks = (block byte : ℕ → ℕ) (place : Place) → has_mark (word_of block byte place) COPYING ≡ is_marked place

-- the pair of a place is in its block
abbrev pub PlacesHavePairs : (K V : Type 0) → (K → K → Bool) → (K → ℕ) → Type 0
PlacesHavePairs K V same hash =
    (mode : ResizeMode) (root : ℕ) (m : Mem (Node K V)) (c : Chart K) (blocks : Blocks) → IsMap same hash mode root m c blocks
    → (t i n : ℕ) (phase : Phase) (borrowed : Bool) → t < c.past → blocks.table_known t ≡ true → c.place t i ≡ Holds n phase borrowed
    → (0 < blocks.pair n) × (k : K) × (v : V) × (value_at m (blocks.pair n) ≡ Some (node.Pair k v)) × (c.key n ≡ Some k)
