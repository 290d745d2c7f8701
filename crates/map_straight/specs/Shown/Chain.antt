-- The pairs that the memory of a map shows, table by table, place by place.
use Rattle.std.specs.Prelude.{◌≡◌, ◌≢◌, ℕ, zero, suc, ◌+◌, ◌-◌, ◌^◌, ◌<◌, ◌≤◌, IsSome, ◌==◌, ◌&&◌, Bool, List, [], ◌∷◌, ◌++◌, Option, Some, None, if◌then◌else◌}
use Rattle.std.proofs.Common.{refl, ap}
use Rattle.std.specs.Coded.{Coded-set, coded_ℕ, ×_prop, Π_prop}
use mathlib.Core.HLevel.{Σ_prop_path}
use Rattle.seize_words.specs.OneMemory.Word.{block_in}
use Rattle.seize_words.specs.declared.at.At.TheVariants.{Root, Word}
use Rattle.seize_words.specs.OneMemory.Mem.{Mem, value_at, word_at}
use Rattle.map_tables.specs.Chunks.{is_incremental}
use Rattle.map_tables.specs.Lengths.{CannotBeFollowed}
use Rattle.map_tables.specs.Marks.{has_mark}
use Rattle.map_tables.specs.declared.marks.TheConstants.{COPYING}
use Rattle.map_tables.specs.declared.node.Node.{Node}
use Rattle.map_tables.specs.declared.node.Node.TheVariants as node
use Rattle.map_tables.specs.declared.setting.Setting.{Setting}
use Rattle.map_tables.specs.declared.table_words.TheConstants.{NEXT, PLACES}

absurd_prop : IsProp ⊥
absurd_prop x y = absurd x

-- of tables by their places and turns: the last one cannot be followed
abbrev pub CannotGrow : List (ℕ × ℕ) → Type 0
CannotGrow [] = ⊥
CannotGrow (shape ∷ []) = CannotBeFollowed shape.0 shape.1
CannotGrow (shape ∷ (next ∷ more)) = CannotGrow (next ∷ more)

-- the first one has so many places, or more
abbrev pub FirstHas : ℕ → List (ℕ × ℕ) → Type 0
FirstHas need [] = ⊥
FirstHas need (shape ∷ more) = need ≤ shape.0

-- the word, or 0 where there is none
abbrev pub word_or_none : Option ℕ → ℕ
word_or_none None = 0
word_or_none (Some word) = word

module _ {K V : Type 0} where
  -- the pair of a block
  abbrev pub pair_of : Option (Node K V) → List (K × V)
  pair_of (Some (node.Pair k v)) = (k, v) ∷ []
  pair_of _ = []

  -- how many places a table has
  abbrev pub places_of : Option (Node K V) → ℕ
  places_of (Some (node.Table len limit turn)) = len
  places_of _ = 0

  -- how many places a table has, and its turn
  abbrev pub shape_of : Option (Node K V) → ℕ × ℕ
  shape_of (Some (node.Table len limit turn)) = (len, turn)
  shape_of _ = (0, 0)

  module _ (m : Mem (Node K V)) where
    -- the link to the table behind
    abbrev pub behind : ℕ → ℕ
    behind link = word_or_none (word_at m (Word (block_in link) NEXT))

    -- so many tables are at this link and behind
    abbrev pub HasTables : ℕ → ℕ → Type 0
    HasTables zero link = link ≡ 0
    HasTables (suc tables) link = (link ≢ 0) × HasTables tables (behind link)

    pub one_count : (i j link : ℕ) → HasTables i link → HasTables j link → i ≡ j
    one_count zero zero link a b = refl
    one_count zero (suc j) link a b = absurd (b.0 a)
    one_count (suc i) zero link a b = absurd (a.0 b)
    one_count (suc i) (suc j) link a b = ap suc (one_count i j (behind link) a.1 b.1)

    has_tables_prop : (tables link : ℕ) → IsProp (HasTables tables link)
    has_tables_prop zero link = Coded-set coded_ℕ link 0
    has_tables_prop (suc tables) link = ×_prop (Π_prop (λ e. absurd_prop)) (has_tables_prop tables (behind link))

    -- how many there are
    abbrev pub CountsTables : ℕ → Type 0
    CountsTables link = (tables : ℕ) × HasTables tables link

    pub counts_tables_prop : (link : ℕ) → IsProp (CountsTables link)
    counts_tables_prop link x y = Σ_prop_path (λ tables. has_tables_prop tables link) (one_count x.0 y.0 link x.1 y.1)

    module _ (incremental : Bool) where
      -- The pair that a word names. In incremental mode one that is marked is to stand in a later table.
      abbrev pub pair_by : ℕ → List (K × V)
      pair_by word = if block_in word == 0 then [] else (if incremental && has_mark word COPYING then [] else pair_of (value_at m (block_in word)))

      -- the pairs at so many places of a table, from this place on
      abbrev pub pairs_at : ℕ → ℕ → ℕ → List (K × V)
      pairs_at link place zero = []
      pairs_at link place (suc places) = pair_by (word_or_none (word_at m (Word (block_in link) (place + PLACES)))) ++ pairs_at link (suc place) places

      -- the pairs in so many tables, from the one at this link on
      abbrev pub pairs_on : ℕ → ℕ → List (K × V)
      pairs_on zero link = []
      pairs_on (suc tables) link = pairs_at link 0 (places_of (value_at m (block_in link))) ++ pairs_on tables (behind link)

    -- how many places so many tables have, from the one at this link on, each with its turn
    abbrev pub shapes_on : ℕ → ℕ → List (ℕ × ℕ)
    shapes_on zero link = []
    shapes_on (suc tables) link = shape_of (value_at m (block_in link)) ∷ shapes_on tables (behind link)

    -- the link to the first table of a map
    abbrev pub root_link : Setting → ℕ
    root_link setting = word_or_none (word_at m (Root setting.root))

    -- no table can follow the last one of a map
    abbrev pub CannotGrowIn : Setting → Type 0
    CannotGrowIn setting = (tables : CountsTables (root_link setting)) × CannotGrow (shapes_on tables.0 (root_link setting))

    -- the pairs in so many tables of a map, from the first one on
    abbrev pub pairs_from_root : Setting → ℕ → List (K × V)
    pairs_from_root setting tables = pairs_on (is_incremental setting.mode) tables (root_link setting)

    -- the place has a word, which names a pair or none
    abbrev pub IsPlace : ℕ → ℕ → Type 0
    IsPlace link place =
        (word : ℕ) × (word_at m (Word (block_in link) (place + PLACES)) ≡ Some word)
        × (block_in word ≢ 0 → (k : K) × (v : V) × (value_at m (block_in word) ≡ Some (node.Pair k v)))

    -- A table is at this link, with a word at each of its places, and one for the table behind.
    pub record IsTableAt (link : ℕ) : Type 0 where
      pub len : ℕ
      pub limit : ℕ
      pub turn : ℕ
      pub is_table : value_at m (block_in link) ≡ Some (node.Table len limit turn)
      pub few : len + PLACES < 2 ^ 64
      pub next : IsSome (word_at m (Word (block_in link) NEXT))
      pub places : (i : ℕ) → i < len → IsPlace link i

    -- so many tables can be read, from the one at this link on
    abbrev pub CanBeRead : ℕ → ℕ → Type 0
    CanBeRead zero link = Unit {0}
    CanBeRead (suc tables) link = IsTableAt link × CanBeRead tables (behind link)

    -- the pairs that are still to come, where so many tables are left, from a place on in the first of them
    abbrev pub pairs_left : Bool → ℕ → ℕ → ℕ → List (K × V)
    pairs_left incremental zero link place = []
    pairs_left incremental (suc tables) link place =
        pairs_at incremental link place (places_of (value_at m (block_in link)) - place) ++ pairs_on incremental tables (behind link)
