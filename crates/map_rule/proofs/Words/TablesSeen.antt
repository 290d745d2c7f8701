-- What a machine reads of a table that can be looked at: its value, its words, and the links that lead to it and behind it.
use Rattle.std.specs.Prelude.{Some, IsSome}
use Rattle.std.proofs.Common.{◌≡◌, ℕ, ◌+◌, ◌*◌, ◌/◌, ◌<◌, true, ap, ◌∙◌, arith, ◌≢◌}
use Rattle.map_machines.specs.Given.SeizeWordsDeclared.at.At.{At}
use Rattle.map_machines.specs.Given.SeizeWordsDeclared.at.At.TheVariants.{Word}
use Rattle.map_machines.specs.Given.SeizeWordsMem.{Mem, value_at, word_at}
use Rattle.map_machines.specs.Given.TablesNodes.{table_seen}
use Rattle.map_machines.specs.Given.TablesTablePlaces.{at_word, at_place}
use Rattle.map_machines.specs.Given.TablesDeclared.node.Node.{Node}
use Rattle.map_machines.specs.Given.TablesDeclared.node.Node.TheVariants as node
use Rattle.map_machines.specs.Given.TablesDeclared.table.Table.{Table}
use Rattle.map_machines.specs.Given.TablesDeclared.table_words.TheConstants.{NEXT, CLAIM, COPIED, STATUS, PLACES}
use Rattle.map_rule.specs.Chart.{Chart}
use Rattle.map_rule.specs.Words.{Blocks, next_word, place_word, RepresentsTable, Represents}
use Rattle.map_rule.specs.Maps.{IsTable}
use Rattle.map_rule.proofs.Words.WritesWords.{at_word_block, at_place_block}
use Rattle.map_rule.proofs.Words.BlocksApart.{values_apart}
use Rattle.map_machines.proofs.Given.General.{some_is as is_some_of}

-- the block of a link
pub block_of_link : (block : ℕ) → block * 2048 / 2048 ≡ block
block_of_link block = omega arith

module _ {K V : Type 0} (hash : K → ℕ) (m : Mem (Node K V)) (c : Chart K) (blocks : Blocks) (root : ℕ) (shows : Represents hash m c blocks root) where
  module _ (t : ℕ) (made : t < c.past) (known : blocks.table_known t ≡ true) where
    -- the value of the block of its link
    pub link_value : value_at m (blocks.table t * 2048 / 2048) ≡ Some (node.Table (c.len t) (c.limit t) t)
    link_value = ap (value_at m) (block_of_link (blocks.table t)) ∙ (shows.tables t made known).value

    pub link_seen : IsSome (value_at m (blocks.table t * 2048 / 2048))
    link_seen = is_some_of _ _ link_value

    pub link_not_zero : (blocks.table t * 2048 ≡ 0) → ⊥
    link_not_zero e = let n = shows.table_numbers t made known in omega (arith, n.0)

    -- the table of its link, as seen by this value
    pub table_is : (value : Node K V) → value_at m (blocks.table t * 2048 / 2048) ≡ Some value → IsTable c blocks (table_seen (blocks.table t * 2048) value) t
    table_is value e = record { made = made; known = known; is = ap (table_seen (blocks.table t * 2048)) is_table }
      where
        is_table : value ≡ node.Table (c.len t) (c.limit t) t
        is_table = cc (link_value)

  module _ (table : Table) (t : ℕ) (entered : IsTable c blocks table t) where
    there : RepresentsTable hash m c blocks t
    there = shows.tables t entered.made entered.known

    link_is : table.link ≡ blocks.table t * 2048
    link_is = ap (λ (x : Table). x.link) entered.is

    pub len_is : table.len ≡ c.len t
    len_is = ap (λ (x : Table). x.len) entered.is

    pub turn_is : table.turn ≡ t
    turn_is = ap (λ (x : Table). x.turn) entered.is

    -- where its words stand
    pub word_stands : (number : ℕ) → at_word table number ≡ Word (blocks.table t) number
    word_stands number = at_word_block table (blocks.table t) number link_is

    pub place_stands : (i : ℕ) → i < c.len t → at_place table i ≡ Word (blocks.table t) (i + PLACES)
    place_stands i inside = let most = (shows.sized t entered.made).most in at_place_block table (blocks.table t) i link_is (omega arith)

    -- what they are
    pub next_there : word_at m (at_word table NEXT) ≡ Some (next_word hash c blocks t)
    next_there = ap (word_at m) (word_stands NEXT) ∙ there.next

    pub claim_there : word_at m (at_word table CLAIM) ≡ Some (c.claim t)
    claim_there = ap (word_at m) (word_stands CLAIM) ∙ there.claim

    pub copied_there : word_at m (at_word table COPIED) ≡ Some (c.copied t)
    copied_there = ap (word_at m) (word_stands COPIED) ∙ there.copied

    pub status_there : word_at m (at_word table STATUS) ≡ Some (c.status t)
    status_there = ap (word_at m) (word_stands STATUS) ∙ there.status

    pub place_there : (i : ℕ) → i < c.len t → word_at m (at_place table i) ≡ Some (place_word hash c blocks (c.place t i))
    place_there i inside = ap (word_at m) (place_stands i inside) ∙ there.places i inside

    -- so they may be read
    pub word_seen : (at : At) (word : ℕ) → word_at m at ≡ Some word → IsSome (word_at m at)
    word_seen at word e = is_some_of _ _ e

  -- the block of a known table is no known pair's
  pub pair_apart : (t n : ℕ) → t < c.past → blocks.table_known t ≡ true → n < c.stored → blocks.pair_known n ≡ true → blocks.table t ≢ blocks.pair n
  pair_apart t n made known was seen =
      let pair = shows.pairs n was seen in
      values_apart m (blocks.table t) (blocks.pair n) (node.Table (c.len t) (c.limit t) t) (node.Pair pair.0 pair.1) (shows.tables t made known).value pair.2 (λ e. cc e)
