-- What a making of a table knows, at each of its points.
use Rattle.std.specs.Prelude.{◌≡◌, ◌≢◌, ℕ, suc, ◌+◌, ◌*◌, ◌^◌, ◌<◌, ◌≤◌, true, cond, Some, ◌⊎◌}
use Rattle.map_rule.specs.Given.SeizeWordsDeclared.at.At.{At}
use Rattle.map_rule.specs.Given.SeizeWordsDeclared.at.At.TheVariants.{Root, Word}
use Rattle.map_rule.specs.Given.SeizeWordsMem.{value_at, word_at}
use Rattle.papaya_raw.specs.Given.SeizeWorld.{World, Making}
use Rattle.papaya_raw.specs.Given.TablesChunks.{is_incremental}
use Rattle.papaya_raw.specs.Given.TablesLengths.{IsTableLen}
use Rattle.papaya_raw.specs.Given.TablesDeclared.node.Node.{Node}
use Rattle.papaya_raw.specs.Given.TablesDeclared.node.Node.TheVariants as node
use Rattle.papaya_raw.specs.Given.TablesDeclared.setting.Setting.{Setting}
use Rattle.papaya_raw.specs.Given.TablesDeclared.status.TheConstants.Status.{PENDING, ABORTED, PROMOTED}
use Rattle.papaya_raw.specs.Given.TablesDeclared.table.Table.{Table}
use Rattle.papaya_raw.specs.Given.TablesDeclared.table_words.TheConstants.{NEXT, STATUS, PLACES}
use Rattle.map_rule.specs.Given.ResizeDeclared.sum.Sum.{Sum}
use Rattle.map_rule.specs.Given.ResizeDeclared.sum.Summing.{Summing}
use Rattle.map_rule.specs.Given.ResizeDeclared.sum.Summing.TheVariants as sums
use Rattle.map_rule.specs.Given.ResizeDeclared.new_table.NewTable.{NewTable}
use Rattle.map_rule.specs.Given.ResizeDeclared.new_table.Making.{Making as Point}
use Rattle.map_rule.specs.Given.ResizeDeclared.new_table.Making.TheVariants as at
use Rattle.map_rule.specs.Chart.{Chart}
use Rattle.map_rule.specs.Words.{Blocks}
use Rattle.map_rule.specs.Maps.{IsTable}

-- a counting reads the shards that there are
abbrev pub CountsShards : Setting → Summing → Type 0
CountsShards setting (sums.Adds shard total) = shard ≤ setting.mask
CountsShards setting (sums.Over count) = Unit {0}

-- what a counting knows
abbrev pub SumFacts : Setting → Sum → Type 0
SumFacts setting sum = (sum.setting ≡ setting) × CountsShards setting sum.stands

-- a table that is to have this turn, and can
pub record IsPlanned (table : Table) (turn : ℕ) : Type 0 where
  pub len : IsTableLen table.len
  pub limit : table.limit < table.len
  pub turn_is : table.turn ≡ turn

-- where a table with this turn is to stand: at the root, or behind the table before, which was aborted if it is behind the root and pairs move in blocking mode
abbrev pub IsLinkOf : {K : Type 0} → Setting → Chart K → Blocks → At → ℕ → Type 0
IsLinkOf setting c blocks link turn =
    ((link ≡ Root setting.root) × (turn ≡ 0))
    ⊎ ((t : ℕ) × (link ≡ Word (blocks.table t) NEXT) × (turn ≡ suc t) × (t < c.past) × (blocks.table_known t ≡ true)
    × cond (is_incremental setting.mode) (Unit {0}) (c.first < t → c.status t ≡ ABORTED))

-- Where the table stands that was made for a place, or found there: a first table was that of the root, which may have moved on
-- where pairs move in incremental mode; each other table has its turn.
abbrev pub StandsAs : {K : Type 0} → Setting → Chart K → At → ℕ → ℕ → Type 0
StandsAs setting c (Root r) turn u = cond (is_incremental setting.mode) (u ≤ c.first) (u ≡ c.first)
StandsAs setting c _ turn u = u ≡ turn

-- this table was made for a place, or found there
abbrev pub IsMadeFor : {K : Type 0} → Setting → Chart K → Blocks → At → ℕ → Table → Type 0
IsMadeFor setting c blocks link turn table = (u : ℕ) × StandsAs setting c link turn u × IsTable c blocks table u

-- the status with which a table with this turn is linked
abbrev pub first_status : At → ℕ
first_status (Root r) = PROMOTED
first_status _ = PENDING

module _ {K V : Type 0} (w : World (Node K V)) (caller : ℕ) where
  -- a table that its caller made and has not linked: its words are as they were made, but for the status
  pub record IsOwnTable (table : Table) (status : ℕ) : Type 0 where
    pub block : ℕ
    pub link : table.link ≡ block * 2048
    pub number : (0 < block) × (block < 2 ^ 53)
    pub hand : w.hand block ≡ Making caller
    pub value : value_at w.memory block ≡ Some (node.Table table.len table.limit table.turn)
    pub blank : (field : ℕ) → field < table.len + PLACES → field ≢ STATUS → word_at w.memory (Word block field) ≡ Some 0
    pub status_is : word_at w.memory (Word block STATUS) ≡ Some status

  module _ (setting : Setting) (c : Chart K) (blocks : Blocks) (link : At) (turn : ℕ) where
    -- what a making of a table knows at a point
    abbrev pub MakingFacts : Point → Type 0
    MakingFacts (at.Sums before reason sum) = ((t : ℕ) × IsTable c blocks before t × (turn ≡ suc t)) × SumFacts setting sum
    MakingFacts (at.Makes table) = (table.link ≡ 0) × IsPlanned table turn
    MakingFacts (at.Promotes table) = IsOwnTable table PENDING × IsPlanned table turn × (link ≡ Root setting.root)
    MakingFacts (at.Links table) = IsOwnTable table (first_status link) × IsPlanned table turn
    MakingFacts (at.Drops table found) =
        IsOwnTable table (first_status link)
        × (u : ℕ) × StandsAs setting c link turn u × (u < c.past) × (blocks.table_known u ≡ true) × (found ≡ blocks.table u * 2048)
        × IsPlanned table turn
    MakingFacts (at.Over table) = IsMadeFor setting c blocks link turn table
    MakingFacts (at.Refused fault) = Unit {0}

    -- a table with this turn is being made for this place
    pub record NewTableFacts (n : NewTable) : Type 0 where
      pub setting_is : n.setting ≡ setting
      pub link_is : n.link ≡ link
      pub link_of : IsLinkOf setting c blocks link turn
      pub point : MakingFacts n.stands
