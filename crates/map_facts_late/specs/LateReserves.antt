-- What a reservation knows in a table that the root has left since it began, in blocking mode.
use Rattle.std.specs.Prelude.{◌≡◌, ℕ, suc, Bool, false}
use Rattle.map_facts.specs.Given.SeizeWordsDeclared.at.At.TheVariants.{Word}
use Rattle.map_facts.specs.Given.SeizeWorld.{World}
use Rattle.map_facts.specs.Given.TablesChunks.{is_incremental}
use Rattle.map_facts.specs.Given.TablesDeclared.node.Node.{Node}
use Rattle.map_facts.specs.Given.TablesDeclared.setting.Setting.{Setting}
use Rattle.map_facts.specs.Given.TablesDeclared.table.Table.{Table}
use Rattle.map_facts.specs.Given.TablesDeclared.table_words.TheConstants.{NEXT}
use Rattle.map_facts.specs.Given.ReservesDeclared.reserve.Reserve.{Reserve}
use Rattle.map_facts.specs.Given.ReservesDeclared.reserve.Reserving.{Reserving}
use Rattle.map_facts.specs.Given.ReservesDeclared.reserve.Reserving.TheVariants as at
use Rattle.map_facts.specs.Given.RuleChart.{Chart}
use Rattle.map_facts.specs.Given.RuleWords.{Blocks}
use Rattle.map_facts.specs.Given.RuleMaps.{IsTable}
use Rattle.map_facts.specs.FactsCopiesBlocking.{HasNoShares}
use Rattle.map_facts.specs.FactsTables.{SumFacts, NewTableFacts}
use Rattle.map_facts_late.specs.Left.{Left}
use Rattle.map_facts_late.specs.LateCalls.{SupersededFirstFacts}
use Rattle.map_facts_late.specs.LateCopies.{SupersededCopierFacts}

module _ {K V : Type 0} (same : K → K → Bool) (hash : K → ℕ) (w : World (Node K V)) (caller : ℕ) (setting : Setting) (c : Chart K) (blocks : Blocks) (began : ℕ) where
  -- its table was the root, and the root has left it
  abbrev pub IsLeftTable : Table → Type 0
  IsLeftTable table = (t : ℕ) × IsTable c blocks table t × Left c began t

  -- what it knows at a point
  abbrev pub SupersededReserving : Reserving → Type 0
  SupersededReserving (at.Makes making) = SupersededFirstFacts w caller setting c blocks began making
  SupersededReserving (at.Sums table sum) = IsLeftTable table × SumFacts setting sum
  SupersededReserving (at.Follows table need) = IsLeftTable table
  SupersededReserving (at.Grows table making) =
      (t : ℕ) × IsTable c blocks table t × Left c began t × NewTableFacts w caller setting c blocks (Word (blocks.table t) NEXT) (suc t) making
  SupersededReserving (at.Copies copier) = SupersededCopierFacts same hash w caller setting c blocks began copier
  SupersededReserving _ = ⊥

  -- what it knows where it stands
  pub record SupersededReserveFacts (p : Reserve) : Type 0 where
    pub blocking : is_incremental setting.mode ≡ false
    pub setting_is : p.setting ≡ setting
    pub idle : HasNoShares same hash w caller setting c blocks
    pub point : SupersededReserving p.stands
