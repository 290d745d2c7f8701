-- What a reservation knows, at each of its points.
use Rattle.std.specs.Prelude.{◌≡◌, ℕ, suc, ◌^◌, ◌≤◌, Bool, true, cond}
use Rattle.map_facts.specs.Given.SeizeWordsDeclared.at.At.TheVariants.{Root, Word}
use Rattle.map_facts.specs.Given.SeizeWorld.{World}
use Rattle.map_facts.specs.Given.TablesChunks.{is_incremental}
use Rattle.map_facts.specs.Given.TablesLengths.{IsTableLen}
use Rattle.map_facts.specs.Given.TablesDeclared.node.Node.{Node}
use Rattle.map_facts.specs.Given.TablesDeclared.setting.Setting.{Setting}
use Rattle.map_facts.specs.Given.TablesDeclared.table_words.TheConstants.{NEXT}
use Rattle.map_facts.specs.Given.ResizeDeclared.copier.Copier.{Copier}
use Rattle.map_facts.specs.Given.ResizeDeclared.copier.Copying.{Copying}
use Rattle.map_facts.specs.Given.ResizeDeclared.copier.Copying.TheVariants as copies
use Rattle.map_facts.specs.Given.ReservesDeclared.reserve.Reserve.{Reserve}
use Rattle.map_facts.specs.Given.ReservesDeclared.reserve.Reserving.{Reserving}
use Rattle.map_facts.specs.Given.ReservesDeclared.reserve.Reserving.TheVariants as at
use Rattle.map_facts.specs.Given.RuleChart.{Chart}
use Rattle.map_facts.specs.Given.RuleWords.{Blocks}
use Rattle.map_facts.specs.Given.RuleMaps.{IsTable}
use Rattle.map_facts.specs.FactsTables.{SumFacts, NewTableFacts}
use Rattle.map_facts.specs.FactsCopies.{CopierFacts}
use Rattle.map_facts.specs.FactsCopiesBlocking.{CopierFactsBlocking}
use Rattle.map_facts.specs.FactsIdle.{IsIdle}

-- it copies pairs, and may have places that are its own to copy
abbrev pub CopiesPairs : Reserving → Type 0
CopiesPairs (at.Copies copier) = Unit {0}
CopiesPairs _ = ⊥

module _ {K V : Type 0} (same : K → K → Bool) (hash : K → ℕ) (w : World (Node K V)) (caller : ℕ) (setting : Setting) (c : Chart K) (blocks : Blocks) where
  -- this turn is that of the root, or was, where pairs move in incremental mode
  abbrev pub IsRoot : ℕ → Type 0
  IsRoot t = cond (is_incremental setting.mode) (t ≤ c.first) (t ≡ c.first)

  -- in incremental mode, what is left to a copier of a whole table: its target is the root, or was
  abbrev pub IsEnding : Copier → Copying → Type 0
  IsEnding copier (copies.Retires settle rest) = (t : ℕ) × IsTable c blocks copier.target t × (t ≤ c.first)
  IsEnding copier copies.Over = (t : ℕ) × IsTable c blocks copier.target t × (t ≤ c.first)
  IsEnding copier _ = Unit {0}

  -- it copies a whole table, in the mode of the map
  abbrev pub CopiesWhole : Copier → Type 0
  CopiesWhole copier =
      cond (is_incremental setting.mode)
      ((copier.whole ≡ true) × CopierFacts same hash w caller setting c blocks copier × IsEnding copier copier.stands)
      (CopierFactsBlocking same hash w caller setting c blocks copier)

  -- what a reservation knows at a point
  abbrev pub ReservingFacts : Reserving → Type 0
  ReservingFacts at.Reads = Unit {0}
  ReservingFacts (at.Makes making) = NewTableFacts w caller setting c blocks (Root setting.root) 0 making
  ReservingFacts (at.Sums table sum) = ((t : ℕ) × IsTable c blocks table t × IsRoot t) × SumFacts setting sum
  ReservingFacts (at.Follows table need) = ((t : ℕ) × IsTable c blocks table t × IsRoot t) × (need ≤ 2 ^ 48 → IsTableLen need)
  ReservingFacts (at.Grows table making) =
      (t : ℕ) × IsTable c blocks table t × IsRoot t × NewTableFacts w caller setting c blocks (Word (blocks.table t) NEXT) (suc t) making
  ReservingFacts (at.Copies copier) = CopiesWhole copier
  ReservingFacts at.Over = Unit {0}
  ReservingFacts (at.Refused fault) = Unit {0}

  -- what a reservation knows where it stands
  pub record ReserveFacts (p : Reserve) : Type 0 where
    pub setting_is : p.setting ≡ setting
    pub idle : (CopiesPairs p.stands → ⊥) → IsIdle same hash w caller setting c blocks
    pub point : ReservingFacts p.stands
