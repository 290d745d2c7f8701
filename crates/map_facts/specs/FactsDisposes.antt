-- What the disposal of a pair knows, at each of its points.
use Rattle.std.specs.Prelude.{◌≡◌, ◌≢◌, ℕ, suc, ◌*◌, ◌<◌, ◌≤◌, Bool, true, false}
use Rattle.map_rule.specs.Given.SeizeWordsDeclared.at.At.TheVariants.{Word}
use Rattle.papaya_raw.specs.Given.SeizeWorld.{World, Parting, Cutting}
use Rattle.papaya_raw.specs.Given.SeizeSettle.{retiring}
use Rattle.papaya_raw.specs.Given.SeizeDefer.{deferring}
use Rattle.papaya_raw.specs.Given.SeizeDeclared.rows.settle.Settle.{Settle}
use Rattle.papaya_raw.specs.Given.TablesChunks.{is_incremental}
use Rattle.papaya_raw.specs.Given.TablesDeclared.node.Node.{Node}
use Rattle.papaya_raw.specs.Given.TablesDeclared.setting.Setting.{Setting}
use Rattle.papaya_raw.specs.Given.TablesDeclared.table_words.TheConstants.{DEFERRED}
use Rattle.map_rule.specs.Given.ResizeDeclared.dispose.Dispose.{Dispose}
use Rattle.map_rule.specs.Given.ResizeDeclared.dispose.Disposing.{Disposing}
use Rattle.map_rule.specs.Given.ResizeDeclared.dispose.Disposing.TheVariants as at
use Rattle.map_rule.specs.Chart.{Phase, Holds, Chart}
use Rattle.map_rule.specs.Words.{Blocks}
use Rattle.map_rule.specs.Maps.{IsTable}

module _ {K V : Type 0} (w : World (Node K V)) (caller : ℕ) (setting : Setting) where
  -- this block is to be retired, and nothing of it was done yet
  abbrev pub IsToRetire : Settle → ℕ → Type 0
  IsToRetire settle block = (settle ≡ retiring setting.slot setting.batch_size (block * 2048)) × (w.hand block ≡ Cutting caller)

  module _ (c : Chart K) (blocks : Blocks) where
    -- the pair was in the map, and is not any more
    abbrev pub HasLeft : ℕ → Type 0
    HasLeft n = (n < c.stored) × (blocks.pair_known n ≡ true) × (c.current n ≡ false)

    -- it stands in tables before this one alone
    abbrev pub LiesBefore : ℕ → ℕ → Type 0
    LiesBefore n t = (u j : ℕ) (phase : Phase) (borrowed : Bool) → c.place u j ≡ Holds n phase borrowed → u < t

    -- no table that is linked names it
    abbrev pub LiesNowhere : ℕ → Type 0
    LiesNowhere n = (u j : ℕ) (phase : Phase) (borrowed : Bool) → c.first ≤ u → u < c.past → c.place u j ≢ Holds n phase borrowed

    -- pair n was taken out of table t
    abbrev pub DisposingFacts : ℕ → ℕ → Disposing → Type 0
    DisposingFacts n t (at.Settles settle) = IsToRetire settle (blocks.pair n) × LiesNowhere n
    DisposingFacts n t at.Reads = (is_incremental setting.mode ≡ true) × (w.hand (blocks.pair n) ≡ Parting caller) × LiesBefore n t
    DisposingFacts n t (at.Walks table) =
        (is_incremental setting.mode ≡ true) × (w.hand (blocks.pair n) ≡ Parting caller) × LiesBefore n t
        × (u : ℕ) × (u < t) × (blocks.table_known u ≡ true) × (table ≡ blocks.table u * 2048)
    DisposingFacts n t (at.Defers defer) =
        (w.hand (blocks.pair n) ≡ Parting caller) × LiesBefore n t
        × (u : ℕ) × (suc u ≡ t) × (blocks.table_known u ≡ true) × (defer ≡ deferring (blocks.pair n * 2048) (Word (blocks.table u) DEFERRED))
        × (is_incremental setting.mode ≡ true)
    DisposingFacts n t at.Over = Unit {0}

    -- of a disposal whose rows have not begun
    pub record DisposeFacts (d : Dispose) : Type 0 where
      pub setting_is : d.setting ≡ setting
      pub n : ℕ
      pub t : ℕ
      pub left : HasLeft n
      pub pair_is : d.pair ≡ blocks.pair n * 2048
      pub table : IsTable c blocks d.table t
      pub point : DisposingFacts n t d.stands
