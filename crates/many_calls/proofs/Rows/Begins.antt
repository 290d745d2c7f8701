-- The beginning of a row that is given no block keeps a map and its blocks.
use Rattle.std.proofs.Common.{◌≡◌, ℕ, Bool}
use Rattle.seize_model.specs.Given.SeizeWorld.{World, Row, Use}
use Rattle.map_facts_late.specs.Given.TablesDeclared.node.Node.{Node}
use Rattle.map_facts_late.specs.Given.TablesDeclared.setting.Setting.{Setting}
use Rattle.map_facts_late.specs.Given.RuleChart.{Chart}
use Rattle.map_facts_late.specs.Given.RuleWords.{Blocks}
use Rattle.map_facts_late.specs.Given.RuleInWorld.{IsMapIn}

module _ {K V : Type 0} (same : K → K → Bool) (hash : K → ℕ) (setting : Setting) (w : World (Node K V)) (c : Chart K) (blocks : Blocks)
    (map : IsMapIn same hash setting w c blocks) where
  -- a map doesn't depend on what callers have under way, nor on how slots are used
  pub beside_in : (row : ℕ → Row) (uses : ℕ → Use) → IsMapIn same hash setting (record w { row = row; uses = uses }) c blocks
  beside_in row uses = record {
    map = map.map;
    counter = map.counter;
    shards = map.shards;
    tables = map.tables;
    pairs = map.pairs;
    named = map.named;
    tables_out = map.tables_out;
    pairs_out = map.pairs_out;
  }
