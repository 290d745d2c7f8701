-- The counter of a map is neither a pair nor a table of it.
use Rattle.std.proofs.Common.{◌≡◌, ◌≢◌, ℕ, ◌<◌, Bool, true}
use Rattle.seize_model.specs.Given.SeizeWorld.{World}
use Rattle.map_facts_late.specs.Given.TablesDeclared.node.Node.{Node}
use Rattle.map_facts_late.specs.Given.TablesDeclared.node.Node.TheVariants as node
use Rattle.map_facts_late.specs.Given.TablesDeclared.setting.Setting.{Setting}
use Rattle.map_facts_late.specs.Given.RuleChart.{Chart}
use Rattle.map_facts_late.specs.Given.RuleWords.{Blocks}
use Rattle.map_facts_late.specs.Given.RuleInWorld.{IsMapIn}
use Rattle.map_facts_late.proofs.Given.RuleWorld.CounterSpared.{counter_apart}

-- the counter is neither a pair nor a table
module _ {K V : Type 0} (same : K → K → Bool) (hash : K → ℕ) (setting : Setting) (w : World (Node K V)) (c : Chart K) (blocks : Blocks)
    (map : IsMapIn same hash setting w c blocks) where
  pub counter_no_pair : (n : ℕ) → n < c.stored → blocks.pair_known n ≡ true → setting.counter ≢ blocks.pair n
  counter_no_pair n was known = let q = map.map.shows.pairs n was known in counter_apart same hash setting w c blocks map (blocks.pair n) (node.Pair q.0 q.1) q.2 (λ e. cc e)

  pub counter_no_table : (t : ℕ) → t < c.past → blocks.table_known t ≡ true → setting.counter ≢ blocks.table t
  counter_no_table t made known = counter_apart same hash setting w c blocks map (blocks.table t) (node.Table (c.len t) (c.limit t) t) (map.map.shows.tables t made known).value (λ e. cc e)
