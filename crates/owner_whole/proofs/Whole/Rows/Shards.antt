-- A step of a row leaves the shards of the map's counter as they are.
use Rattle.std.specs.Prelude.{ℕ, suc, Bool}
use Rattle.std.proofs.Common.{inl}
use Rattle.seize_words.specs.OneMemory.Mem.{Mem}
use Rattle.seize.specs.World.{World, Steps'}
use Rattle.map_measures.proofs.Given.SeizeAloneHistories.NotTaken.{kept_word}
use Rattle.map_tables.specs.Nodes.{deferred_word}
use Rattle.map_tables.specs.declared.node.Node.{Node}
use Rattle.map_tables.specs.declared.node.Node.TheVariants as node
use Rattle.map_tables.specs.declared.setting.Setting.{Setting}
use Rattle.map_measures.specs.Given.RuleChart.{Chart}
use Rattle.map_measures.specs.Given.RuleWords.{Blocks}
use Rattle.map_measures.specs.Given.RuleInWorld.{IsMapIn}
use Rattle.owner_facts.specs.Alone.Counted.{HasAdded}
use Rattle.owner_facts.proofs.Alone.Shards.Sums.{shards_words, added_same}
use Rattle.owner_facts.specs.Given.CallersKept.{IsMaking}
use Rattle.owner_facts.specs.Given.CallersTogether.{CameAbout}
use Rattle.map_measures.proofs.Given.CallersRows.Keep.{kept_block}
use Rattle.owner_facts.proofs.Given.CallersTogether.Came.{came_reached}
use Rattle.owner_facts.proofs.Given.CallersRows.Beside.{making_own as makers_own}

pub row_shards : {K V : Type 0} (same : K → K → Bool) (hash : K → ℕ) (setting : Setting) (w : World (Node K V)) (c : Chart K) (blocks : Blocks) → IsMapIn same hash setting w c blocks
    → CameAbout setting.batch_size w → IsMaking (w.hand setting.counter) → (i : ℕ) (w2 : World (Node K V)) → Steps' deferred_word i (w.row i) w w2
    → (m0 : Mem (Node K V)) (n : ℕ) → HasAdded setting m0 n w.memory → HasAdded setting m0 n w2.memory
row_shards same hash setting w c blocks map came making i w2 step m0 n had =
    added_same w.memory w2.memory setting m0 n had
    (shards_words w.memory w2.memory setting.counter (suc setting.mask) (λ shard l.
    (kept_word deferred_word setting.batch_size w (came_reached setting.batch_size w came) i w2 step setting.counter shard (kept_block w setting.counter (inl (makers_own (w.hand setting.counter) making)))
    (node.Shards, map.counter, λ e. cc e)).0))
