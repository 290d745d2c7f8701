-- Where a step led, the memory shows the tables that it showed, and those that it led to.
use Rattle.std.proofs.Common.{ℕ, Bool, subst}
use Rattle.seize.specs.World.{World}
use Rattle.seize_words.specs.OneMemory.Mem.{Mem}
use Rattle.map_tables.specs.declared.node.Node.{Node}
use Rattle.map_tables.specs.declared.setting.Setting.{Setting}
use Rattle.many_calls.specs.Given.RuleChart.{Chart}
use Rattle.many_calls.specs.Given.RuleInWorld.{IsMapIn, StepSpec}
use Rattle.many_calls.specs.Given.RuleMaps.{spot_of, IsMap}
use Rattle.many_calls.specs.Given.RuleRule.{IsLawful}
use Rattle.many_calls.specs.Given.RuleWords.{Blocks}
use Rattle.many_calls.proofs.Given.PointsMovedLasts.{moved_lasts}
use Rattle.map_measures.proofs.Falls.Onward.{Onward}

-- where a step led, both memories show their tables
pub onward : {K V : Type 0} (same : K → K → Bool) (hash : K → ℕ) → IsLawful same (spot_of hash) → (setting : Setting) (w : World (Node K V)) (caller : ℕ) (c : Chart K) (blocks : Blocks)
    → IsMapIn same hash setting w c blocks → (m2 : Mem (Node K V)) (went : StepSpec same hash setting caller w c blocks m2 (λ w2 c2 blocks2. Unit {0}))
    → Onward same hash setting w.memory c blocks m2 went.c2 went.blocks2
onward same hash lawful setting w caller c blocks map m2 went = record {
  map = map.map;
  map2 = subst (λ (x : Mem (Node _ _)). IsMap same hash setting.mode setting.root x went.c2 went.blocks2) went.memory went.map.map;
  blocks_same = went.blocks_same;
  lasts = moved_lasts same hash setting lawful w c went.c2 blocks map went.moved;
}
