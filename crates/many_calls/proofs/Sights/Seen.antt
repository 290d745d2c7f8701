-- A map stands for what one caller looks at of it.
use Rattle.std.proofs.Common.{ℕ, Bool}
use Rattle.seize_model.specs.Given.SeizeWorld.{World}
use Rattle.map_facts_late.specs.Given.TablesDeclared.node.Node.{Node}
use Rattle.map_facts_late.specs.Given.TablesDeclared.setting.Setting.{Setting}
use Rattle.map_facts_late.specs.Given.RuleChart.{Chart}
use Rattle.map_facts_late.specs.Given.RuleWords.{Blocks}
use Rattle.map_facts_late.specs.Given.RuleInWorld.{IsMapIn}
use Rattle.many_calls.specs.Sights.{Visible, seen_by, IsVisibility}
use Rattle.many_calls.proofs.Rows.Forgets.{forgotten_in}

pub map_seen : {K V : Type 0} (same : K → K → Bool) (hash : K → ℕ) (setting : Setting) (w : World (Node K V)) (c : Chart K) (blocks : Blocks) (sight : Visible) → IsMapIn same hash setting w c blocks → IsVisibility c blocks sight
    → IsMapIn same hash setting w c (seen_by blocks sight)
map_seen same hash setting w c blocks sight map s =
    forgotten_in same hash setting w c blocks map sight.tables sight.pairs (record { tables = s.tables; pairs = s.pairs; linked = s.linked; named = s.named }) s.later
