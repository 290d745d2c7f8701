-- What is promised of what a sweep knows, over steps of others.
use Rattle.std.specs.Prelude.{◌≡◌, ℕ, ◌≤◌, Bool, false}
use Rattle.map_facts.specs.Given.SeizeWorld.{World}
use Rattle.map_facts.specs.Given.TablesChunks.{is_incremental}
use Rattle.map_facts.specs.Given.TablesDeclared.node.Node.{Node}
use Rattle.map_facts.specs.Given.TablesDeclared.setting.Setting.{Setting}
use Rattle.map_facts.specs.Given.ReservesDeclared.sweep.Sweep.{Sweep}
use Rattle.map_facts.specs.Given.RuleChart.{Chart}
use Rattle.map_facts.specs.Given.RuleWords.{Blocks}
use Rattle.map_facts.specs.Given.RuleMoments.{Moments}
use Rattle.map_facts.specs.Given.RuleInWorld.{IsMapIn}
use Rattle.map_facts.specs.Others.{OthersStep}
use Rattle.map_facts.specs.Steps.{AreLawful}
use Rattle.map_facts_late.specs.Left.{ClaimsAreFew}
use Rattle.map_facts_late.specs.FactsSweeps.{SweepFacts}

module _ {K : Type 0} (V : Type 0) (same : K → K → Bool) (hash : K → ℕ) where
  -- While others step, a sweep that began at this moment knows on what its program point is to know, also where the root leaves its table.
  abbrev pub SweepsKnowOn : Type 0
  SweepsKnowOn =
      AreLawful same hash → (setting : Setting) (caller : ℕ) (w w2 : World (Node K V)) (c c2 : Chart K) (blocks blocks2 : Blocks) → IsMapIn same hash setting w c blocks → IsMapIn same hash setting w2 c2 blocks2
      → Moments (is_incremental setting.mode) c → OthersStep same hash setting caller w c blocks w2 c2 blocks2 → (is_incremental setting.mode ≡ false → ClaimsAreFew c2)
      → (began : ℕ) → began ≤ c.now → (p : Sweep)
      → SweepFacts same hash w caller setting c blocks began p → SweepFacts same hash w2 caller setting c2 blocks2 began p
