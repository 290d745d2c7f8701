-- What is promised of what a call knows, over steps of others.
use Rattle.std.specs.Prelude.{◌≡◌, ℕ, ◌≤◌, ◌⊎◌, Bool, false}
use Rattle.map_facts.specs.Given.SeizeWorld.{World}
use Rattle.map_facts.specs.Given.TablesChunks.{is_incremental}
use Rattle.map_facts.specs.Given.TablesDeclared.node.Node.{Node}
use Rattle.map_facts.specs.Given.TablesDeclared.setting.Setting.{Setting}
use Rattle.map_facts.specs.Given.RawDeclared.machines.call.KeyCall.{KeyCall}
use Rattle.map_facts.specs.Given.RuleChart.{Chart}
use Rattle.map_facts.specs.Given.RuleWords.{Blocks}
use Rattle.map_facts.specs.Given.RuleMoments.{Moments}
use Rattle.map_facts.specs.Given.RuleInWorld.{IsMapIn}
use Rattle.map_facts.specs.FactsCalls.{Change, Unchanged, CallFacts}
use Rattle.map_facts.specs.FactsIdle.{IsIdle}
use Rattle.map_facts.specs.Others.{OthersStep}
use Rattle.map_facts.specs.Steps.{AreLawful}
use Rattle.map_facts_late.specs.Left.{ClaimsAreFew}
use Rattle.map_facts_late.specs.LateCalls.{SupersededCallFacts}

module _ {K Q : Type 0} (V : Type 0) (same : K → K → Bool) (hash : K → ℕ) (asks : Q → K → Bool) where
  -- While others step, a call that began at this moment knows on what its program point is to know; or, where the root leaves its table in blocking
  -- mode, what it is to know then, and it knows that on. A caller that has no part in a copying has none still.
  abbrev pub CallsKnowOn : Type 0
  CallsKnowOn =
      AreLawful same hash → (setting : Setting) (caller : ℕ) (w w2 : World (Node K V)) (c c2 : Chart K) (blocks blocks2 : Blocks) → IsMapIn same hash setting w c blocks → IsMapIn same hash setting w2 c2 blocks2
      → Moments (is_incremental setting.mode) c → OthersStep same hash setting caller w c blocks w2 c2 blocks2 → (is_incremental setting.mode ≡ false → ClaimsAreFew c2)
      → (IsIdle same hash w caller setting c blocks → IsIdle same hash w2 caller setting c2 blocks2)
      × ((keys : K → Bool) (began : ℕ) → began ≤ c.now → (change : Change) (p : KeyCall K V Q)
      → (CallFacts same hash asks w caller setting c blocks keys change p
      → CallFacts same hash asks w2 caller setting c2 blocks2 keys change p ⊎ ((change ≡ Unchanged) × SupersededCallFacts same hash asks w2 caller setting c2 blocks2 keys began p))
      × (SupersededCallFacts same hash asks w caller setting c blocks keys began p → SupersededCallFacts same hash asks w2 caller setting c2 blocks2 keys began p))
