-- What is promised of each step of a sweep, between any two steps of others, of its first point, and of what it is told.
use Rattle.std.specs.Prelude.{◌≡◌, ℕ, Bool, false}
use Rattle.std.specs.Int.{IsPowerOfTwo}
use Rattle.map_facts.specs.Given.SeizeWordsMem.{Mem, Can, Took, value_at}
use Rattle.map_facts.specs.Given.SeizeWordsPlan.{May, Steps}
use Rattle.map_facts.specs.Given.SeizeWorld.{World}
use Rattle.map_facts.specs.Given.TablesChunks.{is_incremental}
use Rattle.map_facts.specs.Given.TablesDeclared.node.Node.{Node}
use Rattle.map_facts.specs.Given.TablesDeclared.setting.Setting.{Setting}
use Rattle.map_facts.specs.Given.SweepsSweep.{sweep_plan}
use Rattle.map_facts.specs.Given.SweepsSweepPoints.{sweeping, after_next, after_reply}
use Rattle.map_facts.specs.Given.ReservesDeclared.sweep.Purpose.{Purpose}
use Rattle.map_facts.specs.Given.ReservesDeclared.sweep.Sweep.{Sweep}
use Rattle.map_facts.specs.Given.ReservesDeclared.sweep.Swept.{Swept}
use Rattle.map_facts.specs.Given.RuleChart.{Chart}
use Rattle.map_facts.specs.Given.RuleWords.{Blocks}
use Rattle.map_facts.specs.Given.RuleMoments.{Moments}
use Rattle.map_facts.specs.Given.RuleInWorld.{IsMapIn, StepSpec}
use Rattle.map_facts.specs.FactsIdle.{IsIdle}
use Rattle.map_facts.specs.Steps.{AreLawful}
use Rattle.map_facts_late.specs.Left.{ClaimsAreFew}
use Rattle.map_facts_late.specs.FactsSweeps.{SweepFacts}
use Rattle.map_facts_late.specs.ToldSweeps.{IsRowOfSweep, SweepOutcome}

module _ {K : Type 0} (V : Type 0) (same : K → K → Bool) (hash : K → ℕ) where
  -- A sweep knows what its first point is to know, if its caller has no part in a copying.
  abbrev pub SweepsBegin : Type 0
  SweepsBegin =
      (setting : Setting) (w : World (Node K V)) (caller : ℕ) (c : Chart K) (blocks : Blocks) (began : ℕ) → IsIdle same hash w caller setting c blocks
      → (purpose : Purpose) → SweepFacts same hash w caller setting c blocks began (sweeping setting purpose)

  -- One that is asked for the next pair, or told whether a pair is to be kept, knows what its next point knows.
  abbrev pub SweepsAreReplied : Type 0
  SweepsAreReplied =
      (setting : Setting) (w : World (Node K V)) (caller : ℕ) (c : Chart K) (blocks : Blocks) (began : ℕ) (p : Sweep)
      → IsMapIn same hash setting w c blocks → SweepFacts same hash w caller setting c blocks began p
      → SweepFacts same hash w caller setting c blocks began (after_next p)
      × ((keeps : Bool) → SweepFacts same hash w caller setting c blocks began (after_reply p keeps))

  -- Where a map stands in the collector's world, a sweep that knows what its point knows may take its step, if that is no step of a row of the
  -- collector, while claims are few in blocking mode. It makes one move at most, and the map stands where it leads.
  abbrev pub SweepsPreserveTheMap : Type 0
  SweepsPreserveTheMap =
      AreLawful same hash → (setting : Setting) → IsPowerOfTwo setting.initial
      → (w : World (Node K V)) (caller : ℕ) (c : Chart K) (blocks : Blocks) (began : ℕ) (p : Sweep)
      → IsMapIn same hash setting w c blocks → Moments (is_incremental setting.mode) c → (is_incremental setting.mode ≡ false → ClaimsAreFew c)
      → SweepFacts same hash w caller setting c blocks began p → (IsRowOfSweep p.stands → ⊥)
      → May Can Took value_at w.memory (sweep_plan hash p)
      × ((m2 : Mem (Node K V)) (p2 : Sweep) (end : Swept (Node K V)) → Steps Took value_at w.memory (sweep_plan hash p) m2 (p2, end)
      → StepSpec same hash setting caller w c blocks m2 (λ w2 c2 blocks2. SweepOutcome same hash caller setting began c blocks p w2 c2 blocks2 p2 end))
