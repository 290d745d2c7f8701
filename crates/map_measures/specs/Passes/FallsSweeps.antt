-- What is promised of the number of a sweep: each step that goes on lowers it, whatever other callers have under way.
use Rattle.std.specs.Prelude.{◌≡◌, ◌≢◌, ℕ, Bool, length, ◌⊎◌}
use Rattle.seize_words.specs.OneMemory.Mem.{Mem, Took, value_at}
use Rattle.seize_words.specs.OneMemory.Plan.{Steps}
use Rattle.seize.specs.World.{World}
use Rattle.map_tables.specs.declared.node.Node.{Node}
use Rattle.map_tables.specs.declared.setting.Setting.{Setting}
use Rattle.map_sweeps.specs.Sweeps.Sweep.{sweep_plan}
use Rattle.map_sweeps.specs.Sweeps.SweepPoints.{after_next, after_reply}
use Rattle.map_sweeps.specs.declared.sweep.Sweep.{Sweep}
use Rattle.map_sweeps.specs.declared.sweep.Sweeping.{Sweeping}
use Rattle.map_sweeps.specs.declared.sweep.Sweeping.TheVariants as at
use Rattle.map_sweeps.specs.declared.sweep.Swept.{Swept}
use Rattle.map_sweeps.specs.declared.sweep.Swept.TheVariants as swept
use Rattle.many_calls.specs.Given.RuleChart.{Chart}
use Rattle.many_calls.specs.Given.RuleWords.{Blocks}
use Rattle.many_calls.specs.Given.RuleInWorld.{IsMapIn, StepSpec}
use Rattle.many_calls.specs.Given.PointsMeasures.{IsBelow}
use Rattle.many_calls.specs.Given.PointsSteps.{AreLawful}
use Rattle.many_calls.specs.Given.LateFactsSweeps.{CopiesPairs, SweepFacts}
use Rattle.many_calls.specs.Given.LateRowsSweeps.{KnowsInRow}
use Rattle.many_calls.specs.Given.LateToldSweeps.{IsRowOfSweep}
use Rattle.map_measures.specs.Passes.Sweeps.{number_of_sweep}

-- A step from here goes on, and may have handed out a value that was reclaimed; or it shows a pair, or comes to be asked for the next one, or to be told
-- whether one is to be kept. One that only says again what the sweep is to be asked or told does not.
abbrev pub AdvancesFrom : {T : Type 0} → Sweeping → Swept T → Type 0
AdvancesFrom stands swept.Goes = Unit {0}
AdvancesFrom stands (swept.Gave value) = Unit {0}
AdvancesFrom stands (swept.Pair word) = Unit {0}
AdvancesFrom stands swept.Ready = stands ≢ at.Ready
AdvancesFrom stands (swept.Asks word) = stands ≢ at.Asks word
AdvancesFrom stands _ = ⊥

module _ {K : Type 0} (V : Type 0) (same : K → K → Bool) (hash : K → ℕ) where
  -- A step of a sweep leads from here to there, where it comes on: whatever the tables are that the memory shows then, its number is lower.
  abbrev pub SweepLowers : (setting : Setting) (w : World (Node K V)) (caller : ℕ) (c : Chart K) (blocks : Blocks) (p : Sweep) → Type 0
  SweepLowers setting w caller c blocks p =
      (m2 : Mem (Node K V)) (p2 : Sweep) (end : Swept (Node K V)) → Steps Took value_at w.memory (sweep_plan hash p) m2 (p2, end) → AdvancesFrom p.stands end
      → (went : StepSpec same hash setting caller w c blocks m2 (λ w2 c2 blocks2. Unit {0}))
      → IsBelow (number_of_sweep hash went.c2 went.blocks2 p2) (number_of_sweep hash c blocks p)

  -- So does each step, none of a row of the collector, of a sweep that knows what its point knows, in either mode, and in a table that the root has left.
  abbrev pub SweepsFall : Type 0
  SweepsFall =
      AreLawful same hash → (setting : Setting) (w : World (Node K V)) (caller : ℕ) (c : Chart K) (blocks : Blocks) (began : ℕ) (p : Sweep)
      → IsMapIn same hash setting w c blocks → SweepFacts same hash w caller setting c blocks began p → (IsRowOfSweep p.stands → ⊥)
      → SweepLowers setting w caller c blocks p

  -- One that is asked for the next pair, or told whether a pair is to be kept, has a lower number then.
  abbrev pub RepliesLowerTheVariant : Type 0
  RepliesLowerTheVariant =
      (setting : Setting) (w : World (Node K V)) (caller : ℕ) (c : Chart K) (blocks : Blocks) (began : ℕ) (p : Sweep)
      → IsMapIn same hash setting w c blocks → SweepFacts same hash w caller setting c blocks began p
      → (p.stands ≡ at.Ready → IsBelow (number_of_sweep hash c blocks (after_next p)) (number_of_sweep hash c blocks p))
      × ((word : ℕ) → p.stands ≡ at.Asks word → (keeps : Bool)
      → IsBelow (number_of_sweep hash c blocks (after_reply p keeps)) (number_of_sweep hash c blocks p))

  -- The steps of a row of the collector within a sweep leave its number as it is, but for the last, which lowers it: the tables stay as they are. The row
  -- is within the copying of a table, or the sweep knows what it knows on while the pair that it has removed is disposed of.
  abbrev pub SweepRowsFall : Type 0
  SweepRowsFall =
      (setting : Setting) (w : World (Node K V)) (caller : ℕ) (c : Chart K) (blocks : Blocks) (began : ℕ) (p : Sweep)
      → IsMapIn same hash setting w c blocks → IsRowOfSweep p.stands
      → ((CopiesPairs p.stands → ⊥) → KnowsInRow same hash w caller setting c blocks began p)
      → (m2 : Mem (Node K V)) (end : Sweep × Swept (Node K V)) → Steps Took value_at w.memory (sweep_plan hash p) m2 end → AdvancesFrom p.stands end.1
      → ((IsRowOfSweep end.0.stands) × (number_of_sweep hash c blocks end.0 ≡ number_of_sweep hash c blocks p))
      ⊎ ((IsRowOfSweep end.0.stands → ⊥) × IsBelow (number_of_sweep hash c blocks end.0) (number_of_sweep hash c blocks p))

-- a sweep always has as many numbers, so that its descents terminate
abbrev pub SweepNumbersAreAsMany : Type 0 → Type 0
SweepNumbersAreAsMany K = (hash : K → ℕ) (c : Chart K) (blocks : Blocks) (p : Sweep) → length (number_of_sweep hash c blocks p) ≡ 11
