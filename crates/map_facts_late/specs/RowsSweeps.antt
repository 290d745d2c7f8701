-- What is promised of a sweep while a row of the collector disposes of the pair that it has removed, and after it.
use Rattle.std.specs.Prelude.{◌≡◌, ℕ, suc, ◌≤◌, Bool, true, false, List}
use Rattle.map_facts.specs.Given.SeizeWorld.{World}
use Rattle.map_facts.specs.Given.TablesChunks.{is_incremental}
use Rattle.map_facts.specs.Given.TablesDeclared.node.Node.{Node}
use Rattle.map_facts.specs.Given.TablesDeclared.setting.Setting.{Setting}
use Rattle.map_facts.specs.Given.SweepsSweepPoints.{removes, further}
use Rattle.map_facts.specs.Given.ReservesDeclared.sweep.Sweep.{Sweep}
use Rattle.map_facts.specs.Given.RuleChart.{Chart}
use Rattle.map_facts.specs.Given.RuleWords.{Blocks}
use Rattle.map_facts.specs.Given.RuleMoments.{Moments}
use Rattle.map_facts.specs.Given.RuleInWorld.{IsMapIn}
use Rattle.map_facts.specs.FactsIdle.{IsIdle}
use Rattle.map_facts.specs.Others.{OthersStep}
use Rattle.map_facts.specs.Steps.{AreLawful}
use Rattle.map_facts_late.specs.Left.{ClaimsAreFew}
use Rattle.map_facts_late.specs.Covers.{CoversTo, CoversAt}
use Rattle.map_facts_late.specs.FactsSweeps.{AtPlace, SweepFacts}

module _ {K V : Type 0} (same : K → K → Bool) (hash : K → ℕ) (w : World (Node K V)) (caller : ℕ) (setting : Setting) (c : Chart K) (blocks : Blocks) (began : ℕ) where
  -- what it knows on while the row is under way
  pub record KnowsInRow (p : Sweep) : Type 0 where
    pub setting_is : p.setting ≡ setting
    pub taking : removes p.purpose ≡ true
    pub idle : IsIdle same hash w caller setting c blocks
    pub turn : ℕ
    pub place : AtPlace same hash w caller setting c blocks began p turn

module _ {K : Type 0} (V : Type 0) (same : K → K → Bool) (hash : K → ℕ) where
  -- After the row, its place is behind it: it knows what its next point is to know, and has come to what it comes to there.
  abbrev pub SweepsContinue : Type 0
  SweepsContinue =
      (setting : Setting) (w : World (Node K V)) (caller : ℕ) (c : Chart K) (blocks : Blocks) (began : ℕ) (p : Sweep) → IsMapIn same hash setting w c blocks → KnowsInRow same hash w caller setting c blocks began p
      → SweepFacts same hash w caller setting c blocks began (further p)
      × ((entered : ℕ) (done : List ℕ) → CoversTo hash c blocks p entered done (suc p.place) → CoversAt hash c blocks (further p) entered done (further p).stands)

  -- And while others step, it knows on what it knows then.
  abbrev pub SweepsRestOn : Type 0
  SweepsRestOn =
      AreLawful same hash → (setting : Setting) (caller : ℕ) (w w2 : World (Node K V)) (c c2 : Chart K) (blocks blocks2 : Blocks) → IsMapIn same hash setting w c blocks → IsMapIn same hash setting w2 c2 blocks2
      → Moments (is_incremental setting.mode) c → OthersStep same hash setting caller w c blocks w2 c2 blocks2 → (is_incremental setting.mode ≡ false → ClaimsAreFew c2)
      → (began : ℕ) → began ≤ c.now → (p : Sweep) → KnowsInRow same hash w caller setting c blocks began p → KnowsInRow same hash w2 caller setting c2 blocks2 began p
