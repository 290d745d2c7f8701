-- What a step of one caller is to all others.
use Rattle.std.specs.Prelude.{◌≡◌, ◌≢◌, ℕ, ◌<◌, Bool, true}
use Rattle.map_rule.specs.Given.SeizeWordsMem.{Mem, value_at}
use Rattle.papaya_raw.specs.Given.SeizeWorld.{World}
use Rattle.papaya_raw.specs.Given.TablesChunks.{is_incremental}
use Rattle.papaya_raw.specs.Given.TablesDeclared.node.Node.{Node}
use Rattle.papaya_raw.specs.Given.TablesDeclared.setting.Setting.{Setting}
use Rattle.map_rule.specs.Chart.{Chart}
use Rattle.map_rule.specs.Words.{Blocks}
use Rattle.map_rule.specs.Maps.{spot_of}
use Rattle.map_rule.specs.InWorld.{IsMapIn, PreservesBlocks, StepSpec}
use Rattle.map_rule.specs.Moments.{Moments}
use Rattle.map_rule.specs.Leaves.{Leaves}
use Rattle.map_facts.specs.Steps.{AreLawful}

module _ {K V : Type 0} (same : K → K → Bool) (hash : K → ℕ) (setting : Setting) where
  -- from one moment to a later one, where this caller took no step
  pub record OthersStep (caller : ℕ) (w : World (Node K V)) (c : Chart K) (blocks : Blocks) (w2 : World (Node K V)) (c2 : Chart K) (blocks2 : Blocks) : Type 0 where
    pub leaves : Leaves same (spot_of hash) (is_incremental setting.mode) caller c c2
    -- what it could look at it can look at still
    pub tables : (t : ℕ) → t < c.past → blocks.table_known t ≡ true → (blocks2.table t ≡ blocks.table t) × (blocks2.table_known t ≡ true)
    pub pairs : (n : ℕ) → n < c.stored → blocks.pair_known n ≡ true → (blocks2.pair n ≡ blocks.pair n) × (blocks2.pair_known n ≡ true)
    pub values : (n : ℕ) → n < c.stored → blocks.pair_known n ≡ true → value_at w2.memory (blocks.pair n) ≡ value_at w.memory (blocks.pair n)
    -- what it has it has still
    pub own : PreservesBlocks caller w.memory w.hand w2.memory w2.hand

module _ {K : Type 0} (V : Type 0) (same : K → K → Bool) (hash : K → ℕ) where
  -- The promise: each step of a caller is such a step to each other one.
  abbrev pub StepsAreOfOthers : Type 0
  StepsAreOfOthers =
      AreLawful same hash → (setting : Setting) (caller : ℕ) (w : World (Node K V)) (c : Chart K) (blocks : Blocks) → IsMapIn same hash setting w c blocks → Moments (is_incremental setting.mode) c
      → (m2 : Mem (Node K V)) (went : StepSpec same hash setting caller w c blocks m2 (λ w2 c2 blocks2. Unit {0})) (i : ℕ) → i ≢ caller
      → OthersStep same hash setting i w c blocks went.w2 went.c2 went.blocks2
