-- What a step of a caller leaves as it is: a block that is neither its own nor of its map.
use Rattle.std.specs.Prelude.{◌≡◌, ℕ, Bool, Some}
use Rattle.map_machines.specs.Given.SeizeWordsMem.{Mem, value_at}
use Rattle.seize_rule.specs.Given.SeizeLaw.{Place, Nowhere, Standing, With, where_is, owner_of, is_orphan, is_over}
use Rattle.seize_rule.specs.Given.SeizeWorld.{World}
use Rattle.map_machines.specs.Given.TablesDeclared.node.Node.{Node}
use Rattle.map_machines.specs.Given.TablesDeclared.setting.Setting.{Setting}
use Rattle.map_rule.specs.Chart.{Chart}
use Rattle.map_rule.specs.Words.{Blocks}
use Rattle.map_rule.specs.InWorld.{IsIts, StepSpec}

module _ {K V : Type 0} (caller : ℕ) (w : World (Node K V)) (c : Chart K) (blocks : Blocks) where
  -- what is there is reached through no block of this caller or its map
  abbrev pub IsBeside : Place → Type 0
  IsBeside Nowhere = Unit {0}
  IsBeside Standing = Unit {0}
  IsBeside (With t) = IsIts caller w c blocks t → ⊥

  -- from one world to another, a block is as it was: its value, who has it, whose it is, whether its owner has ended, and where
  pub record KeptBeside (b : ℕ) (v v2 : World (Node K V)) : Type 0 where
    pub value : value_at v2.memory b ≡ value_at v.memory b
    pub hand : v2.hand b ≡ v.hand b
    pub owner : owner_of b v2.log ≡ owner_of b v.log
    pub orphan : is_orphan b v2.log ≡ is_orphan b v.log
    pub over : is_over b v2.log ≡ is_over b v.log
    pub place : (p : Place) → IsBeside p → where_is b v.log ≡ p → where_is b v2.log ≡ p

module _ {K : Type 0} (V : Type 0) (same : K → K → Bool) (hash : K → ℕ) where
  -- The promise: a step of a caller leaves such a block as it was.
  abbrev pub StepsSpareOthers : Type 0
  StepsSpareOthers =
      (setting : Setting) (caller : ℕ) (w : World (Node K V)) (c : Chart K) (blocks : Blocks) (m2 : Mem (Node K V)) (went : StepSpec same hash setting caller w c blocks m2 (λ w2 c2 blocks2. Unit {0}))
      → (b : ℕ) (value : Node K V) → value_at w.memory b ≡ Some value → (IsIts caller w c blocks b → ⊥) → KeptBeside caller w c blocks b w went.w2
