-- Which blocks of a map no row of the collector takes: its users have them, or they can be reached.
use Rattle.std.specs.Prelude.{◌≡◌, ℕ, suc, ◌<◌, ◌≤◌, true, Some, ◌⊎◌}
use Rattle.seize_model.specs.Given.SeizeWordsMem.{value_at}
use Rattle.seize_model.specs.Given.SeizeLaw.{With, where_is, holds, reachable, owner_of}
use Rattle.seize_model.specs.Given.SeizeWorld.{World, Hand, NoBlock, Making, InUse, Cutting, Handed, LeftTo, IsInside, Parting}
use Rattle.map_facts_late.specs.Given.TablesDeclared.node.Node.{Node}
use Rattle.map_facts_late.specs.Given.TablesDeclared.node.Node.TheVariants as node
use Rattle.map_facts_late.specs.Given.TablesDeclared.setting.Setting.{Setting}
use Rattle.map_facts_late.specs.Given.RuleChart.{Chart}
use Rattle.map_facts_late.specs.Given.RuleWords.{Blocks}

-- a user has the block: it is made and not linked, in use, unlinked and not yet handed to the collector, or left over from what has ended
abbrev pub IsUsersOwn : Hand → Type 0
IsUsersOwn NoBlock = ⊥
IsUsersOwn (Making i) = Unit {0}
IsUsersOwn (InUse o) = Unit {0}
IsUsersOwn (Parting i) = Unit {0}
IsUsersOwn (Cutting i) = Unit {0}
IsUsersOwn Handed = ⊥
IsUsersOwn (LeftTo i) = Unit {0}

-- its maker has it
abbrev pub IsMaking : Hand → Type 0
IsMaking (Making i) = Unit {0}
IsMaking _ = ⊥

module _ {K V : Type 0} (w : World (Node K V)) where
  -- A user has the block, or it can be reached: a table in use carries it.
  abbrev pub IsKeptBlock : ℕ → Type 0
  IsKeptBlock b = IsUsersOwn (w.hand b) ⊎ (reachable b w.log ≡ true)

  -- The section of this slot holds all that can be looked at, and the users have the counter.
  pub record IsWithin (slot : ℕ) (c : Chart K) (blocks : Blocks) (setting : Setting) : Type 0 where
    pub inside : IsInside (w.uses slot)
    pub tables : (t : ℕ) → t < c.past → blocks.table_known t ≡ true → holds slot (blocks.table t) w.log ≡ true
    pub pairs : (n : ℕ) → n < c.stored → blocks.pair_known n ≡ true → holds slot (blocks.pair n) w.log ≡ true
    pub counter : IsMaking (w.hand setting.counter)

  -- It is kept, or some section holds it that somebody is inside.
  abbrev pub IsKeptBy : ℕ → Type 0
  IsKeptBy b = IsKeptBlock b ⊎ ((s : ℕ) × IsInside (w.uses s) × (holds s b w.log ≡ true))

  -- So is each table and each pair that may be looked at: it is there whoever takes the next step of a row.
  pub record AllKeptBy (c : Chart K) (blocks : Blocks) : Type 0 where
    pub tables : (t : ℕ) → t < c.past → blocks.table_known t ≡ true → IsKeptBy (blocks.table t)
    pub pairs : (n : ℕ) → n < c.stored → blocks.pair_known n ≡ true → IsKeptBy (blocks.pair n)

  -- What may be looked at is this owner's, as the log tells.
  pub record AllOwned (c : Chart K) (blocks : Blocks) (owner : ℕ) : Type 0 where
    pub tables : (t : ℕ) → t < c.past → blocks.table_known t ≡ true → owner_of (blocks.table t) w.log ≡ owner
    pub pairs : (n : ℕ) → n < c.stored → blocks.pair_known n ≡ true → owner_of (blocks.pair n) w.log ≡ owner

  -- the block is that of a pair
  abbrev pub IsPair : ℕ → Type 0
  IsPair b = (key : K) × (value : V) × (value_at w.memory b ≡ Some (node.Pair key value))

  -- and the pair is this owner's
  pub record IsPairOf (owner b : ℕ) : Type 0 where
    pub owner_is : owner_of b w.log ≡ owner
    pub pair : IsPair b

  -- What is deferred behind a linked table is a pair of this owner's, and another table is linked behind that one: it is to be copied, or was.
  abbrev pub DeferredIsOwned : Chart K → Blocks → ℕ → Type 0
  DeferredIsOwned c blocks owner = (t x : ℕ) → c.first ≤ t → t < c.past → where_is x w.log ≡ With (blocks.table t) → IsPairOf owner x × (suc t < c.past)
