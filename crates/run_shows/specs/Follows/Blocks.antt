-- What the blocks of the memory are at a moment of a run, by what is noted of them.
use Rattle.std.specs.Prelude.{◌≡◌, ◌≢◌, ℕ, List, length, Some, None}
use Rattle.seize_words.specs.OneMemory.Mem.{value_at}
use Rattle.seize.specs.World.{World, Hand, NoBlock, Making}
use Rattle.run_effects.specs.Given.TablesNodes.{deferred_word}
use Rattle.run_effects.specs.Given.TablesDeclared.node.Node.{Node}
use Rattle.run_effects.specs.Given.TablesDeclared.node.Node.TheVariants as node
use Rattle.run_effects.specs.Given.RunsLog.{pair_at}
use Rattle.run_effects.specs.Given.SchedulesMoment.{Moment}
use Rattle.run_effects.specs.Effects.Known.{Known}
use Rattle.run_effects.specs.declared.role.Role.{Role}
use Rattle.run_effects.specs.declared.role.Role.TheVariants as role

-- the block was linked, and is there still
abbrev pub WasLinked : Hand → Type 0
WasLinked NoBlock = ⊥
WasLinked (Making i) = ⊥
WasLinked _ = Unit {0}

module _ {K V : Type 0} (w : World (Node K V)) (stored : List (K × V)) where
  -- A block has this role: that of a pair holds what was stored under its number. A caller's own one for a pair holds one, or none while the pair is out.
  abbrev pub HasRole : ℕ → Role → Type 0
  HasRole b role.Free = value_at w.memory b ≡ None
  HasRole b (role.OwnPair caller) = (value : Node K V) × (value_at w.memory b ≡ Some value) × (deferred_word value ≡ None)
  HasRole b (role.OwnTable turn shape) = (shape.len ≢ 0) × (value_at w.memory b ≡ Some (node.Table shape.len shape.limit turn))
  HasRole b (role.Pair n) = (k : K) × (v : V) × (pair_at stored n ≡ Some (k, v)) × (value_at w.memory b ≡ Some (node.Pair k v)) × WasLinked (w.hand b)
  HasRole b (role.Table t len) = (limit : ℕ) × (value_at w.memory b ≡ Some (node.Table len limit t.turn)) × WasLinked (w.hand b)
  HasRole b (role.Counter map) = value_at w.memory b ≡ Some node.Shards

-- each block has the role that is noted, no pair has two, and as many pairs were stored as are noted
pub record RefinesBlocks {K V : Type 0} (m : Moment K V) (known : Known) (w : World (Node K V)) : Type 0 where
  pub roles : (b : ℕ) → HasRole w m.stored b (known.roles b)
  pub once : (b d n : ℕ) → known.roles b ≡ role.Pair n → known.roles d ≡ role.Pair n → b ≡ d
  pub stored : known.stored ≡ length m.stored
