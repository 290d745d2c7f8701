-- The words of a map's count, as the memory has them, and as the moment says.
use Rattle.std.specs.Prelude.{◌≡◌, ℕ, ◌≤◌, List, Some}
use Rattle.run_debts.specs.Given.SeizeWordsMem.{word_at}
use Rattle.run_debts.specs.Given.SeizeWordsDeclared.at.At.TheVariants.{Word}
use Rattle.run_debts.specs.Given.SchedulesMoment.{Moment}
use Rattle.run_debts.specs.Given.FinishesMakings.{Beginning, HasMade}
use Rattle.run_debts.specs.Given.FinishesMaps.{Standing}
use Rattle.run_blocks.specs.Shards.Adds.{RefinesAdds}
use Rattle.run_debts.specs.Given.ScenesScene.{Scene}

module _ {K V : Type 0} where
  -- each shard of a map that stands says what the moment says
  abbrev pub RefinesShards : Moment K V → Scene K V → Type 0
  RefinesShards m s =
      (of : ℕ) (standing : Standing K) → s.maps of ≡ Some standing → (shard : ℕ) → shard ≤ standing.setting.mask
      → word_at s.world.memory (Word standing.setting.counter shard) ≡ Some (m.shards of shard)

  -- nothing was counted on the map of this number
  abbrev pub IsUncounted : ℕ → Moment K V → Type 0
  IsUncounted of m = (shard : ℕ) → m.shards of shard ≡ 0

  -- nothing was counted on a map that is being made, and each shard that was made for it says so
  abbrev pub MakesUncounted : Moment K V → Scene K V → Type 0
  MakesUncounted m s =
      (i : ℕ) (b : Beginning K) → s.makers i ≡ Some b
      → IsUncounted b.map m
      × (HasMade b.machine.stands → (shard : ℕ) → shard ≤ b.machine.setting.mask → word_at s.world.memory (Word b.machine.setting.counter shard) ≡ Some 0)

-- The shards in the memory are those of the moment, and those of new maps are 0; and what calls are about to add is what the moment says that they have to count.
pub record RefinesCounters {K V : Type 0} (name : ℕ → List ℕ) (m : Moment K V) (s : Scene K V) : Type 0 where
  pub shards : RefinesShards m s
  pub makes : MakesUncounted m s
  pub adds : RefinesAdds name m s
