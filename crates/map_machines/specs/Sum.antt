-- How the pairs of a map are counted: shard by shard.
use Rattle.std.specs.Prelude.{ℕ, ◌+◌, ◌%◌, ◌^◌, nat_lt, if◌then◌else◌}
use Rattle.map_tables.specs.Given.SeizeWordsDeclared.at.At.TheVariants.{Word}
use Rattle.map_tables.specs.Given.SeizeWordsOp.{Out, Load, Found}
use Rattle.map_tables.specs.Given.SeizeWordsPlan.{Plan, Then, Turn, Do, Now}
use Rattle.seize.specs.declared.advance.Advance.{Advance}
use Rattle.seize.specs.declared.advance.Advance.TheVariants.{Goes, Done}
use Rattle.map_tables.specs.declared.setting.Setting.{Setting}
use Rattle.map_machines.specs.declared.sum.Sum.{Sum}
use Rattle.map_machines.specs.declared.sum.Summing.{Summing}
use Rattle.map_machines.specs.declared.sum.Summing.TheVariants as at
use Rattle.map_tables.specs.Counts.{count_in}

-- a counting that begins
abbrev pub summing : Setting → Sum
summing setting = record { setting = setting; stands = at.Adds 0 0 }

-- standing elsewhere
abbrev pub standing : Sum → Summing → Sum
standing c stands = record c { stands = stands }

-- so many are counted
abbrev pub summed : Sum → ℕ → Sum × Advance ℕ
summed c count = (standing c (at.Over count), Done count)

module _ {T : Type 0} where
  -- the sum with this shard is known: the next one is read, if there is one
  abbrev pub added : Sum → ℕ → ℕ → Out T → Then T (Sum × Advance ℕ)
  added c shard total (Found word) =
      if nat_lt shard c.setting.mask then Now (standing c (at.Adds (shard + 1) ((total + word) % 2 ^ 64)), Goes)
      else Now (summed c (count_in ((total + word) % 2 ^ 64)))
  added c shard total _ = Now (c, Goes)

  -- reads a shard
  abbrev pub adds : Sum → ℕ → ℕ → Plan T (Sum × Advance ℕ)
  adds c shard total = Do (Load (Word c.setting.counter shard)) (added c shard total)

  -- each point
  abbrev pub plan_at : Sum → Summing → Plan T (Sum × Advance ℕ)
  plan_at c (at.Adds shard total) = adds c shard total
  plan_at c (at.Over count) = Turn (Now (c, Done count))

  -- what its next step does
  abbrev pub sum_plan : Sum → Plan T (Sum × Advance ℕ)
  sum_plan c = plan_at c c.stands
