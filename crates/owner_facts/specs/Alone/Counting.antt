-- How many pairs a map has, and what the shards of its counter say.
use Rattle.std.specs.Prelude.{◌≡◌, ℕ, suc, ◌+◌, ◌-◌, ◌%◌, ◌^◌, Bool, cond, Option, Some, None}
use Rattle.many_maps.specs.Given.SeizeWordsDeclared.at.At.TheVariants.{Word}
use Rattle.many_maps.specs.Given.SeizeWordsMem.{Mem, word_at}
use Rattle.many_maps.specs.Given.TablesCounts.{count_in}
use Rattle.many_maps.specs.Given.ResizeDeclared.sum.Summing.{Summing}
use Rattle.many_maps.specs.Given.ResizeDeclared.sum.Summing.TheVariants as sums
use Rattle.many_maps.specs.Given.TablesDeclared.setting.Setting.{Setting}
use Rattle.many_maps.specs.Given.RuleChart.{Chart}
use Rattle.many_maps.specs.Given.RuleRule.{total}

-- one for a pair that is in the map, for sums
abbrev pub one_if : Bool → ℕ
one_if b = cond b 1 0

-- how many pairs the map has
abbrev pub pairs_in : {K : Type 0} → Chart K → ℕ
pairs_in c = total one_if c.current c.stored

-- a word as a number
abbrev pub number_in : Option ℕ → ℕ
number_in None = 0
number_in (Some word) = word

-- the words of so many shards, added up
abbrev pub shards_sum : {T : Type 0} → Mem T → ℕ → ℕ → ℕ
shards_sum m counter shards = total number_in (λ shard. word_at m (Word counter shard)) shards

-- the shards say how many pairs the map has
abbrev pub IsCounted : {K T : Type 0} → Setting → Mem T → Chart K → Type 0
IsCounted setting m c = shards_sum m setting.counter (suc setting.mask) % 2 ^ 64 ≡ pairs_in c

-- what a counting of the shards will come to, or came to
abbrev pub count_ahead : {T : Type 0} → Setting → Mem T → Summing → ℕ
count_ahead setting m (sums.Adds shard so_far) =
    count_in ((so_far + (shards_sum m setting.counter (suc setting.mask) - shards_sum m setting.counter shard)) % 2 ^ 64)
count_ahead setting m (sums.Over count) = count
