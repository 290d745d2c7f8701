-- The count of a map's pairs as its shards say it.
use Rattle.std.specs.Prelude.{ℕ, ◌-◌, ◌^◌, ◌==◌, nat_lt, bit_and, if◌then◌else◌}
use Rattle.seize_words.specs.declared.at.At.{At}
use Rattle.seize_words.specs.declared.at.At.TheVariants.{Word}
use Rattle.map_tables.specs.declared.setting.Setting.{Setting}

-- a word read as a number with a sign, and 0 where that is negative
abbrev pub count_in : ℕ → ℕ
count_in word = if nat_lt word (2 ^ 63) then word else 0

-- the shard in which a call counts: that of its slot
abbrev pub shard_of : Setting → At
shard_of setting = Word setting.counter (bit_and setting.slot setting.mask)

-- one pair more where none was removed, else one less
abbrev pub count_change : ℕ → ℕ
count_change removed = if removed == 0 then 1 else 2 ^ 64 - 1
