-- How far a counting, and a making of a table, are from their ends.
use Rattle.std.specs.Prelude.{ℕ, suc, ◌-◌, List, [], ◌∷◌}
use Rattle.map_rule.specs.Given.ResizeDeclared.sum.Sum.{Sum}
use Rattle.map_rule.specs.Given.ResizeDeclared.sum.Summing.{Summing}
use Rattle.map_rule.specs.Given.ResizeDeclared.sum.Summing.TheVariants as sums
use Rattle.map_rule.specs.Given.ResizeDeclared.new_table.NewTable.{NewTable}
use Rattle.map_rule.specs.Given.ResizeDeclared.new_table.Making.{Making}
use Rattle.map_rule.specs.Given.ResizeDeclared.new_table.Making.TheVariants as at

-- how many shards are still to be read, up to the last one
abbrev pub shards_left : ℕ → Summing → ℕ
shards_left last (sums.Adds shard total) = suc (last - shard)
shards_left last (sums.Over count) = 0

-- the number of a counting
abbrev pub number_of_sum : Sum → List ℕ
number_of_sum sum = shards_left sum.setting.mask sum.stands ∷ []

-- the points of a making, and at its first the shards
abbrev pub number_at_making : Making → List ℕ
number_at_making (at.Sums before reason sum) = 5 ∷ number_of_sum sum
number_at_making (at.Makes table) = 4 ∷ 0 ∷ []
number_at_making (at.Promotes table) = 3 ∷ 0 ∷ []
number_at_making (at.Links table) = 2 ∷ 0 ∷ []
number_at_making (at.Drops table found) = 1 ∷ 0 ∷ []
number_at_making (at.Over table) = 0 ∷ 0 ∷ []
number_at_making (at.Refused fault) = 0 ∷ 0 ∷ []

-- the numbers of a making of a table
abbrev pub number_of_new_table : NewTable → List ℕ
number_of_new_table n = number_at_making n.stands
