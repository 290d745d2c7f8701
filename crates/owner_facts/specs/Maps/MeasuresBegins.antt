-- How far the beginning of a map is from its end.
use Rattle.std.specs.Prelude.{ℕ, ◌+◌, ◌-◌}
use Rattle.many_maps.specs.Given.ResizeDeclared.new_table.Making.{Making}
use Rattle.many_maps.specs.Given.ResizeDeclared.new_table.Making.TheVariants as makes
use Rattle.many_maps.specs.Given.ResizeDeclared.new_map.NewMap.{NewMap}
use Rattle.many_maps.specs.Given.ResizeDeclared.new_map.Opening.{Opening}
use Rattle.many_maps.specs.Given.ResizeDeclared.new_map.Opening.TheVariants as at
use Rattle.many_maps.specs.Given.PointsMeasuresTables.{shards_left}

-- how many steps a making of a table still takes at most, and at its first point one for each shard
abbrev pub making_left : Making → ℕ
making_left (makes.Sums before reason sum) = 5 + shards_left sum.setting.mask sum.stands
making_left (makes.Makes table) = 4
making_left (makes.Promotes table) = 3
making_left (makes.Links table) = 2
making_left (makes.Drops table found) = 1
making_left (makes.Over table) = 0
making_left (makes.Refused fault) = 0

-- from this root on, of so many
abbrev pub opening_left : ℕ → ℕ → Opening → ℕ
opening_left roots root at.Takes = 9 + (roots - root)
opening_left roots root at.Shards = 8
opening_left roots root (at.Tables making) = 3 + making_left making.stands
opening_left roots root (at.Unmakes fault) = 2
opening_left roots root (at.Frees fault) = 1
opening_left roots root at.Over = 0
opening_left roots root (at.Refused fault) = 0

-- the number of the beginning of a map
abbrev pub new_map_left : NewMap → ℕ
new_map_left n = opening_left n.roots n.setting.root n.stands
