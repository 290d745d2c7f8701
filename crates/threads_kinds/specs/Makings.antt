-- How the making of a map of no table goes: where it stands until the map is there, how many steps there are still at most, and what stays as it was chosen.
use Rattle.std.specs.Prelude.{◌≡◌, ℕ, ◌+◌, ◌-◌, ◌<◌}
use Rattle.seize.specs.declared.advance.Advance.{Advance}
use Rattle.seize.specs.declared.advance.Advance.TheVariants as progress
use Rattle.map_tables.specs.declared.setting.Setting.{Setting}
use Rattle.map_machines.specs.declared.new_map.NewMap.{NewMap}
use Rattle.map_machines.specs.declared.new_map.Opening.{Opening}
use Rattle.map_machines.specs.declared.new_map.Opening.TheVariants.{Takes, Shards, Frees}

-- it has a root to take, or shards to make, or gives its root up
abbrev pub IsEarly : Opening → Type 0
IsEarly Takes = Unit {0}
IsEarly Shards = Unit {0}
IsEarly (Frees fault) = Unit {0}
IsEarly _ = ⊥

-- how many steps there are still at most, by the roots that are left
abbrev pub left_at : Opening → ℕ → ℕ
left_at Takes roots = roots + 3
left_at Shards roots = 2
left_at _ roots = 1

abbrev pub left_of : NewMap → ℕ
left_of c = left_at c.stands (c.roots - c.setting.root)

-- what was chosen of a setting: all but its root and its counter
abbrev pub chosen_of : Setting → Setting
chosen_of s = record s { root = 0; counter = 0 }

-- what was chosen stays so
abbrev pub StaysChosen : NewMap → NewMap → Advance Setting → Type 0
StaysChosen c d (progress.Done setting) = chosen_of setting ≡ chosen_of c.setting
StaysChosen c d _ = chosen_of d.setting ≡ chosen_of c.setting

-- fewer steps are left, where it goes on
abbrev pub GetsOn : NewMap → NewMap → Advance Setting → Type 0
GetsOn c d progress.Goes = left_of d < left_of c
GetsOn c d _ = Unit {0}
