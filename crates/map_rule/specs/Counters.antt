-- A map's counter: its maker has it until its map ends.
use Rattle.std.specs.Prelude.{◌≡◌, ℕ}
use Rattle.seize_rule.specs.Given.SeizeWorld.{World, Making}
use Rattle.map_machines.specs.Given.TablesDeclared.node.Node.{Node}
use Rattle.map_machines.specs.Given.TablesDeclared.setting.Setting.{Setting}

-- a counter that its caller made stays its own
abbrev pub SparesCounter : {K V : Type 0} → Setting → World (Node K V) → World (Node K V) → Type 0
SparesCounter setting w w2 = (j : ℕ) → w.hand setting.counter ≡ Making j → w2.hand setting.counter ≡ Making j
