-- Which block a machine has made and not linked: that of a table.
use Rattle.std.specs.Prelude.{◌≡◌, ℕ, ◌/◌}
use Rattle.papaya_raw.specs.declared.machines.call.Calling.{Calling}
use Rattle.papaya_raw.specs.declared.machines.call.Calling.TheVariants as at
use Rattle.map_rule.specs.Given.ResizeDeclared.copier.Copying.{Copying}
use Rattle.map_rule.specs.Given.ResizeDeclared.copier.Copying.TheVariants as copies
use Rattle.map_rule.specs.Given.ResizeDeclared.new_table.Making.{Making}
use Rattle.map_rule.specs.Given.ResizeDeclared.new_table.Making.TheVariants as makes

-- the block of the table that a making has made and not linked
abbrev pub IsMadeBy : Making → ℕ → Type 0
IsMadeBy (makes.Promotes table) b = b ≡ table.link / 2048
IsMadeBy (makes.Links table) b = b ≡ table.link / 2048
IsMadeBy (makes.Drops table found) b = b ≡ table.link / 2048
IsMadeBy _ b = ⊥

-- that of a copier
abbrev pub IsMadeByCopier : Copying → ℕ → Type 0
IsMadeByCopier (copies.Grows word code making) b = IsMadeBy making.stands b
IsMadeByCopier (copies.Remakes making) b = IsMadeBy making.stands b
IsMadeByCopier _ b = ⊥

-- and that of a call, by the machine that is inside it
abbrev pub IsMadeByCall : Calling → ℕ → Type 0
IsMadeByCall (at.Firsts making) b = IsMadeBy making.stands b
IsMadeByCall (at.Allocs making) b = IsMadeBy making.stands b
IsMadeByCall (at.Helps copier goal) b = IsMadeByCopier copier.stands b
IsMadeByCall (at.Copies copier) b = IsMadeByCopier copier.stands b
IsMadeByCall _ b = ⊥
