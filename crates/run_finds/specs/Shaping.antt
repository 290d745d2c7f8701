-- Which table the making of a call on one key makes: the first of its map, of 32 places; or the one after a table that is full, of a length by a count of the pairs.
use Rattle.std.specs.Prelude.{◌≡◌, ℕ}
use Rattle.run_blocks.specs.Given.TablesLengths.{next_len, next_limit}
use Rattle.run_blocks.specs.Given.TablesProbes.{limit_of}
use Rattle.run_blocks.specs.Given.TablesDeclared.lengths.Reason.{Reason}
use Rattle.run_blocks.specs.Given.TablesDeclared.lengths.Reason.TheVariants.{Full}
use Rattle.run_blocks.specs.Given.TablesDeclared.setting.Setting.{Setting}
use Rattle.run_blocks.specs.Given.TablesDeclared.table.Table.{Table}
use Rattle.run_blocks.specs.Given.ResizeDeclared.new_table.Making.{Making}
use Rattle.run_blocks.specs.Given.ResizeDeclared.new_table.Making.TheVariants as makes
use Rattle.run_blocks.specs.Given.ResizeDeclared.new_table.NewTable.{NewTable}
use Rattle.run_executor.specs.Given.SchedulesGrowing.{Has}

-- By the point of a making: the pairs are counted for such a table and reason, or the table that it makes, or has made and not linked, is such a one.
abbrev pub ShapedAt : (Table → Reason → Type 0) → (Table → Type 0) → Making → Type 0
ShapedAt Sums Is (makes.Sums before reason sum) = Sums before reason
ShapedAt Sums Is (makes.Makes table) = Is table
ShapedAt Sums Is (makes.Promotes table) = Is table
ShapedAt Sums Is (makes.Links table) = Is table
ShapedAt Sums Is (makes.Drops table found) = Is table
ShapedAt Sums Is _ = Unit {0}

-- the first table has 32 places, and no pairs are counted for it
abbrev pub IsFirstTable : Table → Type 0
IsFirstTable table = (table.len ≡ 32) × (table.limit ≡ limit_of table.len)

abbrev pub IsFirstMaking : NewTable → Type 0
IsFirstMaking n = ShapedAt (λ before reason. ⊥) IsFirstTable n.stands

-- a further one follows a table that is full, where the tries of the call met so many pairs
abbrev pub IsNextTable : Setting → Table → ℕ → Table → Type 0
IsNextTable setting before met table =
    (count most : ℕ) × Has (next_len (Full met most) before.len count setting.initial) table.len × (table.limit ≡ next_limit (Full met most) before.len before.limit table.len)

abbrev pub IsNextMaking : Setting → Table → ℕ → NewTable → Type 0
IsNextMaking setting before met n =
    (n.setting ≡ setting) × ShapedAt (λ b reason. (b ≡ before) × (most : ℕ) × (reason ≡ Full met most)) (IsNextTable setting before met) n.stands
