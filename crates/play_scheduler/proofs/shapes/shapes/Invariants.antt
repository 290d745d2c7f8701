-- Those that were shown are the tables that were passed.
use Rattle.std.specs.Prelude.{◌-◌, ◌^◌, ℕ, Bool, List, length, map}
use Rattle.std.proofs.Common.{◌≡◌}
use Rattle.papaya_raw.specs.Given.TablesDeclared.table.Table.{Table}
use Rattle.map_straight.specs.Given.RuleChart.{Chart}
use Rattle.map_straight.specs.Given.RuleWords.{Blocks}
use Rattle.map_straight.specs.Shown.Shown.{HasMap}
use Rattle.map_straight.proofs.Shown.Chain.{Walked}
use Rattle.play_scheduler.specs.Shapes.{shape_of}
use Rattle.play_scheduler.proofs.shapes.shapes.Given as goal

abbrev pub invariant-loop-next : goal.invariant-loop-next
invariant-loop-next g l =
    (same : g.row.K.Denot → g.row.K.Denot → Bool) (hash : g.row.K.Denot → ℕ) (c : Chart g.row.K.Denot) (blocks : Blocks)
    → HasMap {K = g.row.K.Denot} {V = g.row.V.Denot} same hash l.memory l.setting c blocks
    → (tables : List Table) × Walked c blocks l.next tables × (l.shapes.items ≡ map shape_of tables)

-- each table is one more in the list
abbrev pub decreases-loop-next : goal.decreases-loop-next
decreases-loop-next g l = 2 ^ 64 - length l.shapes.items
