-- A number that each step of the end of a map lowers that goes on, whatever others do.
use Rattle.std.specs.Prelude.{◌≡◌, ℕ, ◌-◌, false, List, [], ◌∷◌, length}
use Rattle.many_maps.specs.Given.SeizeWordsMem.{Mem}
use Rattle.many_maps.specs.Given.TablesDeclared.node.Node.{Node}
use Rattle.many_maps.specs.Given.RawDeclared.machines.end_map.EndMap.{EndMap}
use Rattle.many_maps.specs.Given.RawDeclared.machines.end_map.Ending.{Ending}
use Rattle.many_maps.specs.Given.RawDeclared.machines.end_map.Ending.TheVariants as at
use Rattle.owner_facts.specs.Maps.MeasuresEnds.{stage, steps_left}
use Rattle.many_maps.specs.Endings.{Finishing}
use Rattle.many_maps.specs.FactsEnds.{back_of}

-- the tables of a map from the one on that its end has come to
abbrev pub tables_ahead : ℕ → EndMap → Ending → ℕ
tables_ahead past e at.Words = past - e.table.turn
tables_ahead past e at.Nexts = past - e.table.turn
tables_ahead past e _ = 0

-- what is ahead until the next block is reclaimed: the point, the tables, and the places of a table, or the blocks of the list that waits
abbrev pub ahead : {T : Type 0} → ℕ → Mem T → EndMap → Ending → List ℕ
ahead past m e spot = stage spot ∷ tables_ahead past e spot ∷ steps_left m e spot ∷ []

-- of what is to be reclaimed, that much is still to be
abbrev pub blocks_ahead : {K V : Type 0} → Finishing K V → List ℕ → ℕ
blocks_ahead f back = length (back_of f.setting f.chart f.blocks (λ t. []) false) - length back

-- the number of an end: the blocks that are still to be reclaimed, and what is ahead until the next one is
abbrev pub number_of_ending : {K V : Type 0} → Finishing K V → Mem (Node K V) → List ℕ
number_of_ending f m = blocks_ahead f f.back ∷ ahead f.chart.past m f.machine f.machine.stands

-- an end always has as many numbers, so that its descents terminate
abbrev pub EndingNumbersAreAsMany : (K V : Type 0) → Type 0
EndingNumbersAreAsMany K V = (f : Finishing K V) (m : Mem (Node K V)) → length (number_of_ending f m) ≡ 4
