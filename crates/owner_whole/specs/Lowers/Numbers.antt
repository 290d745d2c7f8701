-- The numbers of a call under way, whichever it is, as its machine, its map's tables and the memory tell them.
use Rattle.std.specs.Prelude.{ℕ, List, [], ◌∷◌, ◌++◌}
use Rattle.seize_words.specs.OneMemory.Mem.{Mem}
use Rattle.seize.specs.World.{Row, Rests}
use Rattle.map_tables.specs.declared.node.Node.{Node}
use Rattle.papaya_raw.specs.declared.machines.machine.Machine.{Machine}
use Rattle.papaya_raw.specs.declared.machines.machine.Machine.TheVariants as kinds
use Rattle.map_measures.specs.Given.PointsMeasuresTables.{number_of_sum}
use Rattle.owner_facts.specs.Given.CallersOverAll.{row_of_sweep}
use Rattle.owner_facts.specs.Given.CallersRooms.{row_of_room}
use Rattle.map_measures.specs.Given.CallersRows.{row_of}
use Rattle.owner_facts.specs.Given.FinishesMaps.{Standing}
use Rattle.map_measures.specs.Falls.Calls.{number_of_call}
use Rattle.map_measures.specs.Falls.Reserves.{number_of_reserve}
use Rattle.map_measures.specs.Passes.Sweeps.{number_of_sweep}

module _ {K V Q : Type 0} where
  -- the row of the collector that a machine stands at, within the section of this slot
  abbrev pub row_within : ℕ → Machine K V Q → Row
  row_within slot (kinds.Key call) = row_of slot call.stands
  row_within slot (kinds.Reserve reserve) = row_of_room reserve.stands
  row_within slot (kinds.Sweep sweep) = row_of_sweep slot sweep.stands
  row_within slot (kinds.Count sum) = Rests

  -- the numbers of a machine but for its row, on a map that stands
  abbrev pub numbers_but_row : Standing K → Machine K V Q → List ℕ
  numbers_but_row s (kinds.Key call) = number_of_call s.hash s.chart s.blocks call
  numbers_but_row s (kinds.Reserve reserve) = number_of_reserve s.chart s.blocks reserve
  numbers_but_row s (kinds.Sweep sweep) = number_of_sweep s.hash s.chart s.blocks sweep
  numbers_but_row s (kinds.Count sum) = number_of_sum sum

  -- With them, what the row has left to do.
  abbrev pub numbers_of : (Mem (Node K V) → Row → ℕ) → ℕ → Standing K → Mem (Node K V) → Machine K V Q → List ℕ
  numbers_of left slot s m machine = numbers_but_row s machine ++ (left m (row_within slot machine) ∷ [])
