-- The numbers that each step of a reservation lowers that goes on, whatever other callers do.
use Rattle.std.specs.Prelude.{ℕ, suc, ◌-◌, Bool, cond, List, ◌∷◌}
use Rattle.map_tables.specs.Chunks.{is_incremental}
use Rattle.map_machines.specs.declared.copier.Copier.{Copier}
use Rattle.map_sweeps.specs.declared.reserve.Reserve.{Reserve}
use Rattle.map_sweeps.specs.declared.reserve.Reserving.{Reserving}
use Rattle.map_sweeps.specs.declared.reserve.Reserving.TheVariants as at
use Rattle.many_calls.specs.Given.RuleChart.{Chart}
use Rattle.many_calls.specs.Given.RuleWords.{Blocks}
use Rattle.many_calls.specs.Given.PointsMeasuresTables.{number_of_new_table, number_of_sum}
use Rattle.map_measures.specs.Falls.Room.{planned, planned_in_copying, tables_to_come}
use Rattle.map_measures.specs.Falls.Calls.{nothing_within, one_of_eight, two_of_eight}
use Rattle.map_measures.specs.Falls.Copies.{number_of_copier}
use Rattle.map_measures.specs.Falls.CopiesBlocking.{number_of_copier_blocking}

-- the turn of the table that is being made within it
abbrev pub planned_in_reserve : Reserving → ℕ
planned_in_reserve (at.Makes making) = planned making.stands
planned_in_reserve (at.Grows table making) = planned making.stands
planned_in_reserve (at.Copies copier) = planned_in_copying copier.stands
planned_in_reserve _ = 0

module _ {K : Type 0} (incremental : Bool) (c : Chart K) (blocks : Blocks) where
  -- of its copier
  abbrev pub number_within : Copier → List ℕ
  number_within copier = cond incremental (number_of_copier c blocks copier) (number_of_copier_blocking c blocks copier)

  -- at its table: the tables from that one on, how far it is there, and the machine within it
  abbrev pub number_here : Reserving → List ℕ
  number_here at.Reads = suc c.past ∷ 3 ∷ nothing_within
  number_here (at.Makes making) = suc c.past ∷ 2 ∷ two_of_eight (number_of_new_table making)
  number_here (at.Copies copier) = (c.past - copier.target.turn) ∷ 4 ∷ number_within copier
  number_here (at.Sums table sum) = (c.past - table.turn) ∷ 3 ∷ one_of_eight (number_of_sum sum)
  number_here (at.Follows table need) = (c.past - table.turn) ∷ 2 ∷ nothing_within
  number_here (at.Grows table making) = (c.past - table.turn) ∷ 1 ∷ two_of_eight (number_of_new_table making)
  number_here at.Over = 0 ∷ 0 ∷ nothing_within
  number_here (at.Refused fault) = 0 ∷ 0 ∷ nothing_within

  -- and before that the tables that can still be linked
  abbrev pub numbers_at : Reserving → List ℕ
  numbers_at spot = tables_to_come c.past (planned_in_reserve spot) ∷ number_here spot

-- by the mode of its map
abbrev pub number_of_reserve : {K : Type 0} → Chart K → Blocks → Reserve → List ℕ
number_of_reserve c blocks p = numbers_at (is_incremental p.setting.mode) c blocks p.stands
