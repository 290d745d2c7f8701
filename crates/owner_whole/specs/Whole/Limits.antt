-- The last table of a map, where no table can follow it: for that alone a call that one owner runs is refused for the length of a table.
use Rattle.std.specs.Prelude.{◌≡◌, ◌⊎◌, ℕ, suc, ◌^◌, ◌<◌}
use Rattle.seize_words.specs.declared.fault.Fault.{Fault}
use Rattle.seize_words.specs.declared.fault.Fault.TheVariants.{Capacity}
use Rattle.map_tables.specs.Lengths.{CannotBeFollowed, GoesByTable}
use Rattle.map_tables.specs.declared.lengths.Reason.{Reason}
use Rattle.map_tables.specs.declared.table.Table.{Table}
use Rattle.papaya_raw.specs.Given.ReservesReserve.{needed}
use Rattle.map_measures.specs.Given.RuleChart.{Chart}

module _ {K : Type 0} (c : Chart K) where
  -- the last table of the map cannot be followed
  abbrev pub LastEnds : Type 0
  LastEnds = (t : ℕ) × (suc t ≡ c.past) × CannotBeFollowed (c.len t) t

  -- where the fault is the length of a table, it is for that
  abbrev pub IsForTheLast : Fault → Type 0
  IsForTheLast fault = fault ≡ Capacity → LastEnds

  -- or since so many further pairs need more places than a table can have, by themselves, or beside so many
  abbrev pub IsForRoom : ℕ → ℕ → Fault → Type 0
  IsForRoom additional count fault = fault ≡ Capacity → LastEnds ⊎ ((2 ^ 48 < needed additional 0) ⊎ (2 ^ 48 < needed additional count))

  -- the table is the last one, and another one is made behind it since it is full, or has no place
  abbrev pub IsTheLast : Table → Reason → Type 0
  IsTheLast before reason = GoesByTable reason × (suc before.turn ≡ c.past) × (before.len ≡ c.len before.turn)
