-- A reservation always has as many numbers.
use Rattle.std.proofs.Common.{◌≡◌, Bool, length, rules}
use Rattle.map_tables.specs.Chunks.{is_incremental}
use Rattle.map_sweeps.specs.declared.reserve.Reserving.{Reserving}
use Rattle.many_calls.specs.Given.RuleChart.{Chart}
use Rattle.many_calls.specs.Given.RuleWords.{Blocks}
use Rattle.map_measures.specs.Falls.FallsReserves.{ReserveNumbersAreAsMany}
use Rattle.map_measures.specs.Falls.Reserves.{numbers_at}

eleven : {K : Type 0} (incremental : Bool) (c : Chart K) (blocks : Blocks) (spot : Reserving) → length (numbers_at incremental c blocks spot) ≡ 11
eleven incremental c blocks spot = search rules

pub reserve_numbers_are_as_many : {K : Type 0} → ReserveNumbersAreAsMany K
reserve_numbers_are_as_many c blocks p = eleven (is_incremental p.setting.mode) c blocks p.stands
