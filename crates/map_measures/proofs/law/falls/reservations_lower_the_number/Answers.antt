-- Each step of a reservation, and of the rows within it.
use Rattle.map_measures.proofs.Falls.Laws.{reserves_fall, late_reserves_fall}
use Rattle.map_measures.proofs.law.falls.reservations_lower_the_number.Goals as goal
use Rattle.map_measures.proofs.Falls.Reserves.Lengths.{reserve_numbers_are_as_many}
use Rattle.map_measures.proofs.Falls.Reserves.Rows.{reserve_rows_fall}

pub returns : goal.returns
returns c d = record { steps = reserves_fall _; late = late_reserves_fall _; rows = reserve_rows_fall; many = reserve_numbers_are_as_many }
