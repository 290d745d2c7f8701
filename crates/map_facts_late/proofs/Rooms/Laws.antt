-- What the laws promise, clause by clause, for the crates above.
use Rattle.std.proofs.Common.{ℕ, Bool}
use Rattle.map_facts_late.specs.StepsReserves.{ReservesBegin, ReservesPreserveTheMap}
use Rattle.map_facts_late.specs.LastsReserves.{SupersededReservesPreserveTheMap, ReservesKnowOn}
use Rattle.map_facts_late.proofs.Rooms.Lasts.Reserves as lasts
use Rattle.map_facts_late.proofs.Rooms.Late.Points as late
use Rattle.map_facts_late.proofs.Rooms.Reserves.Promised as promised

module _ {K : Type 0} (V : Type 0) (same : K → K → Bool) (hash : K → ℕ) where
  pub reserves_begin : ReservesBegin V same hash
  reserves_begin = promised.reserves_begin V same hash

  pub reserves_keep_the_map : ReservesPreserveTheMap V same hash
  reserves_keep_the_map = promised.reserves_keep_the_map V same hash

  pub late_reserves_keep_the_map : SupersededReservesPreserveTheMap V same hash
  late_reserves_keep_the_map = late.late_reserves_keep_the_map V same hash

  pub reserves_know_on : ReservesKnowOn V same hash
  reserves_know_on = lasts.reserves_know_on V same hash
