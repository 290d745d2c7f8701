-- What the laws promise, clause by clause, for the crates above.
use Rattle.std.proofs.Common.{ℕ, Bool}
use Rattle.map_measures.specs.Falls.Falls.{CallsFall, SupersededCallsFall, RowsFall}
use Rattle.map_measures.specs.Falls.FallsReserves.{ReservesFall, SupersededReservesFall}
use Rattle.map_measures.specs.Falls.FallsWithin.{CopiersFall, BlockingCopiersFall, SupersededCopiersFall}
use Rattle.map_measures.proofs.Falls.Calls.CopiersPromised as copiers
use Rattle.map_measures.proofs.Falls.Calls.Promised as promised
use Rattle.map_measures.proofs.Falls.Reserves.Promised as reserves

module _ {K Q : Type 0} (V : Type 0) (same : K → K → Bool) (hash : K → ℕ) (asks : Q → K → Bool) where
  pub calls_fall : CallsFall V same hash asks
  calls_fall = promised.calls_fall V same hash asks

  pub late_calls_fall : SupersededCallsFall V same hash asks
  late_calls_fall = promised.late_calls_fall V same hash asks

  pub rows_fall : RowsFall V same hash asks
  rows_fall = promised.rows_fall V same hash asks

module _ {K : Type 0} (V : Type 0) (same : K → K → Bool) (hash : K → ℕ) where
  pub copiers_fall : CopiersFall V same hash
  copiers_fall = copiers.copiers_fall V same hash

  pub blocking_copiers_fall : BlockingCopiersFall V same hash
  blocking_copiers_fall = copiers.blocking_copiers_fall V same hash

  pub late_copiers_fall : SupersededCopiersFall V same hash
  late_copiers_fall = copiers.late_copiers_fall V same hash

  pub reserves_fall : ReservesFall V same hash
  reserves_fall = reserves.reserves_fall V same hash

  pub late_reserves_fall : SupersededReservesFall V same hash
  late_reserves_fall = reserves.late_reserves_fall V same hash
