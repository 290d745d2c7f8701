-- What the laws promise, clause by clause, for the crates above.
use Rattle.std.proofs.Common.{ℕ, Bool}
use Rattle.map_tables.specs.declared.setting.Setting.{Setting}
use Rattle.map_measures.specs.Waits.Promises.{CallsWaitForACopying, RoomsWaitForACopying, SweepsWaitForACopying, LookupsNeverWait, CallRowsWaitForAHolder, RoomRowsWaitForAHolder, SweepRowsWaitForAHolder}
use Rattle.map_measures.proofs.Waits.Promised as promised
use Rattle.map_measures.proofs.Waits.RowsPromised as rows

module _ {K Q : Type 0} (V : Type 0) (same : K → K → Bool) (hash : K → ℕ) (asks : Q → K → Bool) where
  pub lookups_never_wait : LookupsNeverWait V same hash asks
  lookups_never_wait = promised.lookups_never_wait V same hash asks

  module _ (setting : Setting) (slot : ℕ → ℕ) where
    pub calls_wait_for_a_copying : CallsWaitForACopying V same hash asks setting slot
    calls_wait_for_a_copying = promised.calls_wait_for_a_copying V same hash asks setting slot

    pub rooms_wait_for_a_copying : RoomsWaitForACopying V same hash asks setting slot
    rooms_wait_for_a_copying = promised.rooms_wait_for_a_copying V same hash asks setting slot

    pub call_rows_wait_for_a_holder : CallRowsWaitForAHolder V same hash asks setting slot
    call_rows_wait_for_a_holder = rows.call_rows_wait_for_a_holder V same hash asks setting slot

    pub room_rows_wait_for_a_holder : RoomRowsWaitForAHolder V same hash asks setting slot
    room_rows_wait_for_a_holder = rows.room_rows_wait_for_a_holder V same hash asks setting slot

module _ {K : Type 0} (V : Type 0) (same : K → K → Bool) (hash : K → ℕ) where
  pub sweeps_wait_for_a_copying : SweepsWaitForACopying V same hash
  sweeps_wait_for_a_copying = promised.sweeps_wait_for_a_copying V same hash

  pub sweep_rows_wait_for_a_holder : (slot : ℕ → ℕ) → SweepRowsWaitForAHolder V hash slot
  sweep_rows_wait_for_a_holder slot = rows.sweep_rows_wait_for_a_holder V hash slot
