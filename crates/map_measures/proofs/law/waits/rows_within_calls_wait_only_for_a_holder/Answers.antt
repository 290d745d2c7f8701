-- Each step of a row within a call, a reservation and a sweep that waits.
use Rattle.map_measures.proofs.Waits.RowsPromised.{call_rows_wait_for_a_holder, room_rows_wait_for_a_holder, sweep_rows_wait_for_a_holder}
use Rattle.map_measures.proofs.law.waits.rows_within_calls_wait_only_for_a_holder.Goals as goal

pub returns : goal.returns
returns c d = record { calls = call_rows_wait_for_a_holder _; rooms = room_rows_wait_for_a_holder _; sweeps = sweep_rows_wait_for_a_holder _ }
