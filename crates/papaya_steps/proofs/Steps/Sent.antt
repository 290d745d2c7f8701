-- A run may go to another thread where its keys, values and hasher may: nothing of its memory is tied to one.
use denote.Param.Send.{IsSend, sendable}
use denote.Param.SendFields.{as_row_send, declared_send, variants_send}
use denote.RattleType.{RattleType}
use denote.Hole.{as_row}
use denote.Struct.Field.{row_field}
use Rattle.std.proofs.Crossing.{crosses}
use Rattle.std.proofs.MapsCrossing as maps
use Rattle.seize_words.specs.contracts.piece.Piece as Piece
use Rattle.seize_words.specs.contracts.plain.Plain as Plain
use Rattle.seize_words.proofs.OneMemory.Sent.{frame_send, slots_send}
use Rattle.map_tables.specs.contracts.node.Node as Node
use Rattle.map_tables.specs.contracts.resize_mode.ResizeMode as ResizeMode
use Rattle.map_tables.specs.contracts.setting.Setting as Setting
use Rattle.papaya_raw.specs.contracts.machines.answer.There as There
use Rattle.papaya_raw.specs.contracts.machines.answer.Missing as Missing
use Rattle.papaya_raw.specs.contracts.machines.asking.Takes as Takes
use Rattle.papaya_raw.specs.contracts.machines.asking.Told as Told
use Rattle.papaya_raw.specs.contracts.machines.asking.Replies as Replies
use Rattle.map_tables.specs.contracts.table.Table as Table
use Rattle.map_tables.specs.contracts.probe.Probe as Probe
use Rattle.map_tables.specs.contracts.trial.Trial as Trial
use Rattle.papaya_raw.specs.Given.ResizeContracts.lookup.Looking as Looking
use Rattle.papaya_raw.specs.Given.ResizeContracts.lookup.Lookup as Lookup
use Rattle.seize_words.specs.contracts.at.At as At
use Rattle.map_tables.specs.contracts.lengths.Reason as Reason
use Rattle.papaya_raw.specs.Given.ResizeContracts.sum.Summing as Summing
use Rattle.papaya_raw.specs.Given.ResizeContracts.sum.Sum as Sum
use Rattle.seize_words.specs.contracts.fault.Fault as Fault
use Rattle.papaya_raw.specs.Given.ResizeContracts.new_table.Making as Making
use Rattle.papaya_raw.specs.Given.ResizeContracts.new_table.NewTable as NewTable
use Rattle.seize.specs.contracts.rows.settle.Settling as Settling
use Rattle.seize.specs.contracts.rows.settle.Settle as Settle
use Rattle.papaya_raw.specs.Given.ResizeContracts.copier.Copying as Copying
use Rattle.papaya_raw.specs.Given.ResizeContracts.copier.Copier as Copier
use Rattle.papaya_raw.specs.contracts.machines.asking.Gap as Gap
use Rattle.papaya_raw.specs.contracts.machines.asking.Asking as Asking
use Rattle.seize.specs.contracts.rows.defer.Deferring as Deferring
use Rattle.seize.specs.contracts.rows.defer.Defer as Defer
use Rattle.papaya_raw.specs.Given.ResizeContracts.dispose.Disposing as Disposing
use Rattle.papaya_raw.specs.Given.ResizeContracts.dispose.Dispose as Dispose
use Rattle.papaya_raw.specs.contracts.machines.answer.KeyAnswer as KeyAnswer
use Rattle.papaya_raw.specs.contracts.machines.answer.End as End
use Rattle.papaya_raw.specs.contracts.machines.call.Calling as Calling
use Rattle.papaya_raw.specs.contracts.machines.call.KeyCall as KeyCall
use Rattle.papaya_raw.specs.Given.ReservesContracts.reserve.Reserving as Reserving
use Rattle.papaya_raw.specs.Given.ReservesContracts.reserve.Reserve as Reserve
use Rattle.papaya_raw.specs.Given.ReservesContracts.sweep.Purpose as Purpose
use Rattle.papaya_raw.specs.Given.ReservesContracts.sweep.Sweeping as Sweeping
use Rattle.papaya_raw.specs.Given.ReservesContracts.sweep.Sweep as Sweep
use Rattle.papaya_raw.specs.contracts.machines.machine.Machine as Machine
use Rattle.papaya_raw.specs.Given.ResizeContracts.new_map.Opening as Opening
use Rattle.papaya_raw.specs.Given.ResizeContracts.new_map.NewMap as NewMap
use Rattle.papaya_raw.specs.contracts.machines.end_map.Ending as Ending
use Rattle.papaya_raw.specs.contracts.machines.end_map.EndMap as EndMap
use Rattle.seize.specs.contracts.rows.register.Registering as Registering
use Rattle.seize.specs.contracts.rows.register.Register as Register
use Rattle.seize.specs.contracts.rows.enter.Enter as Enter
use Rattle.seize.specs.contracts.rows.leave.Leaving as Leaving
use Rattle.seize.specs.contracts.rows.leave.Leave as Leave
use Rattle.seize.specs.contracts.rows.enter.Unregister as Unregister
use Rattle.play_events.specs.Given.ScenesContracts.row.SlotRow as SlotRow
use Rattle.play_events.specs.Given.ExecutorContracts.worker.Work as Work
use Rattle.play_events.specs.Given.ExecutorContracts.worker.Worker as Worker
use Rattle.play_events.specs.Given.ScenesContracts.row.SlotUse as SlotUse
use Rattle.play_events.specs.Given.ExecutorContracts.executor.Executor as Executor
use Rattle.play_events.specs.Given.LoggedContracts.logged.Logged as Logged
use Rattle.run_schedules.specs.contracts.setup.Setup as Setup
use Rattle.play_events.specs.Given.SchedulerContracts.scheduler.Scheduler as Scheduler
use Rattle.run_schedules.specs.contracts.call.Response as Answer
use Rattle.run_schedules.specs.contracts.shapes.TableShape as TableShape
use Rattle.run_schedules.specs.contracts.outcome.Outcome as Outcome
use Rattle.run_schedules.specs.contracts.effect.Growth as Growth
use Rattle.run_schedules.specs.contracts.effect.TableId as RunTable
use Rattle.run_schedules.specs.contracts.effect.Spot as Spot
use Rattle.run_schedules.specs.contracts.effect.Thing as Thing
use Rattle.run_schedules.specs.contracts.effect.Effect as Effect
use Rattle.run_schedules.specs.contracts.shapes.Single as Single
use Rattle.papaya_steps.specs.contracts.record.Record as Record
use Rattle.run_schedules.specs.contracts.ended.Pair as Pair
use Rattle.papaya_steps.specs.contracts.running.Running as Running
use Rattle.papaya_steps.specs.contracts.scheduled.Scheduled as Scheduled

piece_send : (R : RattleType) → IsSend R → IsSend (Piece.the_row R)
piece_send R s = search (sendable, crosses, slots_send, frame_send) depth 20

plain_send : (R : RattleType) → IsSend R → IsSend (Plain.the_row R)
plain_send R s = search (sendable, crosses, piece_send) depth 40

resize_mode_send : IsSend ResizeMode.the_row
resize_mode_send = variants_send ResizeMode.enum ((search sendable, tt), (tt, tt))

setting_send : IsSend Setting.the_row
setting_send = declared_send Setting.the_type (search sendable, (search sendable, (search sendable, (resize_mode_send, (search sendable, (search sendable, (search sendable, tt)))))))

there_send : IsSend There.the_row
there_send = variants_send There.enum (tt, (tt, (tt, (tt, tt))))

missing_send : IsSend Missing.the_row
missing_send = variants_send Missing.enum (tt, (tt, (tt, tt)))

takes_send : IsSend Takes.the_row
takes_send = variants_send Takes.enum (tt, (tt, (tt, (tt, tt))))

table_send : IsSend Table.the_row
table_send = declared_send Table.the_type (search sendable, (search sendable, (search sendable, (search sendable, tt))))

probe_send : IsSend Probe.the_row
probe_send = declared_send Probe.the_type (search sendable, (search sendable, tt))

trial_send : IsSend Trial.the_row
trial_send = declared_send Trial.the_type (table_send, (probe_send, (search sendable, (search sendable, tt))))

looking_send : IsSend Looking.the_row
looking_send = variants_send Looking.enum (tt, ((trial_send, tt), ((table_send, tt), ((search (sendable, crosses, maps.crosses) depth 60 fits 20000, tt), tt))))

lookup_send : IsSend Lookup.the_row
lookup_send = declared_send Lookup.the_type (search sendable, (resize_mode_send, (search sendable, (looking_send, tt))))

at_send : IsSend At.the_row
at_send = variants_send At.enum ((search sendable, tt), ((search sendable, tt), ((search sendable, (search sendable, tt)), ((search sendable, (search sendable, tt)), ((search sendable, (search sendable, tt)), tt)))))

reason_send : IsSend Reason.the_row
reason_send = variants_send Reason.enum ((search sendable, (search sendable, tt)), ((search sendable, tt), (tt, tt)))

summing_send : IsSend Summing.the_row
summing_send = variants_send Summing.enum ((search sendable, (search sendable, tt)), ((search sendable, tt), tt))

sum_send : IsSend Sum.the_row
sum_send = declared_send Sum.the_type (setting_send, (summing_send, tt))

fault_send : IsSend Fault.the_row
fault_send = variants_send Fault.enum (tt, (tt, (tt, (tt, (tt, (tt, (tt, (tt, (tt, (tt, tt))))))))))

making_send : IsSend Making.the_row
making_send = variants_send Making.enum ((table_send, (reason_send, (sum_send, tt))), ((table_send, tt), ((table_send, tt), ((table_send, tt), ((table_send, (search sendable, tt)), ((table_send, tt), ((fault_send, tt), tt)))))))

new_table_send : IsSend NewTable.the_row
new_table_send = declared_send NewTable.the_type (setting_send, (at_send, (making_send, tt)))

settling_send : IsSend Settling.the_row
settling_send = variants_send Settling.enum (tt, (tt, (tt, ((search sendable, tt), ((search sendable, tt), ((search sendable, tt), ((search sendable, tt), ((search sendable, tt), ((search sendable, (search sendable, (search sendable, tt))), ((search sendable, (search sendable, (search sendable, tt))), ((search sendable, (search sendable, (search sendable, tt))), ((search sendable, tt), ((search sendable, (search sendable, (search sendable, tt))), ((search sendable, (search sendable, (search sendable, (search sendable, (search sendable, tt))))), ((search sendable, (search sendable, (search sendable, (search sendable, (search sendable, tt))))), ((search sendable, (search sendable, (search sendable, tt))), ((search sendable, tt), (tt, ((search sendable, (search sendable, tt)), ((search sendable, (search sendable, tt)), ((search sendable, tt), ((search sendable, tt), (tt, (tt, ((search sendable, tt), ((search sendable, (search sendable, tt)), (tt, (tt, tt))))))))))))))))))))))))))))

settle_send : IsSend Settle.the_row
settle_send = declared_send Settle.the_type (search sendable, (search sendable, (search sendable, (search sendable, (search sendable, (search sendable, (search sendable, (search sendable, (search sendable, (search sendable, (search sendable, (search sendable, (settling_send, tt)))))))))))))

copying_send : IsSend Copying.the_row
copying_send = variants_send Copying.enum (tt, (tt, (tt, (tt, (tt, (tt, ((search sendable, (search sendable, (table_send, (probe_send, tt)))), ((search sendable, (search sendable, (table_send, (probe_send, tt)))), ((search sendable, tt), ((search sendable, (search sendable, (table_send, tt))), ((search sendable, (search sendable, (new_table_send, tt))), (tt, (tt, ((new_table_send, tt), (tt, ((search sendable, (fault_send, tt)), ((search sendable, (fault_send, tt)), ((fault_send, tt), (tt, (tt, ((search sendable, tt), ((settle_send, (search sendable, tt)), (tt, ((fault_send, tt), tt))))))))))))))))))))))))

copier_send : IsSend Copier.the_row
copier_send = declared_send Copier.the_type (setting_send, (search sendable, (table_send, (table_send, (search sendable, (search sendable, (search sendable, (search sendable, (copying_send, tt)))))))))

gap_send : IsSend Gap.the_row
gap_send = variants_send Gap.enum (tt, (tt, (tt, (tt, tt))))

asking_send : IsSend Asking.the_row
asking_send = variants_send Asking.enum ((gap_send, tt), ((search sendable, tt), ((search sendable, tt), ((search sendable, tt), tt))))

deferring_send : IsSend Deferring.the_row
deferring_send = variants_send Deferring.enum (tt, ((search sendable, tt), ((search sendable, tt), (tt, tt))))

defer_send : IsSend Defer.the_row
defer_send = declared_send Defer.the_type (search sendable, (at_send, (deferring_send, tt)))

disposing_send : IsSend Disposing.the_row
disposing_send = variants_send Disposing.enum ((settle_send, tt), (tt, ((search sendable, tt), ((defer_send, tt), (tt, tt)))))

dispose_send : IsSend Dispose.the_row
dispose_send = declared_send Dispose.the_type (setting_send, (search sendable, (table_send, (disposing_send, tt))))

key_answer_send : IsSend KeyAnswer.the_row
key_answer_send = variants_send KeyAnswer.enum (tt, ((search sendable, tt), ((search sendable, tt), ((search sendable, (search sendable, tt)), ((search sendable, tt), tt)))))

end_send : IsSend End.the_row
end_send = variants_send End.enum ((key_answer_send, tt), ((fault_send, tt), tt))

calling_send : IsSend Calling.the_row
calling_send = variants_send Calling.enum (tt, ((lookup_send, tt), (tt, (tt, ((search sendable, (search sendable, tt)), ((search sendable, tt), (tt, ((new_table_send, tt), ((new_table_send, tt), ((copier_send, (table_send, tt)), ((copier_send, tt), ((asking_send, tt), ((dispose_send, (key_answer_send, tt)), ((end_send, tt), ((end_send, tt), tt)))))))))))))))

reserving_send : IsSend Reserving.the_row
reserving_send = variants_send Reserving.enum (tt, ((new_table_send, tt), ((table_send, (sum_send, tt)), ((table_send, (search sendable, tt)), ((table_send, (new_table_send, tt)), ((copier_send, tt), (tt, ((fault_send, tt), tt))))))))

reserve_send : IsSend Reserve.the_row
reserve_send = declared_send Reserve.the_type (setting_send, (search sendable, (reserving_send, tt)))

purpose_send : IsSend Purpose.the_row
purpose_send = variants_send Purpose.enum (tt, (tt, (tt, tt)))

sweeping_send : IsSend Sweeping.the_row
sweeping_send = variants_send Sweeping.enum (tt, (tt, ((copier_send, tt), (tt, (tt, ((search sendable, tt), ((search sendable, tt), ((search sendable, tt), ((dispose_send, tt), (tt, ((fault_send, tt), tt)))))))))))

sweep_send : IsSend Sweep.the_row
sweep_send = declared_send Sweep.the_type (setting_send, (purpose_send, (table_send, (search sendable, (search sendable, (sweeping_send, tt))))))

opening_send : IsSend Opening.the_row
opening_send = variants_send Opening.enum (tt, (tt, ((new_table_send, tt), ((fault_send, tt), ((fault_send, tt), (tt, ((fault_send, tt), tt)))))))

new_map_send : IsSend NewMap.the_row
new_map_send = declared_send NewMap.the_type (setting_send, (search sendable, (search sendable, (opening_send, tt))))

ending_send : IsSend Ending.the_row
ending_send = variants_send Ending.enum (tt, (tt, ((search sendable, tt), (tt, (tt, ((search sendable, tt), ((search sendable, tt), ((search sendable, (search sendable, tt)), (tt, ((search sendable, tt), (tt, (tt, (tt, (tt, tt))))))))))))))

end_map_send : IsSend EndMap.the_row
end_map_send = declared_send EndMap.the_type (setting_send, (search sendable, (table_send, (table_send, (search sendable, (search sendable, (search sendable, (ending_send, tt))))))))

registering_send : IsSend Registering.the_row
registering_send = variants_send Registering.enum (tt, (tt, ((search sendable, (search sendable, tt)), ((search sendable, tt), (tt, (tt, ((fault_send, tt), tt)))))))

register_send : IsSend Register.the_row
register_send = declared_send Register.the_type (search sendable, (search sendable, (registering_send, tt)))

enter_send : IsSend Enter.the_row
enter_send = declared_send Enter.the_type (search sendable, tt)

leaving_send : IsSend Leaving.the_row
leaving_send = variants_send Leaving.enum (tt, ((settle_send, tt), (tt, (tt, tt))))

leave_send : IsSend Leave.the_row
leave_send = declared_send Leave.the_type (search sendable, (search sendable, (search sendable, (search sendable, (leaving_send, tt)))))

unregister_send : IsSend Unregister.the_row
unregister_send = declared_send Unregister.the_type (search sendable, tt)

slot_row_send : IsSend SlotRow.the_row
slot_row_send = variants_send SlotRow.enum ((register_send, tt), ((enter_send, tt), ((leave_send, tt), ((settle_send, tt), ((unregister_send, tt), tt)))))

slot_use_send : IsSend SlotUse.the_row
slot_use_send = variants_send SlotUse.enum (tt, (tt, (tt, (tt, tt))))

setup_send : IsSend Setup.the_row
setup_send = declared_send Setup.the_type (search sendable, (search sendable, (search sendable, tt)))

table_shape_send : IsSend TableShape.the_row
table_shape_send = declared_send TableShape.the_type (search sendable, (search sendable, tt))

growth_send : IsSend Growth.the_row
growth_send = variants_send Growth.enum (tt, (tt, tt))

run_table_send : IsSend RunTable.the_row
run_table_send = declared_send RunTable.the_type (search sendable, (search sendable, tt))

spot_send : IsSend Spot.the_row
spot_send = declared_send Spot.the_type (search sendable, (search sendable, tt))

thing_send : IsSend Thing.the_row
thing_send = variants_send Thing.enum ((search sendable, tt), ((run_table_send, tt), tt))

effect_send : IsSend Effect.the_row
effect_send = variants_send Effect.enum ((growth_send, tt), (tt, (tt, ((run_table_send, tt), ((run_table_send, tt), ((run_table_send, (table_shape_send, tt)), ((run_table_send, tt), ((search sendable, (spot_send, tt)), ((search sendable, (spot_send, tt)), ((search sendable, tt), ((search sendable, tt), ((search sendable, tt), ((search sendable, (run_table_send, tt)), ((thing_send, tt), ((thing_send, tt), ((search sendable, tt), ((run_table_send, tt), tt)))))))))))))))))

single_send : IsSend Single.the_row
single_send = variants_send Single.enum ((search sendable, tt), ((search sendable, tt), ((search sendable, (search sendable, tt)), tt)))

module _ (K V : RattleType) (k : IsSend K) (v : IsSend V) where
  key : IsSend (as_row (row_field K))
  key = as_row_send (row_field K) k

  value : IsSend (as_row (row_field V))
  value = as_row_send (row_field V) v

  node_send : IsSend (Node.the_row K V)
  node_send = variants_send (Node.enum K V) ((key, (value, tt)), ((search sendable, (search sendable, (search sendable, tt))), (tt, tt)))

  told_send : IsSend (Told.the_row V)
  told_send = variants_send (Told.enum V) (tt, ((value, tt), (tt, (tt, tt))))

  replies_send : IsSend (Replies.the_row K V)
  replies_send = declared_send (Replies.the_type K V) (takes_send, (search (sendable, crosses, maps.crosses) depth 60 fits 20000, (told_send, (search sendable, (told_send, tt)))))

  key_call_send : IsSend (KeyCall.the_row K V K)
  key_call_send = declared_send (KeyCall.the_type K V K) (setting_send, (search sendable, (there_send, (missing_send, (search (sendable, crosses, maps.crosses) depth 60 fits 20000, (search (sendable, crosses, maps.crosses, node_send) depth 60 fits 20000, (replies_send, (search sendable, (trial_send, (search sendable, (calling_send, tt)))))))))))

  machine_send : IsSend (Machine.the_row K V K)
  machine_send = variants_send (Machine.enum K V K) ((key_call_send, tt), ((reserve_send, tt), ((sweep_send, tt), ((sum_send, tt), tt))))

  work_send : IsSend (Work.the_row K V)
  work_send = variants_send (Work.enum K V) ((search sendable, (machine_send, tt)), ((search sendable, (new_map_send, tt)), ((end_map_send, tt), ((slot_row_send, tt), tt))))

  worker_send : IsSend (Worker.the_row K V)
  worker_send = declared_send (Worker.the_type K V) (search sendable, (work_send, tt))

  answer_send : IsSend (Answer.the_row V)
  answer_send = variants_send (Answer.enum V) (tt, ((search sendable, tt), ((search sendable, tt), ((search sendable, (value, tt)), ((search sendable, tt), ((search sendable, tt), ((search sendable, (search sendable, tt)), ((search sendable, tt), ((value, tt), (tt, ((search sendable, tt), tt)))))))))))

  outcome_send : IsSend (Outcome.the_row V)
  outcome_send = variants_send (Outcome.enum V) (tt, ((search sendable, tt), (tt, ((search (sendable, crosses, maps.crosses) depth 60 fits 20000, tt), (tt, (tt, ((search sendable, tt), ((answer_send, tt), ((search (sendable, crosses, maps.crosses, table_shape_send) depth 60 fits 20000, tt), ((fault_send, tt), tt))))))))))

  record_send : IsSend (Record.the_row V)
  record_send = declared_send (Record.the_type V) (search (sendable, crosses, maps.crosses, outcome_send) depth 60 fits 20000, (search (sendable, crosses, maps.crosses) depth 60 fits 20000, (search (sendable, crosses, maps.crosses, effect_send) depth 60 fits 20000, (search (sendable, crosses, maps.crosses, single_send) depth 60 fits 20000, tt))))

  pair_send : IsSend (Pair.the_row K V)
  pair_send = declared_send (Pair.the_type K V) (search sendable, (key, (value, tt)))

  module _ (S : RattleType) (s : IsSend S) where
    hasher : IsSend (as_row (row_field S))
    hasher = as_row_send (row_field S) s

    executor_send : IsSend (Executor.the_row K V S)
    executor_send = declared_send (Executor.the_type K V S) (search (sendable, crosses, maps.crosses, node_send, plain_send) depth 60 fits 20000, (hasher, (search sendable, (search sendable, (search (sendable, crosses, maps.crosses, setting_send) depth 60 fits 20000, (search (sendable, crosses, maps.crosses, worker_send) depth 60 fits 20000, (search (sendable, crosses, maps.crosses, slot_use_send) depth 60 fits 20000, tt)))))))

    logged_send : IsSend (Logged.the_row K V S)
    logged_send = declared_send (Logged.the_type K V S) (executor_send, (search (sendable, crosses, maps.crosses) depth 60 fits 20000, tt))

    scheduler_send : IsSend (Scheduler.the_row K V S)
    scheduler_send = declared_send (Scheduler.the_type K V S) (logged_send, (setup_send, (search (sendable, crosses, maps.crosses) depth 60 fits 20000, (search (sendable, crosses, maps.crosses) depth 60 fits 20000, (search (sendable, crosses, maps.crosses) depth 60 fits 20000, (search sendable, (search sendable, tt)))))))

    running_send : IsSend (Running.the_row K V S)
    running_send = declared_send (Running.the_type K V S) (scheduler_send, (search (sendable, crosses, maps.crosses) depth 60 fits 20000, (record_send, (search (sendable, crosses, maps.crosses, pair_send) depth 60 fits 20000, tt))))

pub scheduled_send : (K V S : RattleType) → IsSend K → IsSend V → IsSend S → IsSend (Scheduled.the_row K V S)
scheduled_send K V S k v s = declared_send (Scheduled.the_type K V S) (running_send K V k v S s, tt)
