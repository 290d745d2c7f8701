-- The run may go to another thread.
use denote.Param.Send.{sendable}
use Rattle.std.proofs.Crossing.{crosses}
use Rattle.papaya_steps.proofs.Steps.Sent.{scheduled_send}
use Rattle.run_tests.proofs.crews.two.Goals as goal

pub by_two-requires-send-R : goal.by_two-requires-send-R
by_two-requires-send-R g c κs within = search (sendable, crosses, scheduled_send) depth 20
