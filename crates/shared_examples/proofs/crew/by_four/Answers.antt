-- The run may go to another thread.
use denote.Param.Send.{sendable}
use Rattle.std.proofs.Crossing.{crosses}
use Rattle.papaya_steps.proofs.Steps.Sent.{scheduled_send}
use Rattle.shared_examples.proofs.crew.by_four.Goals as goal

pub drive-requires-send-R : goal.drive-requires-send-R
drive-requires-send-R g c κs within = search (sendable, crosses, scheduled_send) depth 20
