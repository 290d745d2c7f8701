-- Each step that waits.
use Rattle.owner_whole.proofs.Lowers.Waits.{steps_wait}
use Rattle.owner_whole.proofs.law.lowers.steps_wait_for_a_reason.Goals as goal

pub returns : goal.returns
returns c d = record { waits = steps_wait _ }
