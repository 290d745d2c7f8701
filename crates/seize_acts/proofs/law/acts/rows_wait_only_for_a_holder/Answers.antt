use Rattle.seize_acts.proofs.Acts.Waits.{rows_wait_for_a_holder, settling_waits_for_a_holder, deferring_never_waits}
use Rattle.seize_acts.proofs.law.acts.rows_wait_only_for_a_holder.Goals as goal

pub returns : goal.returns
returns c d = record { waits = rows_wait_for_a_holder; settles = settling_waits_for_a_holder; defers = deferring_never_waits }
