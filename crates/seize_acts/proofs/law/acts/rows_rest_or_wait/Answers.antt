use Rattle.seize_acts.proofs.Acts.Among.{rows_rest_or_wait, rows_fall}
use Rattle.seize_acts.proofs.law.acts.rows_rest_or_wait.Goals as goal

pub returns : goal.returns
returns c d = record { rests = rows_rest_or_wait; falls = rows_fall }
