use Rattle.seize_acts.proofs.Acts.Ends.{lone_rows_end}
use Rattle.seize_acts.proofs.law.acts.lone_rows_end.Goals as goal

pub returns : goal.returns
returns c d = record { ends = lone_rows_end }
