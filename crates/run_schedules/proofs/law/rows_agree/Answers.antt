use Rattle.run_schedules.proofs.Schedules.Rows.{rows_agree}
use Rattle.run_schedules.proofs.law.rows_agree.Goals as goal

pub returns : goal.returns
returns g c = λ eq. rows_agree eq
