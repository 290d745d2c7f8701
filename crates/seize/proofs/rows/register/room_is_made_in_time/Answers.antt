use Rattle.seize.proofs.Beginnings.{needs_enough, needs_the_next}
use Rattle.seize.proofs.rows.register.room_is_made_in_time.Goals as goal

pub returns-clause-enough : goal.returns-clause-enough
returns-clause-enough c = needs_enough

pub returns-clause-next : goal.returns-clause-next
returns-clause-next c = needs_the_next
