use Rattle.seize_rule.proofs.World.Kept.{rows_sound, rows_may}
use Rattle.seize_rule.proofs.World.Bounded.{garbage_bounded}
use Rattle.seize_rule.proofs.law.rows_are_sound.Goals as goal

pub returns-clause-sound : goal.returns-clause-sound
returns-clause-sound c d = rows_sound

pub returns-clause-steps : goal.returns-clause-steps
returns-clause-steps c d = rows_may

pub returns-clause-bound : goal.returns-clause-bound
returns-clause-bound c d = garbage_bounded
