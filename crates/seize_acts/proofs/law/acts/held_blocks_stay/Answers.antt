use Rattle.seize_acts.proofs.Acts.Stays.{held_are_there, held_stay}
use Rattle.seize_acts.proofs.law.acts.held_blocks_stay.Goals as goal

pub returns-clause-there : goal.returns-clause-there
returns-clause-there c d = held_are_there

pub returns-clause-stay : goal.returns-clause-stay
returns-clause-stay c d = held_stay
