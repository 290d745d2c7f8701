-- What a step that may be taken looks at.
use Rattle.many_acts.proofs.Looks.There.{blocks_there, words_there}
use Rattle.many_acts.proofs.law.looks.steps_look_at_what_is_there.Goals as goal

pub returns : goal.returns
returns c d = record { blocks = blocks_there _ _; words = words_there _ _ }
