-- Each block that the next step looks at, whatever it is one of.
use Rattle.many_acts.proofs.Looks.There.{steps_there}
use Rattle.many_acts.proofs.law.looks.all_steps_look_at_what_is_there.Goals as goal

pub returns : goal.returns
returns c d = record { there = steps_there _ }
