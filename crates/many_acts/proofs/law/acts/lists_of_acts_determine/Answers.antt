-- Acts of any number of callers, one by one and as lists.
use Rattle.many_acts.proofs.Acts.Agree.{courses_agree}
use Rattle.many_acts.proofs.Acts.Lists.{steps_are_acts, lists_determine}
use Rattle.many_acts.proofs.law.acts.lists_of_acts_determine.Goals as goal

pub returns : goal.returns
returns c d = record { steps = steps_are_acts; determined = lists_determine; agree = courses_agree _ }
