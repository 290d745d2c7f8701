-- What countings of pairs come to.
use Rattle.many_acts.proofs.Acts.Counts.{countings_add_up, countings_answer}
use Rattle.many_acts.proofs.law.acts.countings_answer_the_sum.Goals as goal

pub returns : goal.returns
returns c d = record { adds = countings_add_up; answers = countings_answer }
