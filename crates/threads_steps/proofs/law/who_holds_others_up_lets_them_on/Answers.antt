-- Who holds others up, by the points of a copying.
use Rattle.threads_steps.proofs.Holders.{holders_let_on}
use Rattle.threads_steps.proofs.law.who_holds_others_up_lets_them_on.Goals as goal

pub returns : goal.returns
returns c d = holders_let_on _
