use Rattle.threads_rule.proofs.Views.Makings.{makings_begin, makings_go_on}
use Rattle.threads_rule.proofs.law.makings_go_on.Goals as goal

pub returns-clause-begin : goal.returns-clause-begin
returns-clause-begin g c = makings_begin _

pub returns-clause-on : goal.returns-clause-on
returns-clause-on g c = makings_go_on _
