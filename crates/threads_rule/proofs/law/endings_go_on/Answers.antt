use Rattle.threads_rule.proofs.Views.EndBegins.{endings_begin}
use Rattle.threads_rule.proofs.Views.Endings.{endings_go_on, endings_are_shown}
use Rattle.threads_rule.proofs.Views.Loans.{loans_begin, loans_end}
use Rattle.threads_rule.proofs.law.endings_go_on.Goals as goal

pub returns-clause-begin : goal.returns-clause-begin
returns-clause-begin g c = endings_begin _

pub returns-clause-on : goal.returns-clause-on
returns-clause-on g c = endings_go_on _

pub returns-clause-shown : goal.returns-clause-shown
returns-clause-shown g c = endings_are_shown _

pub returns-clause-lent : goal.returns-clause-lent
returns-clause-lent g c = loans_begin _

pub returns-clause-back : goal.returns-clause-back
returns-clause-back g c = loans_end _
