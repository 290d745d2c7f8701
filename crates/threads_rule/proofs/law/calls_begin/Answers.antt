use Rattle.threads_rule.proofs.Views.Begins.{calls_begin, calls_are_asked, calls_are_told}
use Rattle.threads_rule.proofs.Views.Handing.{maps_are_handed_on}
use Rattle.threads_rule.proofs.law.calls_begin.Goals as goal

pub returns-clause-begin : goal.returns-clause-begin
returns-clause-begin g c = calls_begin _

pub returns-clause-told : goal.returns-clause-told
returns-clause-told g c = calls_are_told _

pub returns-clause-asked : goal.returns-clause-asked
returns-clause-asked g c = calls_are_asked _

pub returns-clause-handed : goal.returns-clause-handed
returns-clause-handed g c = maps_are_handed_on _
