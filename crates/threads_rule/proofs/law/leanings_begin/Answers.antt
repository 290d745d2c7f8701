use Rattle.threads_rule.proofs.Views.Keeping.{held_are_kept, kept_are_there}
use Rattle.threads_rule.proofs.Views.Leanings.{leanings_begin, leanings_end}
use Rattle.threads_rule.proofs.law.leanings_begin.Goals as goal

pub returns-clause-begin : goal.returns-clause-begin
returns-clause-begin g c = leanings_begin _

pub returns-clause-end : goal.returns-clause-end
returns-clause-end g c = leanings_end _

pub returns-clause-kept : goal.returns-clause-kept
returns-clause-kept g c = held_are_kept _

pub returns-clause-there : goal.returns-clause-there
returns-clause-there g c = kept_are_there _
