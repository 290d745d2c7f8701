use Rattle.seize_views.specs.contracts.law.views.sections_are_leaned_on.{T-type}
use Rattle.seize_views.proofs.Views.Passing.{leanings_begin, leanings_see, leanings_mark, leanings_end, leanings_keep, kept_are_there}
use Rattle.seize_views.proofs.law.views.sections_are_leaned_on.Goals as goal

pub returns-clause-begin : goal.returns-clause-begin
returns-clause-begin g c = leanings_begin (T-type g.row.T) g.T.Defers.defers

pub returns-clause-see : goal.returns-clause-see
returns-clause-see g c = leanings_see (T-type g.row.T) g.T.Defers.defers

pub returns-clause-mark : goal.returns-clause-mark
returns-clause-mark g c = leanings_mark (T-type g.row.T) g.T.Defers.defers

pub returns-clause-end : goal.returns-clause-end
returns-clause-end g c = leanings_end (T-type g.row.T) g.T.Defers.defers

pub returns-clause-keep : goal.returns-clause-keep
returns-clause-keep g c = leanings_keep (T-type g.row.T) g.T.Defers.defers

pub returns-clause-there : goal.returns-clause-there
returns-clause-there g c = kept_are_there (T-type g.row.T) g.T.Defers.defers
