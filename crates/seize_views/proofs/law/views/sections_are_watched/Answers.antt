use Rattle.seize_views.specs.contracts.law.views.sections_are_watched.{T-type}
use Rattle.seize_views.proofs.Views.Guarding.{watches_begin, watches_end, watchers_see, watched_are_shown}
use Rattle.seize_views.proofs.law.views.sections_are_watched.Goals as goal

pub returns-clause-begin : goal.returns-clause-begin
returns-clause-begin g c = watches_begin (T-type g.row.T) g.T.Defers.defers

pub returns-clause-end : goal.returns-clause-end
returns-clause-end g c = watches_end (T-type g.row.T) g.T.Defers.defers

pub returns-clause-see : goal.returns-clause-see
returns-clause-see g c = watchers_see (T-type g.row.T) g.T.Defers.defers

pub returns-clause-shown : goal.returns-clause-shown
returns-clause-shown g c = watched_are_shown (T-type g.row.T) g.T.Defers.defers
