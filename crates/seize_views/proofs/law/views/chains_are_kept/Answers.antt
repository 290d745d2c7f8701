use Rattle.seize_views.specs.contracts.law.views.chains_are_kept.{T-type}
use Rattle.seize_views.proofs.Views.Stacking.{joining_are_made, links_are_written, joining_are_taken, joining_are_put, joining_are_shown}
use Rattle.seize_views.proofs.Views.Walking.{ways_begin, chains_are_seen, links_are_seen, links_are_copied}
use Rattle.seize_views.proofs.law.views.chains_are_kept.Goals as goal

pub returns-clause-turn : goal.returns-clause-turn
returns-clause-turn g c = ways_begin (T-type g.row.T) g.T.Defers.defers

pub returns-clause-made : goal.returns-clause-made
returns-clause-made g c = joining_are_made (T-type g.row.T) g.T.Defers.defers

pub returns-clause-written : goal.returns-clause-written
returns-clause-written g c = links_are_written (T-type g.row.T) g.T.Defers.defers

pub returns-clause-taken : goal.returns-clause-taken
returns-clause-taken g c = joining_are_taken (T-type g.row.T) g.T.Defers.defers

pub returns-clause-put : goal.returns-clause-put
returns-clause-put g c = joining_are_put (T-type g.row.T) g.T.Defers.defers

pub returns-clause-shown : goal.returns-clause-shown
returns-clause-shown g c = joining_are_shown (T-type g.row.T) g.T.Defers.defers

pub returns-clause-seen : goal.returns-clause-seen
returns-clause-seen g c = chains_are_seen (T-type g.row.T) g.T.Defers.defers

pub returns-clause-linked : goal.returns-clause-linked
returns-clause-linked g c = links_are_seen (T-type g.row.T) g.T.Defers.defers

pub returns-clause-copied : goal.returns-clause-copied
returns-clause-copied g c = links_are_copied (T-type g.row.T) g.T.Defers.defers
