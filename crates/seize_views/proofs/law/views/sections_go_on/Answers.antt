use Rattle.seize_views.specs.contracts.law.views.sections_go_on.{T-type}
use Rattle.seize_views.proofs.Views.Blocks.{blocks_are_made, made_are_taken, known_are_shown}
use Rattle.seize_views.proofs.Views.Roots.{made_are_linked, made_are_exchanged, roots_are_seen, roots_are_marked, roots_are_cleared, roots_are_withdrawn}
use Rattle.seize_views.proofs.law.views.sections_go_on.Goals as goal

pub returns-clause-made : goal.returns-clause-made
returns-clause-made g c = blocks_are_made (T-type g.row.T) g.T.Defers.defers

pub returns-clause-taken : goal.returns-clause-taken
returns-clause-taken g c = made_are_taken (T-type g.row.T) g.T.Defers.defers

pub returns-clause-linked : goal.returns-clause-linked
returns-clause-linked g c = made_are_linked (T-type g.row.T) g.T.Defers.defers

pub returns-clause-exchanged : goal.returns-clause-exchanged
returns-clause-exchanged g c = made_are_exchanged (T-type g.row.T) g.T.Defers.defers

pub returns-clause-seen : goal.returns-clause-seen
returns-clause-seen g c = roots_are_seen (T-type g.row.T) g.T.Defers.defers

pub returns-clause-marked : goal.returns-clause-marked
returns-clause-marked g c = roots_are_marked (T-type g.row.T) g.T.Defers.defers

pub returns-clause-cleared : goal.returns-clause-cleared
returns-clause-cleared g c = roots_are_cleared (T-type g.row.T) g.T.Defers.defers

pub returns-clause-withdrawn : goal.returns-clause-withdrawn
returns-clause-withdrawn g c = roots_are_withdrawn (T-type g.row.T) g.T.Defers.defers

pub returns-clause-known : goal.returns-clause-known
returns-clause-known g c = known_are_shown (T-type g.row.T) g.T.Defers.defers
