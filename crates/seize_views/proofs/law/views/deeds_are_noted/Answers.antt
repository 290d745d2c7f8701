use Rattle.seize_views.specs.contracts.law.views.deeds_are_noted.{T-type}
use Rattle.seize_views.proofs.Views.Notes.{starts_are_noted, comings_are_noted, steps_are_noted, turns_are_noted, settlings_are_noted, meetings_are_noted, looks_are_noted}
use Rattle.seize_views.proofs.law.views.deeds_are_noted.Goals as goal

pub returns-clause-starts : goal.returns-clause-starts
returns-clause-starts g c = starts_are_noted (T-type g.row.T) g.T.Defers.defers

pub returns-clause-come : goal.returns-clause-come
returns-clause-come g c = comings_are_noted (T-type g.row.T) g.T.Defers.defers

pub returns-clause-steps : goal.returns-clause-steps
returns-clause-steps g c = steps_are_noted (T-type g.row.T) g.T.Defers.defers

pub returns-clause-turns : goal.returns-clause-turns
returns-clause-turns g c = turns_are_noted (T-type g.row.T) g.T.Defers.defers

pub returns-clause-settlings : goal.returns-clause-settlings
returns-clause-settlings g c = settlings_are_noted (T-type g.row.T) g.T.Defers.defers

pub returns-clause-meetings : goal.returns-clause-meetings
returns-clause-meetings g c = meetings_are_noted (T-type g.row.T) g.T.Defers.defers

pub returns-clause-looks : goal.returns-clause-looks
returns-clause-looks g c = looks_are_noted (T-type g.row.T) g.T.Defers.defers
