use Rattle.seize_views.specs.contracts.law.views.rows_go_on.{T-type}
use Rattle.seize_views.proofs.Views.GoesOn.{rows_go_on}
use Rattle.seize_views.proofs.Views.Beginnings.{rules_start, seats_come, rows_turn, settlings_begin}
use Rattle.seize_views.proofs.Views.Looks.{looked_are_shown}
use Rattle.seize_views.proofs.law.views.rows_go_on.Goals as goal

pub returns-clause-starts : goal.returns-clause-starts
returns-clause-starts g c = rules_start (T-type g.row.T) g.T.Defers.defers

pub returns-clause-come : goal.returns-clause-come
returns-clause-come g c = seats_come (T-type g.row.T) g.T.Defers.defers

pub returns-clause-on : goal.returns-clause-on
returns-clause-on g c = rows_go_on (T-type g.row.T) g.T.Defers.defers

pub returns-clause-turn : goal.returns-clause-turn
returns-clause-turn g c = rows_turn (T-type g.row.T) g.T.Defers.defers

pub returns-clause-settle : goal.returns-clause-settle
returns-clause-settle g c = settlings_begin (T-type g.row.T) g.T.Defers.defers

pub returns-clause-looked : goal.returns-clause-looked
returns-clause-looked g c = looked_are_shown (T-type g.row.T) g.T.Defers.defers
