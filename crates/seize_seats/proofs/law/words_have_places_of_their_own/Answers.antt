use Rattle.seize_seats.proofs.Seats.Places.Cells.{entries_lie, entries_are_apart}
use Rattle.seize_seats.proofs.Seats.Places.Columns.{words_lie, words_are_apart}
use Rattle.seize_seats.proofs.law.words_have_places_of_their_own.Goals as goal

pub returns-clause-lie : goal.returns-clause-lie
returns-clause-lie g c = words_lie g.row.T.Denot

pub returns-clause-apart : goal.returns-clause-apart
returns-clause-apart g c = words_are_apart g.row.T.Denot

pub returns-clause-entries_lie : goal.returns-clause-entries_lie
returns-clause-entries_lie g c = entries_lie g.row.T.Denot

pub returns-clause-entries_apart : goal.returns-clause-entries_apart
returns-clause-entries_apart g c = entries_are_apart g.row.T.Denot
