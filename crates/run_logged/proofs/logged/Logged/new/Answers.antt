-- Before all events the first moment shows it.
use Rattle.run_logged.proofs.Log.Begins.{first_shown}
use Rattle.run_logged.proofs.logged.Logged.new.Goals as goal

pub returns-clause-shown : goal.returns-clause-shown
returns-clause-shown g c = λ same hash name. first_shown same hash name _ _ (c.in_ok-executor.ensures.stands same hash) c.in_ok-executor.ensures.given.2 c.nothing-notes.ensures

pub returns-clause-maps : goal.returns-clause-maps
returns-clause-maps g c = c.in_ok-executor.ensures.maps

pub returns-clause-notes : goal.returns-clause-notes
returns-clause-notes g c = c.nothing-notes.ensures
