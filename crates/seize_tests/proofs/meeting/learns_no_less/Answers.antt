use Rattle.seize_tests.proofs.BlocksTests.Growing.{loads, learns}
use Rattle.seize_tests.proofs.meeting.learns_no_less.Goals as goal

pub load-found-requires-clause-may : goal.load-found-requires-clause-may
load-found-requires-clause-may c = loads c.seat-one.result.id c.seat-one.result.view

pub learn-requires-clause-may : goal.learn-requires-clause-may
learn-requires-clause-may c = learns c.seat-other.result.id c.seat-other.result.view c.load-found.new.seat.id c.load-found.new.seat.view

pub learn-requires-clause-leans : goal.learn-requires-clause-leans
learn-requires-clause-leans c = λ v told n none. absurd none

pub load-after-requires-clause-may : goal.load-after-requires-clause-may
load-after-requires-clause-may c = loads c.learn.new.seat.id c.learn.new.seat.view
