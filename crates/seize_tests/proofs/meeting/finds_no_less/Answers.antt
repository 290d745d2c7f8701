use Rattle.seize_tests.proofs.BlocksTests.Growing.{loads, meets}
use Rattle.seize_tests.proofs.meeting.finds_no_less.Goals as goal

pub load-found-requires-clause-may : goal.load-found-requires-clause-may
load-found-requires-clause-may c = loads c.seat-one.result.id c.seat-one.result.view

pub meet-requires-clause-may : goal.meet-requires-clause-may
meet-requires-clause-may c = meets c.load-found.new.seat.id c.load-found.new.seat.view c.seat-other.result.id c.seat-other.result.view

pub meet-requires-clause-leans : goal.meet-requires-clause-leans
meet-requires-clause-leans c = λ v u told. (λ n none. absurd none, λ n none. absurd none)

pub load-after-requires-clause-may : goal.load-after-requires-clause-may
load-after-requires-clause-may c = loads c.meet.new.other.id c.meet.new.other.view
