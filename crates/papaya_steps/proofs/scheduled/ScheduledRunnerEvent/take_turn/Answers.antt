-- One more event has happened.
use Rattle.play_events.specs.Given.SchedulerPlayed.{terms_given}
use Rattle.papaya_steps.specs.WholeRuns.Run.{bounded}
use Rattle.papaya_steps.proofs.scheduled.ScheduledRunnerEvent.take_turn.Goals as goal

pub returns : goal.returns
returns g c = λ setup events come. c.in_ok-take_turn.ensures.come (terms_given (bounded setup)) events come
