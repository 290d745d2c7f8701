-- A choice of a block number comes.
use Rattle.std.proofs.Common.{[]}
use Rattle.run_schedules.specs.declared.event.Event.TheVariants.{Choose}
use Rattle.run_schedules.specs.declared.outcome.Outcome.TheVariants.{Done}
use Rattle.play_scheduler.proofs.Busy.{none_quiet}
use Rattle.play_scheduler.proofs.Chosen.{choice_plays, has_chosen}
use Rattle.play_scheduler.proofs.Rights.{so_played}
use Rattle.play_scheduler.proofs.scheduler.Scheduler.choose.Goals as goal

pub returns-clause-plays : goal.returns-clause-plays
returns-clause-plays g c =
    λ same hash terms log due.
    so_played same hash terms log (record c.args.self.now { logged = c.choose.new.self }) (Choose c.args.choice) c.quietly.result Done 0 [] c.quietly.ensures.outcome c.quietly.ensures.steps
    c.quietly.ensures.effects (choice_plays same hash terms log c.args.self.now c.args.choice due c.choose.new.self c.in_ok-choose.ensures.chosen)

pub returns-clause-quiet : goal.returns-clause-quiet
returns-clause-quiet g c = none_quiet c.quietly.result.outcome c.quietly.result.effects.items c.quietly.ensures.effects

pub returns-clause-works : goal.returns-clause-works
returns-clause-works g c = has_chosen c.args.self.now c.args.choice c.quietly.result c.quietly.ensures.outcome c.quietly.ensures.effects c.choose.new.self c.in_ok-choose.ensures.chosen
