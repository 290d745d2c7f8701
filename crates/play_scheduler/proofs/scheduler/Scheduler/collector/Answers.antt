-- The collector's setup is the first event alone.
use Rattle.std.proofs.Common.{[], refl}
use Rattle.run_schedules.specs.declared.event.Event.TheVariants.{Collector}
use Rattle.play_scheduler.proofs.Busy.{none_quiet}
use Rattle.play_scheduler.proofs.Rights.{so_played}
use Rattle.play_scheduler.proofs.Simple.{collector_plays}
use Rattle.play_scheduler.proofs.scheduler.Scheduler.collector.Goals as goal

pub returns-clause-plays : goal.returns-clause-plays
returns-clause-plays g c =
    λ same hash terms log first due.
    so_played same hash terms log c.args.self.now (Collector c.args.setup) c.if_so.result _ 0 [] c.if_so.ensures.outcome c.if_so.ensures.steps c.if_so.ensures.effects
    (collector_plays same hash terms log c.args.self.now c.args.setup due c.args.is_first first)

pub returns-clause-quiet : goal.returns-clause-quiet
returns-clause-quiet g c = none_quiet c.if_so.result.outcome c.if_so.result.effects.items c.if_so.ensures.effects

pub returns-clause-works : goal.returns-clause-works
returns-clause-works g c = (refl, (c.if_so.ensures.effects, refl))
