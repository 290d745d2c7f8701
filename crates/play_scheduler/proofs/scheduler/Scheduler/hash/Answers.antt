-- How keys get their hashes is said before a map is made.
use Rattle.std.proofs.Common.{[], refl}
use Rattle.run_schedules.specs.declared.event.Event.TheVariants.{Hash}
use Rattle.play_scheduler.proofs.Busy.{none_quiet}
use Rattle.play_scheduler.proofs.Rights.{so_played}
use Rattle.play_scheduler.proofs.Simple.{hash_plays}
use Rattle.play_scheduler.proofs.scheduler.Scheduler.hash.Goals as goal

pub returns-clause-plays : goal.returns-clause-plays
returns-clause-plays g c =
    λ same hash terms log due.
    so_played same hash terms log c.args.self.now (Hash c.args.by) c.if_so.result _ 0 [] c.if_so.ensures.outcome c.if_so.ensures.steps c.if_so.ensures.effects
    (hash_plays same hash terms log c.args.self.now c.args.by due _ refl)

pub returns-clause-quiet : goal.returns-clause-quiet
returns-clause-quiet g c = none_quiet c.if_so.result.outcome c.if_so.result.effects.items c.if_so.ensures.effects

pub returns-clause-works : goal.returns-clause-works
returns-clause-works g c = (refl, (c.if_so.ensures.effects, refl))
