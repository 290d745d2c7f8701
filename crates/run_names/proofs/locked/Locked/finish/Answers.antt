-- The kept schedule with its run.
use Rattle.std.specs.Prelude.{List}
use Rattle.std.proofs.Common.{sym, subst}
use Rattle.run_schedules.specs.declared.setup.Setup.{Setup}
use Rattle.run_names.specs.Crews.Crew.{events_of}
use Rattle.run_names.specs.declared.kept.KeptEvent.{KeptEvent}
use Rattle.run_names.proofs.locked.Locked.finish.Goals as goal

pub run_of-requires-clause-come : goal.run_of-requires-clause-come
run_of-requires-clause-come g c = λ whole.
    subst (λ (s : Setup). g.R.Runner.has_come s (events_of c.as_slice.result.now) c.self.inside.runner) (sym c.self.invariant.0.0)
    (subst (λ (l : List (KeptEvent g.row.E.Denot)). g.R.Runner.has_come g.N.CrewName.setup (events_of l) c.self.inside.runner) (sym c.as_slice.ensures.value) (c.self.invariant.2 whole))
