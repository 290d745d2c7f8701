-- The run of a kept schedule.
use Rattle.std.specs.Prelude.{List, IfOk}
use Rattle.std.proofs.Common.{subst}
use Rattle.run_names.specs.Crews.Crew.{events_of}
use Rattle.run_names.proofs.locked.run_of.Goals as goal

pub returns-then-is_broken-clause-run : goal.returns-then-is_broken-clause-run
returns-then-is_broken-clause-run g c =
    subst (λ (l : List g.row.E.Denot). IfOk c.run_anew.result (g.R.Runner.is_run c.args.setup l)) c.in_ok-again.ensures c.run_anew.ensures.run

pub end-requires : goal.end-requires
end-requires g c = (c.args.setup, events_of c.args.schedule.now, c.requires.come c.if-is_broken.false)

pub returns-clause-run : goal.returns-clause-run
returns-clause-run g c = c.in_ok-end.ensures c.args.setup (events_of c.args.schedule.now) (c.requires.come c.if-is_broken.false)
