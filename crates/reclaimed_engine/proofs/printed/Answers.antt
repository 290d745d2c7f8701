use Rattle.std.proofs.Common.{◌≡◌, ap, ◌∙◌, subst, nat_eq}
use Rattle.papaya_steps.specs.WholeRuns.Run.{bounded}
use Rattle.run_schedules.specs.Schedules.Runs.{IsRunOf}
use Rattle.papaya_steps.specs.Given.SchedulerPlayed.{terms_given}
use Rattle.reclaimed_engine.specs.Lines.Engine.{terms_of}
use Rattle.reclaimed_engine.proofs.printed.Goals as goal

pub returns-clause-ok : goal.returns-clause-ok
returns-clause-ok c =
    let asked : terms_given (bounded c.setup_of-setup.result) ≡ terms_of c.args.script.events.items = ap (λ setup. terms_given (bounded setup)) c.setup_of-setup.ensures ∙ ap terms_of c.deref.ensures.value in
    (c.in-Ok.run', subst (λ terms. IsRunOf nat_eq terms c.args.script.events.items c.in-Ok.run') asked c.in-Ok.ensures.whole, c.in-Ok-text_of.ensures)
