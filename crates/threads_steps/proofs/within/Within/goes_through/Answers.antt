use Rattle.std.proofs.Common.{ap, ◌∙◌}
use Rattle.std.specs.Prelude.{ℕ, Option}
use Rattle.seize.specs.declared.advance.Advance.{Advance}
use Rattle.threads_rule.specs.Views.Told.{newest_progress}
use Rattle.threads_rule.specs.Errands.Looking.{progress_of_lookup}
use Rattle.threads_rule.proofs.Errands.Runs.{told_last}
use Rattle.threads_steps.proofs.within.Within.goes_through.Goals as goal

pub returns-in-Done-clause-told : goal.returns-in-Done-clause-told
returns-in-Done-clause-told g c =
    let before = c.loop.self.seat.now.view in
    told_last c.args.self.now.seat.now.view before c.looks.new.self.seat.now.view _ c.loop.invariant.3
    (c.looks.ensures.calls ∙ ap (λ (r : Advance (Option ℕ)). newest_progress (progress_of_lookup r) before.calls) c.in-Done.is)
